-- Runs of bytes: how far they go, what they leave, and the names and texts that they are.
use mathlib.Core.Path.{◌≡◌, refl, sym, ap, ◌∙◌}
use mathlib.Core.Logic.{◌≢◌}
use mathlib.Core.Bool.{Bool, true, false, cond, not, ◌&&◌, ◌||◌, and-true, and-false, and_assoc}
use mathlib.Core.List.{List, [], ◌∷◌, ◌++◌}
use Prim.Native.Nat.{ℕ, zero, suc, ◌+◌, ◌-◌, ◌≤◌, ◌<◌}
use native.Mathlib.Numerals.{add-one}
use native.Mathlib.Omega.{arith}
use lib.Dec.{eqb, leb, ltb}
use lib.ListN.{length, get_or, take, drop, drop_of_length-le, length-append, length-drop}
use lib.Seq.{take-append_seam, drop-append_seam, take_all, drop-cons, take-suc, drop-drop, length-take-le}
use denote.Enum.Bare.{sameb}
use borrow.Author.Tests.{lt-leb, ltb-false}
use Rattle.std.specs.Prelude.{Option, Some, None}
use Rattle.std.specs.Option.{unwrap_or}
use Rattle.std.specs.List.{position_or_len}
use Rattle.model.specs.Lists.{every}
use Rattle.model.specs.Bytes.{Class, white, letter, digit, hyphen, less, greater, slash, other, forbidden, class_number, is, class_of}
use Rattle.model.specs.Bytes.{letter_byte, name_byte, is_name, same_bytes, within}
use Rattle.model.specs.Text.{name_at, trimmed, text_at}
use Rattle.model.specs.Written.{text_byte}
use Rattle.model.proofs.Tests.{Yes, never, and_yes, yes_not, or_left, same}
use Rattle.model.proofs.ByteLaws.{name-cons}
use Rattle.model.proofs.NameLaws.{bytes_same}
use Rattle.model.proofs.ListLaws.{every-cons}
use Rattle.chars.specs.Classes.{meaning, number, name_class}
use Rattle.chars.proofs.ClassLaws.{number_is, same_number, not_no}
use Rattle.chars.specs.declared.Class as declared
use Rattle.chars.specs.declared.Class.TheVariants.{White}
use Rattle.chars.specs.contracts.Class.{the_type}
use Rattle.read_runs.specs.Runs.{Tests, run, class_within, first_class, trim}

-- ---- the bytes from an offset on

pub here : (s : List ℕ) (i : ℕ) → i < length s → drop i s ≡ get_or s i 0 ∷ drop (i + 1) s
here s i h = rw (add-one, drop-cons s i 0)

-- all bytes from an offset on are those behind it
pub rest_is : (s : List ℕ) (i : ℕ) → take (length s - i) (drop i s) ≡ drop i s
rest_is s i = take_all (length s - i) (drop i s) (omega (arith, length-drop i s))

-- a byte is there where its class is
pub byte_there : (s : List ℕ) (i : ℕ) → first_class (drop i s) < 9 → i < length s
unfolding first_class
byte_there [] zero h = absurd (omega arith)
byte_there [] (suc i) h = absurd (omega arith)
byte_there (b ∷ s) zero h = omega arith
byte_there (b ∷ s) (suc i) h = omega (arith, byte_there s i h)

pub class_there : (s : List ℕ) (i : ℕ) → i < length s → first_class (drop i s) ≡ class_number (class_of (get_or s i 0))
unfolding first_class
class_there s i h = rw (here s i h)

pub class_end : (s : List ℕ) (i : ℕ) → length s ≤ i → first_class (drop i s) ≡ 9
unfolding first_class
class_end s i h = rw (drop_of_length-le s h)

-- the number of a byte's class in code, and of the end, is that which is seen
pub byte_seen : (s : List ℕ) (i : ℕ) (c : declared.Class) {b : ℕ} → i < length s → b ≡ get_or s i 0 → meaning c ≡ class_of b
    → number c ≡ first_class (drop i s)
byte_seen s i c h e m = number_is _ ∙ ap class_number (m ∙ ap class_of e) ∙ sym (class_there s i h)

pub end_seen : (s : List ℕ) (i : ℕ) → length s ≤ i → 9 ≡ first_class (drop i s)
end_seen s i h = sym (class_end s i h)

-- ---- runs

pub run-most : (test : ℕ → Bool) (s : List ℕ) → run test s ≤ length s
unfolding run
run-most test [] = omega arith
run-most test (b ∷ s) = by (test b) (run-most test s)
  where
    by : (t : Bool) → run test s ≤ length s → cond t (suc (run test s)) 0 ≤ suc (length s)
    by true h = omega arith
    by false h = omega arith

-- the end of a run from offset i lies within the bytes
pub run-within : (test : ℕ → Bool) (s : List ℕ) (i : ℕ) → i ≤ length s → i + run test (drop i s) ≤ length s
run-within test s i h = omega (arith, run-most test (drop i s), length-drop i s)

-- a byte that passes the test
pub run_on : (test : ℕ → Bool) (s : List ℕ) (i : ℕ) → i < length s → Yes (test (get_or s i 0)) → run test (drop i s) ≡ suc
    (run test (drop (i + 1) s))
unfolding run
run_on test s i h e = rw (here s i h, e)

-- as many bytes as all pass the test
all_pass : (test : ℕ → Bool) (m : ℕ) (s : List ℕ) → m ≤ length s → Yes (every test (take m s)) → run test s ≡ m + run test (drop m s)
unfolding run
all_pass test zero s h e = omega arith
all_pass test (suc m) [] h e = absurd (omega arith)
all_pass test (suc m) (b ∷ s) h e = let (u, v) = every-cons test b (take m s) e in rw u (omega (arith, all_pass test m s (omega arith) v))

-- a run ends at the first byte that fails the test, or with the bytes
run_position : (test : ℕ → Bool) (s : List ℕ) → position_or_len (λ b. not (test b)) s ≡ run test s
unfolding run
run_position test [] = refl
run_position test (b ∷ s) = by (test b) (run_position test s)
  where
    by : (t : Bool) → position_or_len (λ b. not (test b)) s ≡ run test s
        → cond (not (not t)) (1 + position_or_len (λ b. not (test b)) s) 0 ≡ cond t (suc (run test s)) 0
    by true e = omega arith
    by false e = refl

place_or : (n m : ℕ) → n ≤ m → unwrap_or (cond (ltb n m) (Some n) None) m ≡ n
place_or n m h = by (ltb n m) refl
  where
    by : (t : Bool) → ltb n m ≡ t → unwrap_or (cond t (Some n) None) m ≡ n
    by true e = refl
    by false e = omega (arith, ltb-false n m e)

pub run_found : (test : ℕ → Bool) (s : List ℕ) {found : Option ℕ}
    → found ≡ cond (ltb (position_or_len (λ b. not (test b)) s) (length s)) (Some (position_or_len (λ b. not (test b)) s)) None
    → unwrap_or found (length s) ≡ run test s
run_found test s e =
    rw e (place_or _ (length s) (omega (arith, run_position test s, run-most test s)) ∙ run_position test s)

-- what a closure gives for the class of a byte, reversed
pub fails_by : {gives : declared.Class → Bool → Type 0} {test : ℕ → Bool} → Tests gives test → {c : declared.Class} (b : ℕ) {r v : Bool}
    → v ≡ not r → gives c r → meaning c ≡ class_of b → v ≡ not (test b)
fails_by k b e p m = e ∙ ap not (k _ _ _ m p)

-- past so many bytes that all pass the test, a run from offset i on ends at the same offset x
pub run-all : (test : ℕ → Bool) (s : List ℕ) (i : ℕ) {x : ℕ} → i + run test (drop i s) ≡ x → (m : ℕ) → i + m ≤ length s
    → Yes (every test (take m (drop i s))) → i + m + run test (drop (i + m) s) ≡ x
run-all test s i ends m h e = rw (← drop-drop m i s) (omega (arith, all_pass test m (drop i s) (rw length-drop (omega arith)) e))

-- the run of the first n bytes: it ends before them, or goes on behind them
module _ (test : ℕ → Bool) where
  pub run_cut : (n : ℕ) (s : List ℕ) → run test (take n s) < n → n ≤ length s → run test s ≡ run test (take n s)
  unfolding run
  run_cut zero s h i = absurd (omega arith)
  run_cut (suc n) [] h i = absurd (omega arith)
  run_cut (suc n) (b ∷ s) h i = by (test b) h (run_cut n s)
    where
      by : (t : Bool) → cond t (suc (run test (take n s))) 0 < suc n
          → (run test (take n s) < n → n ≤ length s → run test s ≡ run test (take n s))
          → cond t (suc (run test s)) 0 ≡ cond t (suc (run test (take n s))) 0
      by true h ih = ap (λ (m : ℕ). suc m) (ih (omega arith) (omega arith))
      by false h ih = refl

  pub run_past : (n : ℕ) (s : List ℕ) → n ≤ run test (take n s) → n + run test (drop n s) ≡ run test s
  unfolding run
  run_past zero s h = omega arith
  run_past (suc n) [] h = absurd (omega arith)
  run_past (suc n) (b ∷ s) h = by (test b) h (run_past n s)
    where
      by : (t : Bool) → suc n ≤ cond t (suc (run test (take n s))) 0 → (n ≤ run test (take n s) → n + run test (drop n s) ≡ run test s)
          → suc n + run test (drop n s) ≡ cond t (suc (run test s)) 0
      by true h ih = omega (arith, ih (omega arith))
      by false h ih = absurd (omega arith)

-- a block of m bytes behind the first bytes, so many as are known, and what is left behind the block
module _ (s block after : List ℕ) (known m : ℕ) (within : known ≤ length s) (cut : drop known s ≡ block ++ after)
    (size : length block ≡ m) where
  pub block_there : known + m ≤ length s
  block_there = omega (arith, length-drop known s, ap (λ (l : List ℕ). length l) cut, length-append block after)

  pub block_is : take m (drop known s) ≡ block
  block_is = rw (cut, ← size) (take-append_seam block after)

  pub block_left : after ≡ drop (known + m) s
  block_left = sym (rw (← drop-drop m known s, cut, ← size) (drop-append_seam block after))

-- no white where the first byte's class is another
pub no_white_run : (s : List ℕ) (i : ℕ) → first_class (drop i s) ≢ 0 → run (class_within 0 0) (drop i s) ≡ 0
unfolding run first_class class_within
no_white_run s i h = by (drop i s) h
  where
    by : (l : List ℕ) → first_class l ≢ 0 → run (class_within 0 0) l ≡ 0
    by [] h = refl
    by (b ∷ l) h = rw (lt-leb (class_number (class_of b)) 0 (omega arith), and-false)

every_append : (test : ℕ → Bool) (xs : List ℕ) (x : ℕ) → every test (xs ++ (x ∷ [])) ≡ (every test xs && test x)
unfolding every
every_append test [] x = and-true (test x)
every_append test (y ∷ xs) x = rw (every_append test xs x, and_assoc)

-- a flag that says whether all bytes so far pass a test
pub none-fails : (test : ℕ → Bool) → true ≡ every test []
unfolding every
none-fails test = refl

module _ (test : ℕ → Bool) (s : List ℕ) where
  module _ (i : ℕ) {all : Bool} (told : all ≡ every test (take i s)) where
    pub next-told : i < length s → {next : Bool} → next ≡ test (get_or s i 0) → (all && next) ≡ every test (take (i + 1) s)
    next-told h e = rw (told, e, add-one, take-suc s i 0 h) (sym (every_append test (take i s) (get_or s i 0)))

    pub all-told : length s ≤ i → all ≡ every test s
    all-told h = told ∙ rw (take_all i s h)

pub ruleset block_laws = (none-fails, next-told, all-told)

-- what the byte behind a run is not
pub run_left : (test : ℕ → Bool) (P : ℕ → Type 0) → ((b : ℕ) → test b ≡ false → P (class_number (class_of b))) → P 9
    → (s : List ℕ) → P (first_class (drop (run test s) s))
unfolding run first_class
run_left test P f e [] = e
run_left test P f e (b ∷ s) = by (test b) refl (run_left test P f e s)
  where
    by : (t : Bool) → test b ≡ t → P (first_class (drop (run test s) s)) → P (first_class (drop (cond t (suc (run test s)) 0) (b ∷ s)))
    by true h ih = ih
    by false h ih = f b h

-- ---- tests of a byte by its class

-- a name's bytes are those of classes 1 to 3
name_classes : (c : Class) → (is c letter || (is c digit || is c hyphen)) ≡ within 1 3 (class_number c)
unfolding is class_number
name_classes white = refl
name_classes letter = refl
name_classes digit = refl
name_classes hyphen = refl
name_classes less = refl
name_classes greater = refl
name_classes slash = refl
name_classes other = refl
name_classes forbidden = refl

white_number : (k : Class) → eqb (class_number k) 0 ≡ within 0 0 (class_number k)
unfolding class_number
white_number white = refl
white_number letter = refl
white_number digit = refl
white_number hyphen = refl
white_number less = refl
white_number greater = refl
white_number slash = refl
white_number other = refl
white_number forbidden = refl

pub white_by : (c : declared.Class) (b : ℕ) → meaning c ≡ class_of b → sameb the_type c White ≡ class_within 0 0 b
unfolding class_within
white_by c b e = same_number c White ∙ rw (number_is c, e) (white_number (class_of b))

pub name_by : (c : declared.Class) (b : ℕ) → meaning c ≡ class_of b → name_class (meaning c) ≡ class_within 1 3 b
unfolding class_within name_class
name_by c b e = rw e (name_classes (class_of b))

-- ---- names

pub name-run : (s : List ℕ) → name_at s ≡ take (run (class_within 1 3) s) s
unfolding run name_at name_byte class_within
name-run [] = refl
name-run (b ∷ s) = rw (name_classes (class_of b)) (by (within 1 3 (class_number (class_of b))) (name-run s))
  where
    by : (t : Bool) → name_at s ≡ take (run (class_within 1 3) s) s → cond t (b ∷ name_at s) [] ≡ take
        (cond t (suc (run (class_within 1 3) s)) 0) (b ∷ s)
    by true ih = ap (λ (l : List ℕ). b ∷ l) ih
    by false ih = refl

name_byte_by : (b : ℕ) → name_byte b ≡ within 1 3 (class_number (class_of b))
unfolding name_byte
name_byte_by b = name_classes (class_of b)

-- a name is there where its bytes are, and no byte behind them goes on with it
pub named_by : (name s : List ℕ) → Yes (every name_byte name)
    → same_bytes name (name_at s) ≡ (same_bytes name (take (length name) s) && not (within 1 3 (first_class (drop (length name) s))))
unfolding same_bytes name_at first_class
named_by [] [] h = refl
named_by [] (b ∷ s) h = rw (name_byte_by b) (by (within 1 3 (class_number (class_of b))))
  where
    by : (t : Bool) → same_bytes [] (cond t (b ∷ name_at s) []) ≡ not t
    by true = refl
    by false = refl
named_by (a ∷ name) [] h = refl
named_by (a ∷ name) (b ∷ s) h = let (u, v) = every-cons name_byte a name h in by (eqb a b) refl u (named_by name s v)
  where
    by : (t : Bool) → eqb a b ≡ t → Yes (name_byte a)
        → same_bytes name (name_at s) ≡ (same_bytes name (take (length name) s) && not (within 1 3 (first_class (drop (length name) s))))
        → same_bytes (a ∷ name) (cond (name_byte b) (b ∷ name_at s) []) ≡
        ((t && same_bytes name (take (length name) s)) && not (within 1 3 (first_class (drop (length name) s))))
    by true e u ih = let is_b : Yes (name_byte b) = ap name_byte (sym (same a b e)) ∙ u in rw (is_b, e) ih
    by false e u ih = other (name_byte b)
      where
        other : (t : Bool) → same_bytes (a ∷ name) (cond t (b ∷ name_at s) []) ≡ false
        other true = rw e
        other false = refl

-- the bytes of a name, and its first
pub name-bytes : (name : List ℕ) → Yes (is_name name) → Yes (every name_byte name)
unfolding is_name letter_byte name_byte every
name-bytes [] h = never h
name-bytes (b ∷ name) h = let (u, v) = name-cons b name h in and_yes (or_left _ u) v

pub name-first : (s : List ℕ) → Yes (is_name (name_at s)) → first_class s ≡ 1
unfolding name_at is_name first_class letter_byte is class_number
name-first [] h = never h
name-first (b ∷ s) h = by (name_byte b) h
  where
    by : (t : Bool) → Yes (is_name (cond t (b ∷ name_at s) [])) → class_number (class_of b) ≡ 1
    by true h = same _ _ (name-cons b (name_at s) h).0
    by false h = never h

pub name-length : (s : List ℕ) → length (name_at s) ≡ run (class_within 1 3) s
name-length s = rw (name-run s) (length-take-le _ s (run-most (class_within 1 3) s))

-- a name compared with the one at the front of some bytes: there are too few, they differ, or the byte behind them decides
module _ (s name : List ℕ) where
  pub named-short : length s < length name → same_bytes name (name_at s) ≡ false
  named-short h = by (same_bytes name (name_at s)) refl
    where
      by : (t : Bool) → same_bytes name (name_at s) ≡ t → t ≡ false
      by true e =
          let n : length name ≡ length (name_at s) = ap (λ (l : List ℕ). length l) (bytes_same _ _ e) in
          absurd (omega (arith, name-length s, run-most (class_within 1 3) s))
      by false e = refl

  module _ (well : Yes (is_name name)) {flag : Bool} (compared : flag ≡ same_bytes name (take (length name) s)) where
    named_here : same_bytes name (name_at s) ≡ (flag && not (within 1 3 (first_class (drop (length name) s))))
    named_here = rw compared (named_by name s (name-bytes name well))

    pub named_else : flag ≡ false → same_bytes name (name_at s) ≡ false
    named_else e = rw e at named_here

    pub named_so : flag ≡ true → (k : ℕ) → k ≡ first_class (drop (length name) s) → same_bytes name (name_at s) ≡ not (leb 1 k && leb k 3)
    named_so e k told = rw told (rw e at named_here)

-- ---- texts

-- a byte that a text goes on with is no <
text_no_less : (c : Class) → Yes (not (is c less) && (not (is c greater) && not (is c forbidden))) → is c less ≡ false
unfolding is class_number
text_no_less white h = refl
text_no_less letter h = refl
text_no_less digit h = refl
text_no_less hyphen h = refl
text_no_less less h = never h
text_no_less greater h = refl
text_no_less slash h = refl
text_no_less other h = refl
text_no_less forbidden h = refl

less_ends : (c : Class) → class_number c ≡ 4 → Yes (is c less)
unfolding is class_number
less_ends c e = rw e

-- a text up to the < behind it
pub text_run : (s : List ℕ) → first_class (drop (run text_byte s) s) ≡ 4 → text_at s ≡ trim (take (run text_byte s) s)
unfolding run first_class text_at text_byte trim
text_run [] e = absurd (omega arith)
text_run (b ∷ s) e = by (text_byte b) refl e (text_run s)
  where
    by : (t : Bool) → text_byte b ≡ t → first_class (drop (cond t (suc (run text_byte s)) 0) (b ∷ s)) ≡ 4
        → (first_class (drop (run text_byte s) s) ≡ 4 → text_at s ≡ trim (take (run text_byte s) s))
        → text_at (b ∷ s) ≡ trim (take (cond t (suc (run text_byte s)) 0) (b ∷ s))
    by true h e ih = rw (text_no_less (class_of b) h) (ap (trimmed b) (ih e))
    by false h e ih = rw (less_ends (class_of b) e)

trim_solid : (xs : List ℕ) (b : ℕ) → is (class_of b) white ≡ false → trim (xs ++ (b ∷ [])) ≡ xs ++ (b ∷ [])
unfolding trim trimmed
trim_solid [] b h = rw h
trim_solid (x ∷ xs) b h = ap (trimmed x) (trim_solid xs b h) ∙ more xs
  where
    more : (xs : List ℕ) → trimmed x (xs ++ (b ∷ [])) ≡ x ∷ (xs ++ (b ∷ []))
    more [] = refl
    more (y ∷ ys) = refl

-- the bytes up to one that isn't white
pub trim_stops : (s : List ℕ) (i : ℕ) → i < length s → not (is (class_of (get_or s i 0)) white) ≡ true
    → trim (take (i + 1) s) ≡ take (i + 1) s
trim_stops s i there e = rw (add-one, take-suc s i 0 there) (trim_solid (take i s) (get_or s i 0) (yes_not _ e))

-- bytes that are white from place n on
pub trim_back : (s : List ℕ) (n : ℕ) → n ≤ length s → ((k : ℕ) → n ≤ k → k < length s → not (is (class_of (get_or s k 0)) white) ≡ false)
    → trim (take n s) ≡ trim s
unfolding trim trimmed
trim_back [] zero h blank = refl
trim_back [] (suc n) h blank = absurd (omega arith)
trim_back (b ∷ s) zero h blank =
    let b_white = not_no _ (blank 0 (omega arith) (omega arith)) in
    rw (← trim_back s zero (omega arith) (λ k l m. blank (suc k) (omega arith) (omega arith)), b_white)
trim_back (b ∷ s) (suc n) h blank =
    ap (trimmed b) (trim_back s n (omega arith) (λ k l m. blank (suc k) (omega arith) (omega arith)))

-- trimmed bytes are no more
pub trim-most : (s : List ℕ) → length (trim s) ≤ length s
unfolding trim trimmed
trim-most [] = omega arith
trim-most (b ∷ s) = by (trim s) (trim-most s)
  where
    by : (t : List ℕ) → length t ≤ length s → length (trimmed b t) ≤ suc (length s)
    by [] h = one (is (class_of b) white)
      where
        one : (w : Bool) → length (cond w [] (b ∷ [])) ≤ suc (length s)
        one true = omega arith
        one false = omega arith
    by (c ∷ t) h = omega arith
