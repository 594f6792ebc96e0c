-- How a walk goes on: by a word, by one reader after another, by a key and its reader, by a list of parts.
-- The results in between are variables, each with the equation that a method's contract gives.
use mathlib.Core.Path.{◌≡◌, refl, sym, ap, ◌∙◌}
use mathlib.Core.Bool.{Bool, true, false, cond, ◌&&◌}
use mathlib.Core.List.{List, [], ◌∷◌}
use Prim.Native.Nat.{ℕ, ◌+◌, ◌-◌, ◌*◌, ◌/◌, ◌%◌, ◌^◌, ◌≤◌, ◌<◌, min}
use native.Mathlib.Nat.{sub-zero}
use native.Mathlib.Omega.{arith}
use lib.Dec.{eqb, ltb}
use lib.ListN.{length, get_or}
use borrow.Author.Tests as tests
use Rattle.std.specs.Prelude.{Option, Some, None, Result, Ok, Err}
use Rattle.std.specs.Option.{is_some, unwrap_or, option_map, option_copied}
use Rattle.std.specs.Borrow.{Bor}
use Rattle.std.specs.Result.{IsErr, IsErrAnd}
use Rattle.std.proofs.lemmas.Result.{err_from_is_err_and}
use Rattle.sheet_walk.specs.declared.Bad.{Bad}
use Rattle.sheet_walk.specs.declared.Walk.{Walk}
use Rattle.model.specs.Lists.{has, from, numbers}
use Rattle.model.specs.Sheet.{W, Got, got, bad, Reader, give, then, ◌>>=◌, word, mask, below, one_of, all, set_below, set_words, members}
use Rattle.model.proofs.SetWords.{set_reads}
use Rattle.model.proofs.Spans.{word-here, word_next}
use Rattle.model.proofs.ListLaws.{from_next, length_from}
use Rattle.sheet_walk.specs.Walks.{of_reader, of_method, Goes, GoesPast, GivesWord, GivesSet}

-- what a reader reads where a walk is
abbrev pub read_by : {A : Type 0} → Reader A → Walk → Got A
read_by r x = r x.words.now x.at

-- where it goes on, or the bad word
abbrev pub past : {A : Type 0} → Got A → Got (Unit {0})
past g = of_reader (λ a. tt) g

-- what a `?` hands on, if it is the error b
abbrev pub HandsOn : {T : Type 0} → Result T Bad → Bad → Type 0
HandsOn v b = IsErr v × IsErrAnd v (λ c. c ≡ b)

pub handed_on : {T : Type 0} {v : Result T Bad} {b : Bad} → HandsOn v b → v ≡ Err b
handed_on {v = v} h = let p = err_from_is_err_and v h.1 in rw (p.1, p.2)

-- ---- what a result tells of the reader

from_bad : {A B : Type 0} (value : A → B) (g : Got A) {k : ℕ} → bad k ≡ of_reader value g → g ≡ bad k
unfolding of_reader
from_bad value (got a n) e = cc
from_bad value (bad k) e = cc

from_got : {A B : Type 0} (value : A → B) (g : Got A) {b : B} {i : ℕ} → got b i ≡ of_reader value g
    → (a : A) × (g ≡ got a i) × (b ≡ value a)
unfolding of_reader
from_got value (got a n) e = (a, cc, cc)
from_got value (bad k) e = cc

module _ {A B : Type 0} {value : A → B} {r : Reader A} {x y : Walk} {u : Result B Bad} (h : Goes value r x u y) where
  pub refused : {b : Bad} → u ≡ Err b → read_by r x ≡ bad b.0
  unfolding of_method
  refused e = from_bad value _ (rw e at h.gives)

  pub taken : {b : B} → u ≡ Ok b → (a : A) × (read_by r x ≡ got a y.at) × (b ≡ value a)
  unfolding of_method
  taken e = from_got value _ (rw e at h.gives)

  -- the same of the words by another name
  on : {s : List ℕ} {g : Got A} → x.words.now ≡ s → read_by r x ≡ g → r s x.at ≡ g
  on same read = rw same at read

  pub taken_on : {s : List ℕ} → x.words.now ≡ s → {b : B} → u ≡ Ok b → (a : A) × (r s x.at ≡ got a y.at) × (b ≡ value a)
  taken_on same e = let (a, read, is) = taken e in (a, on same read, is)

pub word_taken_on : {r : Reader ℕ} {x y : Walk} {u : Result ℕ Bad} {w : ℕ} → GivesWord r x u y → {s : List ℕ} → x.words.now ≡ s → u ≡ Ok w
    → r s x.at ≡ got w y.at
word_taken_on h same e = let (a, read, is) = taken_on h same e in rw is read

pub word_taken : {r : Reader ℕ} {x y : Walk} {u : Result ℕ Bad} {w : ℕ} → GivesWord r x u y → u ≡ Ok w → read_by r x ≡ got w y.at
word_taken h e = word_taken_on h refl e

-- ---- a word

-- what `get` finds, copied
pub copied_some : (o : Option (Bor ℕ)) {w : ℕ} → Some w ≡ option_copied o
    → (is_some o ≡ true) × (w ≡ unwrap_or (option_map (λ x. x.now) o) 0)
copied_some (Some b) e = (refl, cc)
copied_some None e = cc

pub copied_none : (o : Option (Bor ℕ)) → None ≡ option_copied o → is_some o ≡ false
copied_none (Some b) e = cc
copied_none None e = refl

-- the word of a walk, by the outcome of its test
module _ (ok : ℕ → Bool) (x : Walk) where
  pub word_good : {w : ℕ} → true ≡ ltb x.at (length x.words.now) → w ≡ get_or x.words.now x.at 0 → true ≡ ok w
      → GivesWord (word ok) x (Ok w) (record x { at = x.at + 1 })
  unfolding of_reader of_method word
  word_good l e t = let f = sym e in let k = sym l in let y = sym t in record { words = refl; gives = rw (f, k, y) }

  pub word_unfit : {w : ℕ} → true ≡ ltb x.at (length x.words.now) → w ≡ get_or x.words.now x.at 0 → false ≡ ok w
      → GivesWord (word ok) x (Err (record { 0 = x.at })) x
  unfolding of_reader of_method word
  word_unfit l e t = let f = sym e in let k = sym l in let y = sym t in record { words = refl; gives = rw (f, k, y) }

  pub word_missing : false ≡ ltb x.at (length x.words.now) → GivesWord (word ok) x (Err (record { 0 = x.at })) x
  unfolding of_reader of_method word
  word_missing l = let k = sym l in record { words = refl; gives = rw k refl }

-- the word that a reader gives is the one at its index, which is there
word_there : (ok : ℕ → Bool) (s : List ℕ) (i : ℕ) {w n : ℕ} → word ok s i ≡ got w n → (i < length s) × (get_or s i 0 ≡ w) × (n ≡ i + 1)
unfolding word
word_there ok s i {w} {n} = go (ltb i (length s)) (ok (get_or s i 0)) refl
  where
    go : (a b : Bool) → ltb i (length s) ≡ a → cond (a && b) (got (get_or s i 0) (i + 1)) (bad i) ≡ got w n
        → (i < length s) × (get_or s i 0 ≡ w) × (n ≡ i + 1)
    go true true l e = (tests.ltb-true i (length s) l, cc, cc)
    go true false l e = cc
    go false b l e = cc

-- ---- one reader after another

-- a walk goes nowhere by the reader that reads no word
pub nowhere : {C D : Type 0} {end : C → D} (c : C) {x : Walk} → Goes end (give c) x (Ok (end c)) x
unfolding of_reader of_method
nowhere c = record { words = refl; gives = refl }

-- past a part: where it stopped, and where it went on
module _ {A B C D : Type 0} {value : A → B} {end : C → D} {r : Reader A} {x y : Walk} {u : Result B Bad} (h : Goes value r x u y) where
  pub stops : (f : A → Reader C) {v : Result D Bad} {b : Bad} → u ≡ Err b → HandsOn v b → Goes end (r >>= f) x v y
  unfolding of_reader of_method then
  stops f e k = record { words = h.words; gives = rw (handed_on k, refused h e) refl }

  goes_on : (f : A → Reader C) {a : A} {v : Result D Bad} {z : Walk} → read_by r x ≡ got a y.at → Goes end (f a) y v z
      → Goes end (r >>= f) x v z
  unfolding then
  goes_on f read k = record { words = k.words ∙ h.words; gives = rw read (rw h.words at k.gives) }

  pub passes : (f : A → Reader C) {b : B} → u ≡ Ok b → {v : Result D Bad} {z : Walk}
      → ((a : A) → read_by r x ≡ got a y.at → b ≡ value a → Goes end (f a) y v z) → Goes end (r >>= f) x v z
  passes f e k = let (a, read, is) = taken h e in goes_on f read (k a read is)

-- past a word
pub word_passes : {C D : Type 0} {end : C → D} {r : Reader ℕ} {x y z : Walk} {u : Result ℕ Bad} {w : ℕ} {v : Result D Bad}
    → GivesWord r x u y → (f : ℕ → Reader C) → u ≡ Ok w → Goes end (f w) y v z → Goes end (r >>= f) x v z
word_passes h f e k = passes h f e (λ a _ is. rw is at k)

-- after a refusal the walk may as well be where it was
pub refused_at_start : {A B : Type 0} {value : A → B} {r : Reader A} {x y : Walk} {v : Result B Bad} (b : Bad) → HandsOn v b
    → Goes value r x v y → Goes value r x v x
unfolding of_method
refused_at_start b k h = let e = handed_on k in record { words = refl; gives = rw e (rw e at h.gives) }

-- past a part without its value
module _ {A B : Type 0} {value : A → B} {r : Reader A} {x y : Walk} {u : Result B Bad} (h : Goes value r x u y) where
  pub past_bad : {v : Result (Unit {0}) Bad} {b : Bad} → u ≡ Err b → HandsOn v b → GoesPast r x v y
  unfolding of_reader of_method
  past_bad e k = record { words = h.words; gives = rw (handed_on k, refused h e) refl }

  pub past_value : {b : B} → u ≡ Ok b → GoesPast r x (Ok tt) y
  unfolding of_reader of_method
  past_value e = let (_, read, _) = taken h e in record { words = h.words; gives = rw read }

-- after the last part
past_alike : {A C : Type 0} (s : List ℕ) (f : A → C) (g : Got A) → past g ≡ past (then s g (λ a. give (f a)))
unfolding of_reader then
past_alike s f (got a n) = refl
past_alike s f (bad k) = refl

pub last : {A C : Type 0} {r : Reader A} {x y : Walk} {u : Result (Unit {0}) Bad} (f : A → C) → GoesPast r x u y
    → GoesPast (r >>= λ a. give (f a)) x u y
last {r = r} {x = x} f h = record { words = h.words; gives = h.gives ∙ past_alike x.words.now f (read_by r x) }

-- a set's two words
pub set_read : (k : ℕ) {x y z : Walk} {a b : ℕ} {u v : Result ℕ Bad} → a ≡ min k 32 → b ≡ k - 32 → GivesWord (word (below (2 ^ a))) x u y
    → GivesWord (word (below (2 ^ b))) y v z → {low high : ℕ} → u ≡ Ok low → v ≡ Ok high → {set : ℕ} → set ≡ low + high * W
    → GivesSet k x (Ok set) z
unfolding set_below set_words then of_reader of_method
set_read k {x} {y} {z} ea eb h j {low} {high} el eh {set} es =
    let s = x.words.now in
    let i = x.at in
    let first = rw ea at (word_taken h el) in
    let second = rw (eb, h.words) at (word_taken j eh) in
    let passed : set_below k s i ≡ got (members k (low + high * W)) z.at = rw (first, second) in
    let bits = mask k (has (members k (low + high * W))) in
    let there = ((set_reads k).forwards passed).1 in
    let low_bits : get_or s i 0 ≡ bits % W = word-here there in
    let high_bits : get_or s (i + 1) 0 ≡ bits / W = word-here (word_next there) in
    let (_, low_is, next_is) = word_there _ s i first in
    let (_, high_is, _) = word_there _ s y.at second in
    let both : set ≡ bits = omega (arith, es, rw next_is at high_is) in
    record { words = j.words ∙ h.words; gives = rw passed (ap (λ (m : ℕ). got m z.at) both) }

-- ---- a key, and the reader that it chooses

word_lacks : (s : List ℕ) (i : ℕ) {k : ℕ} → word (λ w. true) s i ≡ bad k → (length s ≤ i) × (i ≡ k)
unfolding word
word_lacks s i {k} = go (ltb i (length s)) refl
  where
    go : (a : Bool) → ltb i (length s) ≡ a → cond (a && true) (got (get_or s i 0) (i + 1)) (bad i) ≡ bad k → (length s ≤ i) × (i ≡ k)
    go true l e = cc
    go false l e = (tests.ltb-false i (length s) l, cc)

-- the reader of the key k; where k is no key of the table, the word at i is bad
abbrev pub chosen : {A : Type 0} → ℕ → List (ℕ × Reader A) → (i : ℕ) → Reader A
chosen k [] i = λ s at. bad i
chosen k (c ∷ cs) i = λ s at. cond (eqb k c.0) (c.1 s at) (chosen k cs i s at)

table : {A : Type 0} (cs : List (ℕ × Reader A)) (s : List ℕ) (i : ℕ) → i < length s → chosen (get_or s i 0) cs i s (i + 1) ≡ one_of cs s i
unfolding one_of
table [] s i h = refl
table (c ∷ cs) s i h =
    rw (tests.lt-ltb i (length s) h) (ap (λ g. cond (eqb (get_or s i 0) c.0) (c.1 s (i + 1)) g) (table cs s i h))

no_key : {A : Type 0} (cs : List (ℕ × Reader A)) (s : List ℕ) (i : ℕ) → length s ≤ i → one_of cs s i ≡ bad i
unfolding one_of
no_key [] s i h = refl
no_key (c ∷ cs) s i h = rw (tests.le-ltb i (length s) h) (no_key cs s i h)

-- past a key and what it chooses; and where there is no word at all, or it is no key
module _ {A D : Type 0} {end : A → D} (cs : List (ℕ × Reader A)) {x y : Walk} {u : Result ℕ Bad}
    (h : GivesWord (word (λ w. true)) x u y) where
  pub keyed : {w k : ℕ} → u ≡ Ok w → w ≡ k → {v : Result D Bad} {z : Walk} → Goes end (chosen k cs x.at) y v z → Goes end (one_of cs) x v z
  keyed {w} {k} e is j =
      let (there, at, next) = word_there _ x.words.now x.at (word_taken h e) in
      let found : get_or x.words.now x.at 0 ≡ k = at ∙ is in
      let step = rw found at (table cs x.words.now x.at there) in
      record { words = j.words ∙ h.words; gives = rw (← step) (rw (h.words, next) at j.gives) }

  pub keyless : {b : Bad} → u ≡ Err b → {v : Result D Bad} → HandsOn v b → Goes end (one_of cs) x v y
  unfolding of_reader of_method
  keyless e k =
      let (past, at) = word_lacks x.words.now x.at (refused h e) in
      record { words = h.words; gives = rw (handed_on k, no_key cs x.words.now x.at past, at) refl }

pub bad_there : {A D : Type 0} {end : A → D} {r : Reader A} {y : Walk} {i : ℕ} → read_by r y ≡ bad i
    → Goes end r y (Err (record { 0 = i })) y
unfolding of_reader of_method
bad_there e = record { words = refl; gives = rw e refl }

-- ---- a list of parts

-- a loop over the parts 0 to n − 1, at part i, from x to y: the parts that are left lead to the end that all of them lead to
pub record Leads {A : Type 0} (r : ℕ → Reader A) (n i : ℕ) (x y : Walk) : Type 0 where
  pub words : y.words.now ≡ x.words.now
  pub end : past (read_by (all r (from (n - i) i)) y) ≡ past (read_by (all r (numbers n)) x)

pub leads_first : {A : Type 0} {r : ℕ → Reader A} {n : ℕ} {x : Walk} → Leads r n 0 x x
leads_first {n = n} = record { words = refl; end = rw (sub-zero n) }

module _ {A : Type 0} {r : ℕ → Reader A} {n i : ℕ} {x y : Walk} (inv : Leads r n i x y) where
  leads_on : i < n → {z : Walk} {a : A} → z.words.now ≡ y.words.now → read_by (r i) y ≡ got a z.at → Leads r n (i + 1) x z
  unfolding all then
  leads_on l {z} {a} same read = record {
    words = same ∙ inv.words;
    end = past_alike y.words.now (λ more. a ∷ more) (read_by (all r (from (n - (i + 1)) (i + 1))) z)
        ∙ rw same (rw (from_next i n l, read) at inv.end);
  }

  pub leads_more : i < n → {B : Type 0} {value : A → B} {u : Result B Bad} {z : Walk} {b : B} → Goes value (r i) y u z → u ≡ Ok b
      → Leads r n (i + 1) x z
  leads_more l h e = let (_, read, _) = taken h e in leads_on l h.words read

  -- it ends where part i is bad, and after the last part
  pub leads_bad : i < n → {B : Type 0} {value : A → B} {u : Result B Bad} {z : Walk} {b : Bad} → Goes value (r i) y u z → u ≡ Err b
      → {v : Result (Unit {0}) Bad} → HandsOn v b → GoesPast (all r (numbers n)) x v z
  unfolding all then of_reader of_method
  leads_bad l h e k = record {
    words = h.words ∙ inv.words;
    gives = rw (handed_on k) (rw (from_next i n l, refused h e) at inv.end);
  }

  pub leads_done : n ≤ i → GoesPast (all r (numbers n)) x (Ok tt) y
  unfolding all from of_reader of_method
  leads_done l = let e : n - i ≡ 0 = omega arith in record { words = inv.words; gives = rw e at inv.end }

-- parts that leave off where others do lead to the same end, if there are as many
same_ends : {A B C : Type 0} (r : B → Reader A) (q : Reader C) (s : List ℕ) → ((b : B) (i : ℕ) → past (r b s i) ≡ past (q s i))
    → (l : List B) (m : List ℕ) → length l ≡ length m → (i : ℕ) → past (all r l s i) ≡ past (all (λ j. q) m s i)
unfolding all then of_reader
same_ends r q s alike [] [] e i = refl
same_ends r q s alike [] (j ∷ m) e i = absurd (omega arith)
same_ends r q s alike (b ∷ l) [] e i = absurd (omega arith)
same_ends {A} {C = C} r q s alike (b ∷ l) (j ∷ m) e i = go (same_ends r q s alike l m (omega arith)) (r b s i) (q s i) (alike b i)
  where
    go : ((k : ℕ) → past (all r l s k) ≡ past (all (λ j. q) m s k)) → (g : Got A) (h : Got C) → past g ≡ past h
        → past (then s g (λ a. all r l >>= λ rest. give (a ∷ rest))) ≡ past (then s h (λ c. all (λ j. q) m >>= λ rest. give (c ∷ rest)))
    go others (got a n) (got c k) f =
        let n_is : n ≡ k = cc in
        sym (past_alike s (λ rest. a ∷ rest) (all r l s n)) ∙ rw n_is (others k) ∙ past_alike s (λ rest. c ∷ rest) (all (λ j. q) m s k)
    go others (got a n) (bad k) f = cc
    go others (bad n) (got c k) f = cc
    go others (bad n) (bad k) f = f

-- so parts of one word each lead where the words do
pub all_words : {A B : Type 0} (ok : ℕ → Bool) (f : B → ℕ → A) (l : List B) {n : ℕ} {x y : Walk} {u : Result (Unit {0}) Bad} → length l ≡ n
    → GoesPast (all (λ j. word ok) (numbers n)) x u y → GoesPast (all (λ b. word ok >>= λ w. give (f b w)) l) x u y
all_words ok f l {n} {x} e h =
    let s = x.words.now in
    let alike = same_ends (λ b. word ok >>= λ w. give (f b w)) (word ok) s (λ b j. sym (past_alike s (f b) (word ok s j))) l (numbers n)
    (e ∙ sym (length_from n 0)) x.at in
    record { words = h.words; gives = h.gives ∙ sym alike }
