-- The sheet: document 01, "The sheet", and refusal 9. A sheet is a sheaves automaton (source document 001, section 5).
use Rattle.std.specs.Prelude.{◌≡◌, Bool, true, cond, ◌&&◌, ℕ, zero, suc, ◌+◌, ◌-◌, ◌*◌, ◌/◌, ◌%◌, ◌^◌, ◌≤◌, ◌<◌, min, eqb, ltb, leb, length, get_or, take, ℤ, pos, negsuc}
use mathlib.Core.List.{List, [], ◌∷◌, ◌++◌, map, flat_map}
use Rattle.std.proofs.Math.Option.{Option, none, some}
use Rattle.model.specs.Lists.{◌∈◌, has, only, numbers, SetBelow}
use Rattle.model.specs.Answers.{Checked, passes, refuses}

-- ---- sheets

-- an arc: the position it leaves, the state it reads, the position it enters
pub record Arc : Type 0 where
  pub leaves : ℕ
  pub reads : ℕ
  pub enters : ℕ

-- an order part: a finite automaton over the states, with positions 0 to `positions` − 1
pub record Order : Type 0 where
  pub positions : ℕ
  pub accepting : List ℕ
  pub arcs : List Arc

pub record Coefficient : Type 0 where
  pub state : ℕ
  pub times : ℤ

-- a step of a count part: at most a bound; a remainder r on division by M; not, and, or of earlier steps
pub data Step : Type 0 where
  at_most : List Coefficient → (bound : ℤ) → Step
  remainder : List Coefficient → (modulus r : ℕ) → Step
  not_step : (i : ℕ) → Step
  and_step or_step : (i j : ℕ) → Step

-- Rules of the three kinds: a text of a kind; a tag with an inner state; content whose child states fit an order part
-- and a count part. No order part means All, no count part True.
pub data Rule : Type 0 where
  one : (kind target : ℕ) → Rule
  two : (name inner target : ℕ) → Rule
  three : Option Order → Option (List Step) → (target : ℕ) → Rule

pub record Sheet : Type 0 where
  pub states : ℕ
  pub final : List ℕ
  pub tags : ℕ
  pub rules : List Rule

-- ---- the words of a sheet

abbrev pub W : ℕ
W = 2 ^ 32

-- The number whose bit i is f i, for i below k; a set of numbers below k is two words, low then high 32 bits.
unfoldable pub mask : ℕ → (ℕ → Bool) → ℕ
mask zero f = zero
mask (suc k) f = cond (f 0) 1 0 + 2 * mask k (λ i. f (suc i))

unfoldable pub set_words : ℕ → List ℕ → List ℕ
set_words k l = mask k (has l) % W ∷ mask k (has l) / W ∷ []

-- a two's complement word
unfoldable pub signed_word : ℤ → ℕ
signed_word (pos n) = n
signed_word (negsuc n) = W - 1 - n

-- bits 16 to 23 the position it leaves, bits 8 to 15 the state it reads, bits 0 to 7 the position it enters
unfoldable pub arc_word : Arc → ℕ
arc_word a = a.leaves * 2 ^ 16 + a.reads * 2 ^ 8 + a.enters

-- number of positions; accepting positions; number of arcs; the arcs
unfoldable pub order_words : Order → List ℕ
order_words o = o.positions ∷ (set_words o.positions o.accepting ++ (length o.arcs ∷ map arc_word o.arcs))

-- marks, and a coefficient for each marked state, lowest first
abbrev pub marks : List Coefficient → List ℕ
marks cs = map (λ c. c.state) cs

unfoldable pub sum_words : ℕ → List Coefficient → List ℕ
sum_words p cs = set_words p (marks cs) ++ map (λ c. signed_word c.times) cs

-- a step begins with its kind
unfoldable pub step_words : ℕ → Step → List ℕ
step_words p (at_most cs b) = 1 ∷ (sum_words p cs ++ (signed_word b ∷ []))
step_words p (remainder cs m r) = 2 ∷ (sum_words p cs ++ (m ∷ r ∷ []))
step_words p (not_step i) = 3 ∷ i ∷ []
step_words p (and_step i j) = 4 ∷ i ∷ j ∷ []
step_words p (or_step i j) = 5 ∷ i ∷ j ∷ []

unfoldable pub count_words : ℕ → List Step → List ℕ
count_words p ss = length ss ∷ flat_map (step_words p) ss

-- a rule is its map, then its fields
unfoldable pub rule_words : ℕ → Rule → List ℕ
rule_words p (one k q) = 33 ∷ k ∷ q ∷ []
rule_words p (two a c q) = 38 ∷ a ∷ c ∷ q ∷ []
rule_words p (three none none q) = 32 ∷ q ∷ []
rule_words p (three (some o) none q) = 40 ∷ (order_words o ++ (q ∷ []))
rule_words p (three none (some ss) q) = 48 ∷ (count_words p ss ++ (q ∷ []))
rule_words p (three (some o) (some ss) q) = 56 ∷ (order_words o ++ (count_words p ss ++ (q ∷ [])))

-- edition, number of states, final states, number of tags, number of rules, the rules
unfoldable pub sheet_words : Sheet → List ℕ
sheet_words s =
    1 ∷ s.states ∷ (set_words s.states s.final ++ (s.tags ∷ length s.rules ∷ flat_map (rule_words s.states) s.rules))

-- ---- the ranges

-- coefficients from −32,768 to 32,767, never 0 (negsuc n is −1 − n)
unfoldable pub small : ℤ → Bool
small (pos n) = leb 1 n && leb n 32767
small (negsuc n) = ltb n 32768

-- a signed 32-bit number
unfoldable pub signed_32 : ℤ → Bool
signed_32 (pos n) = ltb n (2 ^ 31)
signed_32 (negsuc n) = ltb n (2 ^ 31)

pub record ArcInRange (p m : ℕ) (a : Arc) : Type 0 where
  pub leaves : a.leaves < m
  pub reads : a.reads < p
  pub enters : a.enters < m

pub record OrderInRange (p : ℕ) (o : Order) : Type 0 where
  pub some_positions : 1 ≤ o.positions
  pub few_positions : o.positions ≤ 64
  pub accepting : SetBelow o.positions o.accepting
  pub few_arcs : length o.arcs ≤ 1024
  pub arcs : (a : Arc) → a ∈ o.arcs → ArcInRange p o.positions a

pub record SumInRange (p : ℕ) (cs : List Coefficient) : Type 0 where
  pub marked : SetBelow p (marks cs)
  pub coefficients : (c : Coefficient) → c ∈ cs → small c.times ≡ true

-- step i: the numbers of earlier steps are below i
abbrev pub StepInRange : ℕ → ℕ → Step → Type 0
StepInRange p i (at_most cs b) = SumInRange p cs × (signed_32 b ≡ true)
StepInRange p i (remainder cs m r) = SumInRange p cs × (1 ≤ m) × (m ≤ 1000) × (r < m)
StepInRange p i (not_step j) = j < i
StepInRange p i (and_step j k) = (j < i) × (k < i)
StepInRange p i (or_step j k) = (j < i) × (k < i)

abbrev pub StepsInRange : ℕ → ℕ → List Step → Type 0
StepsInRange p i [] = Unit {0}
StepsInRange p i (s ∷ ss) = StepInRange p i s × StepsInRange p (suc i) ss

pub record CountInRange (p : ℕ) (ss : List Step) : Type 0 where
  pub some_steps : 1 ≤ length ss
  pub few_steps : length ss ≤ 32
  pub steps : StepsInRange p 0 ss

abbrev pub IfAny : {A : Type 0} → (A → Type 0) → Option A → Type 0
IfAny P none = Unit {0}
IfAny P (some a) = P a

abbrev pub RuleInRange : ℕ → ℕ → Rule → Type 0
RuleInRange p g (one k q) = (1 ≤ k) × (k ≤ 2) × (q < p)
RuleInRange p g (two a c q) = (1 ≤ a) × (a ≤ g) × (c < p) × (q < p)
RuleInRange p g (three o c q) = IfAny (OrderInRange p) o × IfAny (CountInRange p) c × (q < p)

pub record InRange (s : Sheet) : Type 0 where
  pub some_states : 1 ≤ s.states
  pub few_states : s.states ≤ 64
  pub final : SetBelow s.states s.final
  pub some_tags : 1 ≤ s.tags
  pub few_tags : s.tags ≤ 64
  pub few_rules : length s.rules ≤ 1024
  pub rules : (r : Rule) → r ∈ s.rules → RuleInRange s.states s.tags r
  pub few_words : length (sheet_words s) ≤ 16384

-- ---- reading words one after another, by index

-- a value and the index of the next word, or the place of the first bad word
pub data Got (A : Type 0) : Type 0 where
  got : A → (next : ℕ) → Got A
  bad : (place : ℕ) → Got A

-- of the words s, from index `at` on
abbrev pub Reader : Type 0 → Type 0
Reader A = List ℕ → ℕ → Got A

abbrev pub give : {A : Type 0} → A → Reader A
give a = λ s at. got a at

unfoldable pub then : {A B : Type 0} → List ℕ → Got A → (A → Reader B) → Got B
then s (got a n) f = f a s n
then s (bad k) f = bad k

infixl 20 ◌>>=◌
abbrev pub ◌>>=◌ : {A B : Type 0} → Reader A → (A → Reader B) → Reader B
r >>= f = λ s at. then s (r s at) f

-- A word that passes a test. Where it fails, or where no word is left, this is the place.
unfoldable pub word : (ℕ → Bool) → Reader ℕ
word ok s at = cond (ltb at (length s) && ok (get_or s at 0)) (got (get_or s at 0) (at + 1)) (bad at)

abbrev pub between : ℕ → ℕ → ℕ → Bool
between a b x = leb a x && leb x b

abbrev pub below : ℕ → ℕ → Bool
below n x = ltb x n

-- a word that is one of the keys, then what its reader reads; any other word is bad
unfoldable pub one_of : {A : Type 0} → List (ℕ × Reader A) → Reader A
one_of [] s at = bad at
one_of (c ∷ cs) s at = cond (ltb at (length s) && eqb (get_or s at 0) c.0) (c.1 s (at + 1)) (one_of cs s at)

-- a reader for each element of a list, in order
unfoldable pub all : {A B : Type 0} → (B → Reader A) → List B → Reader (List A)
all r [] = give []
all r (b ∷ l) = r b >>= λ a. all r l >>= λ rest. give (a ∷ rest)

-- ---- refusal 9: what each word may be

-- bit i of n; the numbers below k whose bit stands in n, lowest first
unfoldable pub bit : ℕ → ℕ → Bool
bit n i = eqb (n / 2 ^ i % 2) 1

unfoldable pub members : ℕ → ℕ → List ℕ
members k n = flat_map (λ i. only (bit n i) i) (numbers k)

-- a set of numbers below k: two words, low then high; none at k or above
unfoldable pub set_below : ℕ → Reader (List ℕ)
set_below k = do
  low ← word (below (2 ^ min k 32))
  high ← word (below (2 ^ (k - 32)))
  give (members k (low + high * W))

-- the position that an arc leaves, the state that it reads, the position that it enters
abbrev pub arc_of : ℕ → Arc
arc_of w = record { leaves = w / 2 ^ 16 % 2 ^ 8; reads = w / 2 ^ 8 % 2 ^ 8; enters = w % 2 ^ 8 }

unfoldable pub arc_ok : ℕ → ℕ → ℕ → Bool
arc_ok p m w = ltb (arc_of w).leaves m && (ltb (arc_of w).reads p && (ltb (arc_of w).enters m && eqb (w / 2 ^ 24) 0))

unfoldable pub arc : ℕ → ℕ → Reader Arc
arc p m = do
  w ← word (arc_ok p m)
  give (arc_of w)

-- number of positions m, 1 to 64; accepting positions, none at m or above; number of arcs, 0 to 1,024; the arcs
unfoldable pub order : ℕ → Reader Order
order p = do
  m ← word (between 1 64)
  accepting ← set_below m
  n ← word (between 0 1024)
  arcs ← all (λ i. arc p m) (numbers n)
  give (record { positions = m; accepting = accepting; arcs = arcs })

-- the number that a two's complement word stands for
unfoldable pub signed : ℕ → ℤ
signed w = cond (ltb w (2 ^ 31)) (pos w) (negsuc (W - 1 - w))

unfoldable pub coefficient : ℕ → Reader Coefficient
coefficient q = do
  w ← word (λ w. below W w && small (signed w))
  give (record { state = q; times = signed w })

-- a low and a high word marking states, a coefficient for each marked state, lowest first
unfoldable pub sum : ℕ → Reader (List Coefficient)
sum p = do
  marked ← set_below p
  all coefficient marked

-- kind 1, at most: a sum and a bound
unfoldable pub at_most_step : ℕ → Reader Step
at_most_step p = do
  cs ← sum p
  bound ← word (below W)
  give (at_most cs (signed bound))

-- kind 2, remainder: a sum, modulus M, 1 to 1,000, and r, 0 to M − 1
unfoldable pub remainder_step : ℕ → Reader Step
remainder_step p = do
  cs ← sum p
  m ← word (between 1 1000)
  r ← word (below m)
  give (remainder cs m r)

-- kinds 3, 4 and 5: one or two numbers of earlier steps, of which there are i
unfoldable pub one_earlier : (ℕ → Step) → ℕ → Reader Step
one_earlier f i = do
  j ← word (below i)
  give (f j)

unfoldable pub two_earlier : (ℕ → ℕ → Step) → ℕ → Reader Step
two_earlier f i = do
  j ← word (below i)
  k ← word (below i)
  give (f j k)

-- each step begins with its kind
unfoldable pub step : ℕ → ℕ → Reader Step
step p i =
    one_of
    ((1, at_most_step p) ∷ (2, remainder_step p) ∷ (3, one_earlier not_step i) ∷ (4, two_earlier and_step i)
    ∷ (5, two_earlier or_step i) ∷ [])

-- number of steps, 1 to 32; the steps
unfoldable pub steps : ℕ → Reader (List Step)
steps p = do
  n ← word (between 1 32)
  all (step p) (numbers n)

-- every rule ends with its target state
unfoldable pub target : ℕ → (ℕ → Rule) → Reader Rule
target p f = do
  q ← word (below p)
  give (f q)

unfoldable pub text_rule : ℕ → Reader Rule
text_rule p = do
  k ← word (between 1 2)
  target p (one k)

unfoldable pub tag_rule : ℕ → ℕ → Reader Rule
tag_rule p g = do
  a ← word (between 1 g)
  c ← word (below p)
  target p (two a c)

unfoldable pub order_rule : ℕ → Reader Rule
order_rule p = do
  o ← order p
  target p (three (some o) none)

unfoldable pub count_rule : ℕ → Reader Rule
count_rule p = do
  ss ← steps p
  target p (three none (some ss))

unfoldable pub order_count_rule : ℕ → Reader Rule
order_count_rule p = do
  o ← order p
  ss ← steps p
  target p (three (some o) (some ss))

-- A rule is a bit map word, then only the fields whose bit stands. Maps allowed: 33 (kind one), 38 (kind two), 32, 40, 48, 56 (kind three).
unfoldable pub rule : ℕ → ℕ → Reader Rule
rule p g =
    one_of
    ((33, text_rule p) ∷ (38, tag_rule p g) ∷ (32, target p (three none none)) ∷ (40, order_rule p) ∷ (48, count_rule p)
    ∷ (56, order_count_rule p) ∷ [])

-- Words 0 to 5: edition, which is 1; number of states p, 1 to 64; final states, none at p or above; g, 1 to 64; number of rules R, 0 to
-- 1,024.
unfoldable pub sheet : Reader Sheet
sheet = do
  edition ← word (between 1 1)
  p ← word (between 1 64)
  final ← set_below p
  g ← word (between 1 64)
  n ← word (between 0 1024)
  rs ← all (λ i. rule p g) (numbers n)
  give (record { states = p; final = final; tags = g; rules = rs })

-- 9: the first word out of its range or after the last rule or beyond 16,384 words, or the length where it is short.
unfoldable pub ended : ℕ → Got Sheet → Checked Sheet
ended len (got t n) = cond (eqb n len) (passes t) (refuses 9 n)
ended len (bad k) = refuses 9 k

unfoldable pub sheet_of : List ℕ → Checked Sheet
sheet_of s = ended (length s) (sheet (take 16384 s) 0)

-- In a file each word is 4 bytes, lowest first. 1 to 3 bytes over at a file's end are a word out of its range: W is in no range.
unfoldable pub file_words : List ℕ → List ℕ
file_words [] = []
file_words (a ∷ []) = W ∷ []
file_words (a ∷ b ∷ []) = W ∷ []
file_words (a ∷ b ∷ c ∷ []) = W ∷ []
file_words (a ∷ b ∷ c ∷ d ∷ rest) = (a + 2 ^ 8 * b + 2 ^ 16 * c + 2 ^ 24 * d) ∷ file_words rest
