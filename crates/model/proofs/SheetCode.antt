-- A sheet passes exactly when its words are those of an abstract sheet within all ranges; so too each of its parts.
use mathlib.Core.Path.{◌≡◌, refl, sym, ap, ap₂, ◌∙◌, subst}
use mathlib.Core.Logic.{◌↔◌}
use mathlib.Core.Bool.{Bool, true, false, cond, ◌&&◌}
use mathlib.Core.List.Memᴰ
use mathlib.Core.List.{List, [], ◌∷◌, ◌++◌}
use mathlib.Core.Option.{none, some}
use Prim.Native.Nat.{ℕ, zero, suc, ◌-◌, ◌/◌, ◌^◌, ◌≤◌, ◌<◌}
use native.Mathlib.Omega.{arith}
use lib.Dec.{eqb, ltb}
use lib.IntN.{ℤ, pos, negsuc}
use lib.ListN.{length, take, length-take}
use lib.Seq.{take_all}
use borrow.Author.Tests as tests
use Rattle.model.specs.Lists.{◌∈◌, from, numbers, SetBelow}
use Rattle.model.specs.Answers.{passes, refuses}
use Rattle.model.specs.Sheet.{Arc, Coefficient, Step, at_most, remainder, not_step, and_step, or_step, Rule, one, two, three, Sheet}
use Rattle.model.specs.Sheet.{W, signed_word, arc_word, order_words, marks, sum_words, step_words, count_words, rule_words}
use Rattle.model.specs.Sheet.{sheet_words, small, signed_32, ArcInRange, OrderInRange, SumInRange, StepInRange, StepsInRange}
use Rattle.model.specs.Sheet.{CountInRange, RuleInRange, InRange, Got, got, bad, below, arc_of, arc_ok, arc, order, signed}
use Rattle.model.specs.Sheet.{coefficient, sum, at_most_step, remainder_step, one_earlier, two_earlier, step, steps, target}
use Rattle.model.specs.Sheet.{text_rule, tag_rule, order_rule, count_rule, order_count_rule, rule, sheet, ended, sheet_of}
use Rattle.model.proofs.Tests.{Yes, Told, yea, nay, told, and_yes, and_left, and_right, same, eqb_yes, between_inv}
use Rattle.model.specs.Spans.{WordsAt}
use Rattle.model.proofs.Spans.{word_next, whole, whole_inv, Reads, Makes, as_made, reads_by, word-reads, below-reads, between-reads}
use Rattle.model.proofs.Spans.{then_makes, given, Along, done, also, all-reads, one_more, repeated, singly, at_key, no_row, row}
use Rattle.model.proofs.Spans.{one_of_reads}
use Rattle.model.proofs.SetWords.{set_reads}

-- what two tests in one say
and_inv : (a b : Bool) → Yes (a && b) → Yes a × Yes b
and_inv a b y = (and_left a b y, and_right a b y)

-- ---- order parts

-- the test of an arc's word
arc_ok_is : (p m w : ℕ) → Yes (arc_ok p m w) ↔ (ArcInRange p m (arc_of w) × (w < 2 ^ 24))
unfolding arc_ok
arc_ok_is p m w = (
  λ y.
      let (y₁, u) = and_inv (ltb (arc_of w).leaves m) _ y in
      let (y₂, v) = and_inv (ltb (arc_of w).reads p) _ u in
      let (y₃, y₄) = and_inv (ltb (arc_of w).enters m) _ v in
      let top : w / 2 ^ 24 ≡ 0 = same (w / 2 ^ 24) 0 y₄ in
      (record { leaves = tests.ltb-true _ m y₁; reads = tests.ltb-true _ p y₂; enters = tests.ltb-true _ m y₃ }, omega arith),
  λ (h, l).
      let top : w / 2 ^ 24 ≡ 0 = omega arith in
      and_yes (tests.lt-ltb _ m h.leaves) (and_yes (tests.lt-ltb _ p h.reads) (and_yes (tests.lt-ltb _ m h.enters) (eqb_yes top))),
)

arc-reads : (p m : ℕ) → p ≤ 64 → m ≤ 64 → Reads (arc p m) (λ a. arc_word a ∷ []) (ArcInRange p m)
unfolding arc arc_word
arc-reads p m hp hm =
    reads_by (given (word-reads (arc_ok p m)) arc_of)
    (λ w y.
    let (h, l) = (arc_ok_is p m w).0 y in
    let e : w ≡ arc_word (arc_of w) = omega arith in
    (h, ap {B = List ℕ} (λ (x : ℕ). x ∷ []) e))
    (λ a h.
    let w : ℕ = arc_word a in
    let el : (arc_of w).leaves ≡ a.leaves = omega arith in
    let er : (arc_of w).reads ≡ a.reads = omega arith in
    let ee : (arc_of w).enters ≡ a.enters = omega arith in
    let e : arc_of w ≡ a = λ i. record { leaves = el i; reads = er i; enters = ee i } in
    (w, (arc_ok_is p m w).1 (subst (ArcInRange p m) (sym e) h, omega arith), e, refl))

pub order-reads : (p : ℕ) → p ≤ 64 → Reads (order p) order_words (OrderInRange p)
unfolding order order_words
order-reads p hp =
    reads_by (then_makes (between-reads 1 64)
    (λ m (_, hm). then_makes (set_reads m) (λ accepting _. then_makes (between-reads 0 1024) (λ n _.
    given (singly arc_word (repeated (arc-reads p m hp hm) n)) (λ arcs. record { positions = m; accepting = accepting; arcs = arcs })))))
    (λ (m, (accepting, (n, arcs))) ((lo, hi), (set, ((_, few), (e, h)))).
    (record { some_positions = lo; few_positions = hi; accepting = set; few_arcs = omega arith; arcs = h }, rw e))
    (λ o h.
    let fields : ℕ × (List ℕ × (ℕ × List Arc)) = (o.positions, (o.accepting, (length o.arcs, o.arcs))) in
    (fields, ((h.some_positions, h.few_positions), (h.accepting, ((omega arith, h.few_arcs), (refl, h.arcs)))), refl, refl))

-- ---- signed words

-- a word below W is the word of the signed number that it stands for, and a signed number is read from its word
signed-there : (w : ℕ) → w < W → Yes (signed_32 (signed w)) × (signed_word (signed w) ≡ w)
unfolding signed signed_32 signed_word
signed-there w h = go (told (ltb w (2 ^ 31)))
  where
    go : Told (ltb w (2 ^ 31)) → Yes (signed_32 (signed w)) × (signed_word (signed w) ≡ w)
    go (yea t) = rw t (t, refl)
    go (nay t) = let l : 2 ^ 31 ≤ w = tests.ltb-false w (2 ^ 31) t in rw t (tests.lt-ltb (W - 1 - w) (2 ^ 31) (omega arith), omega arith)

signed_back : (z : ℤ) → Yes (signed_32 z) → (signed_word z < W) × (signed (signed_word z) ≡ z)
unfolding signed signed_32 signed_word
signed_back (pos n) y = let l : n < 2 ^ 31 = tests.ltb-true n (2 ^ 31) y in (omega arith, rw y)
signed_back (negsuc n) y =
    let l : n < 2 ^ 31 = tests.ltb-true n (2 ^ 31) y in
    let e : W - 1 - (W - 1 - n) ≡ n = omega arith in
    (omega arith, rw (tests.le-ltb (W - 1 - n) (2 ^ 31) (omega arith), e))

small_signed : (z : ℤ) → Yes (small z) → Yes (signed_32 z)
unfolding small signed_32
small_signed (pos n) y = let (_, l) = between_inv 1 32767 n y in tests.lt-ltb n (2 ^ 31) (omega arith)
small_signed (negsuc n) y = let l = tests.ltb-true n 32768 y in tests.lt-ltb n (2 ^ 31) (omega arith)

-- ---- sums

-- the coefficient of state q
abbrev CoefficientInRange : ℕ → Coefficient → Type 0
CoefficientInRange q c = (c.state ≡ q) × Yes (small c.times)

coefficient-reads : (q : ℕ) → Reads (coefficient q) (λ c. signed_word c.times ∷ []) (CoefficientInRange q)
unfolding coefficient
coefficient-reads q =
    reads_by (given (word-reads (λ w. below W w && small (signed w))) (λ w. record { state = q; times = signed w }))
    (λ w y.
    let (l, s) = and_inv (below W w) (small (signed w)) y in
    let (_, e) = signed-there w (tests.ltb-true w W l) in
    ((refl, s), rw e))
    (λ c (eq, s).
    let (l, e) = signed_back c.times (small_signed c.times s) in (
      signed_word c.times,
      and_yes (tests.lt-ltb (signed_word c.times) W l) (rw e s),
      (λ i. record { state = sym eq i; times = e i }),
      refl,
    ))

pub sum-reads : (p : ℕ) → Reads (sum p) (sum_words p) (SumInRange p)
unfolding sum sum_words
sum-reads p =
    reads_by (then_makes (set_reads p) (λ marked _. as_made (singly (λ c. signed_word c.times) (all-reads coefficient-reads marked))))
    (λ (marked, cs) (set, i). let (e, h) = apart i in (record { marked = rw e set; coefficients = h }, rw e))
    (λ cs h. ((marks cs, cs), (h.marked, along cs h.coefficients), refl, refl))
  where
    apart : {l : List ℕ} {cs : List Coefficient} → Along CoefficientInRange l cs → (marks cs ≡ l) ×
        ((c : Coefficient) → c ∈ cs → Yes (small c.times))
    apart done = (refl, λ c m. absurd (Memᴰ.not-nil m))
    apart (also (e, s) is) = let (es, k) = apart is in (ap₂ {C = List ℕ} ◌∷◌ e es, one_more s k)

    along : (cs : List Coefficient) → ((c : Coefficient) → c ∈ cs → Yes (small c.times)) → Along CoefficientInRange (marks cs) cs
    along [] h = done
    along (c ∷ cs) h = also (refl, h c (Memᴰ.head refl)) (along cs (λ d m. h d (Memᴰ.tail m)))

-- ---- count parts

-- the five kinds of steps
at-most_makes : (p : ℕ) → Makes (at_most_step p) (λ (cs, w). at_most cs (signed w)) (λ (cs, w). sum_words p cs ++ (w ∷ []))
    (λ (cs, w). SumInRange p cs × (w < W))
unfolding at_most_step
at-most_makes p = then_makes (sum-reads p) (λ cs _. given (below-reads W) (λ w. at_most cs (signed w)))

remainder_makes : (p : ℕ)
    → Makes (remainder_step p) (λ (cs, (m, r)). remainder cs m r) (λ (cs, (m, r)). sum_words p cs ++ (m ∷ r ∷ []))
    (λ (cs, (m, r)). SumInRange p cs × (((1 ≤ m) × (m ≤ 1000)) × (r < m)))
unfolding remainder_step
remainder_makes p = then_makes (sum-reads p) (λ cs _. then_makes (between-reads 1 1000) (λ m _. given (below-reads m) (remainder cs m)))

one_makes : (f : ℕ → Step) (i : ℕ) → Makes (one_earlier f i) f (λ j. j ∷ []) (λ j. j < i)
unfolding one_earlier
one_makes f i = given (below-reads i) f

two_makes : (f : ℕ → ℕ → Step) (i : ℕ) → Makes (two_earlier f i) (λ (j, k). f j k) (λ (j, k). j ∷ k ∷ []) (λ (j, k). (j < i) × (k < i))
unfolding two_earlier
two_makes f i = then_makes (below-reads i) (λ j _. given (below-reads i) (f j))

step_back : (p i : ℕ) (x : Step) → StepInRange p i x → (s : List ℕ) (a b : ℕ) → WordsAt s a b (step_words p x) → step p i s a ≡ got x b
unfolding step step_words
step_back p i (at_most cs z) (h, y) s a b k =
    let (l, e) = signed_back z y in
    at_key _ k ∙ (at-most_makes p).backwards (cs, signed_word z) (h, l) (word_next k) ∙ ap (λ (u : ℤ). got (at_most cs u) b) e
step_back p i (remainder cs m r) (h, lo, hi, l) s a b k = at_key _ k ∙ (remainder_makes p).backwards (cs, (m, r)) (h, ((lo, hi), l))
    (word_next k)
step_back p i (not_step j) h s a b k = at_key _ k ∙ (one_makes not_step i).backwards j h (word_next k)
step_back p i (and_step j l) h s a b k = at_key _ k ∙ (two_makes and_step i).backwards (j, l) h (word_next k)
step_back p i (or_step j l) h s a b k = at_key _ k ∙ (two_makes or_step i).backwards (j, l) h (word_next k)

pub step-reads : (p i : ℕ) → Reads (step p i) (step_words p) (StepInRange p i)
unfolding step step_words
step-reads p i =
    one_of_reads
    (row 1 (at-most_makes p) (λ (cs, w) (h, l). let (y, e) = signed-there w l in ((h, y), rw e))
    (row 2 (remainder_makes p) (λ (cs, (m, r)) (h, ((lo, hi), l)). ((h, lo, hi, l), refl))
    (row 3 (one_makes not_step i) (λ j h. (h, refl))
    (row 4 (two_makes and_step i) (λ (j, k) h. (h, refl))
    (row 5 (two_makes or_step i) (λ (j, k) h. (h, refl))
    no_row)))))
    (step_back p i)

pub steps-reads : (p : ℕ) → Reads (steps p) (count_words p) (CountInRange p)
unfolding steps count_words from
steps-reads p =
    reads_by (then_makes (between-reads 1 32) (λ n _. as_made (all-reads (step-reads p) (numbers n))))
    (λ (n, ss) ((lo, hi), i). let (e, h) = apart n 0 i in (record { some_steps = omega arith; few_steps = omega arith; steps = h }, rw e))
    (λ ss h. ((length ss, ss), ((h.some_steps, h.few_steps), along 0 ss h.steps), refl, refl))
  where
    apart : (n i : ℕ) {ss : List Step} → Along (StepInRange p) (from n i) ss → (length ss ≡ n) × StepsInRange p i ss
    apart zero i done = (refl, tt)
    apart (suc n) i (also h hs) = let (e, k) = apart n (suc i) hs in (ap suc e, (h, k))

    along : (i : ℕ) (ss : List Step) → StepsInRange p i ss → Along (StepInRange p) (from (length ss) i) ss
    along i [] h = done
    along i (x ∷ ss) (h, hs) = also h (along (suc i) ss hs)

-- ---- rules

-- the six maps of rules
target_makes : (p : ℕ) (f : ℕ → Rule) → Makes (target p f) f (λ q. q ∷ []) (λ q. q < p)
unfolding target
target_makes p f = given (below-reads p) f

text_makes : (p : ℕ) → Makes (text_rule p) (λ (k, q). one k q) (λ (k, q). k ∷ q ∷ []) (λ (k, q). ((1 ≤ k) × (k ≤ 2)) × (q < p))
unfolding text_rule
text_makes p = then_makes (between-reads 1 2) (λ k _. target_makes p (one k))

tag_makes : (p g : ℕ) → Makes (tag_rule p g) (λ (a, (c, q)). two a c q) (λ (a, (c, q)). a ∷ c ∷ q ∷ [])
    (λ (a, (c, q)). ((1 ≤ a) × (a ≤ g)) × ((c < p) × (q < p)))
unfolding tag_rule
tag_makes p g = then_makes (between-reads 1 g) (λ a _. then_makes (below-reads p) (λ c _. target_makes p (two a c)))

order_makes : (p : ℕ) → p ≤ 64 → Makes (order_rule p) (λ (o, q). three (some o) none q) (λ (o, q). order_words o ++ (q ∷ []))
    (λ (o, q). OrderInRange p o × (q < p))
unfolding order_rule
order_makes p hp = then_makes (order-reads p hp) (λ o _. target_makes p (three (some o) none))

count_makes : (p : ℕ) → Makes (count_rule p) (λ (ss, q). three none (some ss) q) (λ (ss, q). count_words p ss ++ (q ∷ []))
    (λ (ss, q). CountInRange p ss × (q < p))
unfolding count_rule
count_makes p = then_makes (steps-reads p) (λ ss _. target_makes p (three none (some ss)))

both_makes : (p : ℕ) → p ≤ 64
    → Makes (order_count_rule p) (λ (o, (ss, q)). three (some o) (some ss) q)
    (λ (o, (ss, q)). order_words o ++ (count_words p ss ++ (q ∷ [])))
    (λ (o, (ss, q)). OrderInRange p o × (CountInRange p ss × (q < p)))
unfolding order_count_rule
both_makes p hp = then_makes (order-reads p hp) (λ o _. then_makes (steps-reads p) (λ ss _. target_makes p (three (some o) (some ss))))

rule_back : (p g : ℕ) → p ≤ 64 → (x : Rule) → RuleInRange p g x → (s : List ℕ) (a b : ℕ) → WordsAt s a b
    (rule_words p x) → rule p g s a ≡ got x b
unfolding rule rule_words
rule_back p g hp (one k q) (lo, hi, l) s a b w = at_key _ w ∙ (text_makes p).backwards (k, q) ((lo, hi), l) (word_next w)
rule_back p g hp (two t c q) (lo, hi, h, l) s a b w = at_key _ w ∙ (tag_makes p g).backwards (t, (c, q)) ((lo, hi), (h, l)) (word_next w)
rule_back p g hp (three none none q) (_, _, l) s a b w = at_key _ w ∙ (target_makes p (three none none)).backwards q l (word_next w)
rule_back p g hp (three (some o) none q) (h, _, l) s a b w = at_key _ w ∙ (order_makes p hp).backwards (o, q) (h, l) (word_next w)
rule_back p g hp (three none (some ss) q) (_, h, l) s a b w = at_key _ w ∙ (count_makes p).backwards (ss, q) (h, l) (word_next w)
rule_back p g hp (three (some o) (some ss) q) (h, k, l) s a b w = at_key _ w ∙ (both_makes p hp).backwards (o, (ss, q)) (h, (k, l))
    (word_next w)

pub rule-reads : (p g : ℕ) → p ≤ 64 → Reads (rule p g) (rule_words p) (RuleInRange p g)
unfolding rule rule_words
rule-reads p g hp =
    one_of_reads
    (row 33 (text_makes p) (λ (k, q) ((lo, hi), l). ((lo, hi, l), refl))
    (row 38 (tag_makes p g) (λ (t, (c, q)) ((lo, hi), (h, l)). ((lo, hi, h, l), refl))
    (row 32 (target_makes p (three none none)) (λ q l. ((tt, tt, l), refl))
    (row 40 (order_makes p hp) (λ (o, q) (h, l). ((h, tt, l), refl))
    (row 48 (count_makes p) (λ (ss, q) (h, l). ((tt, h, l), refl))
    (row 56 (both_makes p hp) (λ (o, (ss, q)) (h, (k, l)). ((h, k, l), refl))
    no_row))))))
    (rule_back p g hp)

-- ---- sheets

-- all ranges but that of the number of words
abbrev Ranges : Sheet → Type 0
Ranges s =
    (1 ≤ s.states) × (s.states ≤ 64) × SetBelow s.states s.final × (1 ≤ s.tags) × (s.tags ≤ 64) × (length s.rules ≤ 1024)
    × ((r : Rule) → r ∈ s.rules → RuleInRange s.states s.tags r)

sheet-reads : Reads sheet sheet_words Ranges
unfolding sheet sheet_words
sheet-reads =
    reads_by (then_makes (between-reads 1 1)
    (λ edition _. then_makes (between-reads 1 64) (λ p (_, hp). then_makes (set_reads p) (λ final _.
    then_makes (between-reads 1 64) (λ g _. then_makes (between-reads 0 1024) (λ n _.
    given (repeated (rule-reads p g hp) n) (λ rs. record { states = p; final = final; tags = g; rules = rs })))))))
    (λ (edition, (p, (final, (g, (n, rs))))) ((e₁, e₂), ((p₁, p₂), (set, ((g₁, g₂), ((_, few), (en, h)))))).
    let ee : edition ≡ 1 = omega arith in
    ((p₁, p₂, set, g₁, g₂, omega arith, h), rw (ee, en)))
    (λ s (p₁, p₂, set, g₁, g₂, few, h).
    let fields : ℕ × (ℕ × (List ℕ × (ℕ × (ℕ × List Rule)))) = (1, (s.states, (s.final, (s.tags, (length s.rules, s.rules))))) in
    (fields, ((omega arith, omega arith), ((p₁, p₂), (set, ((g₁, g₂), ((omega arith, few), (refl, h)))))), refl, refl))

-- a sheet that passes was read up to the last word
ended_inv : (n : ℕ) (g : Got Sheet) {t : Sheet} → ended n g ≡ passes t → g ≡ got t n
unfolding ended
ended_inv n (got u m) {t} e = go (eqb m n) refl e
  where
    go : (b : Bool) → eqb m n ≡ b → cond b (passes u) (refuses 9 m) ≡ passes t → got u m ≡ got t n
    go true y e = let i = same m n y in cc
    go false y e = cc
ended_inv n (bad k) e = cc

-- a sheet passes exactly when its words are those of a sheet in range
pub sheet_passes : (ws : List ℕ) (s : Sheet) → (sheet_of ws ≡ passes s) ↔ ((ws ≡ sheet_words s) × InRange s)
unfolding sheet_of ended
sheet_passes ws s = (
  λ e.
      let g : sheet (take 16384 ws) 0 ≡ got s (length ws) = ended_inv (length ws) (sheet (take 16384 ws) 0) e in
      let ((p₁, p₂, set, g₁, g₂, few, h), k) = sheet-reads.forwards g in
      let all : take 16384 ws ≡ sheet_words s = whole_inv (omega (arith, length-take 16384 ws)) k in
      let short : length ws ≤ 16384 = omega (arith, k.ends, ap length all, length-take 16384 ws) in (
        sym (take_all 16384 ws short) ∙ all,
        record {
          some_states = p₁;
          few_states = p₂;
          final = set;
          some_tags = g₁;
          few_tags = g₂;
          few_rules = few;
          rules = h;
          few_words =
              omega (arith, k.ends);
        },
      ),
  λ (e, h).
      let u = sheet_words s in
      let r : Ranges s = (h.some_states, h.few_states, h.final, h.some_tags, h.few_tags, h.few_rules, h.rules) in
      let g : sheet u 0 ≡ got s (length u) = sheet-reads.backwards r (whole u) in
      rw (e, take_all 16384 u h.few_words, g, eqb_yes {m = length u} refl),
)

-- no two sheets in range have the same words
pub sheet_unique : (s t : Sheet) → InRange s → InRange t → sheet_words s ≡ sheet_words t → s ≡ t
sheet_unique s t h k e =
    let f : sheet_of (sheet_words s) ≡ passes s = (sheet_passes (sheet_words s) s).1 (refl, h) in
    let g : sheet_of (sheet_words s) ≡ passes t = (sheet_passes (sheet_words s) t).1 (e, k) in
    cc

-- every refusal of a sheet is 9
ended_nine : (len : ℕ) (g : Got Sheet) {n i : ℕ} → ended len g ≡ refuses n i → n ≡ 9
unfolding ended
ended_nine len (got t m) {n} {i} e = go (eqb m len) e
  where
    go : (b : Bool) → cond b (passes t) (refuses 9 m) ≡ refuses n i → n ≡ 9
    go true e = cc
    go false e = cc
ended_nine len (bad k) e = cc

pub sheet_refuses : (ws : List ℕ) {n i : ℕ} → sheet_of ws ≡ refuses n i → n ≡ 9
unfolding sheet_of
sheet_refuses ws e = ended_nine (length ws) (sheet (take 16384 ws) 0) e
