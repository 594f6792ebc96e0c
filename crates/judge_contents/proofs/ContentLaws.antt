-- A kind-three rule tried: where its parts are, and what it gives. The loop over these rules, and content of no child or several.
use mathlib.Core.Path.{◌≡◌, refl, sym, ap, ◌∙◌, subst}
use mathlib.Core.Bool.{Bool, true, false, not, ◌&&◌, ◌||◌}
use mathlib.Core.List.{List, [], ◌∷◌, ◌++◌, flat_map}
use mathlib.Core.Option.{none, some}
use mathlib.Core.Option as math
use mathlib.Core.Logic.{◌≢◌, by_cases}
use Prim.Native.Nat.{ℕ, zero, suc, ◌+◌, ◌-◌, ◌^◌, ◌≤◌, ◌<◌, ◌*◌}
use native.Mathlib.Decide.{dec_le}
use native.Mathlib.Omega.{arith}
use lib.ListN.{length, get_or, take, drop, replicate, length-replicate, length-append, length-map}
use lib.Seq.{drop-drop}
use lib.Dec.{eqb, ltb}
use borrow.Author.Tests.{not-true, not-false, lt-ltb, le-ltb}
use Rattle.std.specs.Prelude.{Option, None, Some}
use Rattle.std.specs.Option.{is_some}
use Rattle.std.specs.Bool.{then_some}
use Rattle.std.specs.Borrow.{Bor}
use Rattle.model.specs.Lists.{only}
use Rattle.model.specs.Sheet.{Order, Step, Rule, one, two, three, arc_word, set_words, order_words, count_words, rule_words}
use Rattle.model.specs.Sheet.{mask, bit, RuleInRange}
use Rattle.model.specs.Words.{fits_order, fits_count, reads}
use Rattle.model.specs.Words as Words
use Rattle.model.specs.Run.{at_content, looks_of, content_targets, tries}
use Rattle.model.specs.Spans.{RuleAt, Content, content, there_is, order_part, count_part}
use Rattle.model.specs.Index.{key, sheet_in, rules_in, nth}
use Rattle.model.proofs.PartLaws.{words_part}
use Rattle.model.proofs.RuleWords.{order-room, is-there, not_there, order-at, count-stands, after-count}
use Rattle.model.proofs.PassedLaws.{in_range}
use Rattle.bits.proofs.SetLaws.{gathers_none, gathers_more, gathers_all, Gathers}
use Rattle.indexed.specs.declared.Spot.{Spot}
use Rattle.indexed.specs.declared.Chain.{Chain}
use Rattle.indexed.specs.declared.IndexedSheet.{IndexedSheet}
use Rattle.indexed.specs.Spots.{parts_of}
use Rattle.indexed.specs.Rules.{rule_of}
use Rattle.indexed.specs.Walks.{with_key, chain_left, ChainNext}
use Rattle.indexed.proofs.SpotLaws.{stands}
use Rattle.indexed.proofs.RuleParts.{target-here}
use Rattle.indexed.proofs.WalkLaws.{with_key-all}
use Rattle.judge_order.specs.Order.{StateWords, states_of, OrderPart, OrderSays}
use Rattle.judge_order.proofs.OrderLaws.{length-states}
use Rattle.judge_count.specs.Count.{CountPart}
use Rattle.judge_count.specs.declared.Counts.{Counts}
use Rattle.judge_rules.specs.Rules.{with_count}
use Rattle.judge_rules.specs.declared.targets.Found.{Found}
use Rattle.judge_rules.proofs.TargetLaws.{count-some}
use Rattle.judge_contents.specs.Content.{CountIf, CountHolds, FindsTargets, FindsContent, Counted}
use Rattle.judge_contents.specs.Tries.{Tries}
use Rattle.judge_contents.specs.declared.Element.{Element}

-- there are counts where it is said that there are some
lent : (counts : Option Counts) → is_some counts ≡ true → (c : Counts) × (counts ≡ Some c)
lent None e = let z : ◌≡◌ {A = ℕ} 0 1 = cc in absurd (omega arith)
lent (Some c) e = (c, refl)

-- a part of a list
abbrev part : List ℕ → (from end : ℕ) → List ℕ
part s from end = take (end - from) (drop from s)

-- a rule whose key is that of content
content-rule : (p : ℕ) (r : Rule) → RuleInRange p 64 r → key r ≡ 0 → r ≡ content (parts_of r)
unfolding key
content-rule p (one k q) h z = absurd (omega (arith, h))
content-rule p (two a c q) h z = absurd (omega arith)
content-rule p (three o c q) h z = refl

-- ---- where the parts of a rule are

module _ (x : Spot) (z : key (rule_of x) ≡ 0) where
  abbrev s : List ℕ
  s = x.sheet.words.now

  abbrev p : ℕ
  p = (sheet_in s).states

  abbrev fields : Content
  fields = parts_of (rule_of x)

  is-content : rule_of x ≡ content fields
  is-content = content-rule p (rule_of x) (stands x).begins.ranges z

  here : RuleAt p s x.at (content fields)
  here = subst (RuleAt p s x.at) is-content (stands x).begins

  few_states : p ≤ 64
  few_states = (in_range x.sheet.indexed.sheet).few_states

  -- where the count part begins, if there is one
  abbrev middle : ℕ
  middle = x.at + 1 + length (order_part fields.order)

  counts_end : middle + length (count_part p fields.count) ≡ x.target
  counts_end =
      omega (
        arith,
        after-count here {c = middle} refl,
        (stands x).ends,
        ap (λ (r : Rule). length (rule_words p r)) is-content,
      )

  pub target_room : x.target < length s
  target_room = (target-here x).2

  -- ---- the order part, where there is one

  module _ {r : Bool} (er : r ≡ there_is fields.order) where
    order_none : r ≡ false → (fields.order ≡ none) × (x.at + 1 ≡ middle)
    order_none t =
        let e = not_there fields.order (sym er ∙ t) in
        (e, omega (arith, ap (λ o. length (order_part o)) e))

    pub first_room : r ≡ false → x.at + 1 ≤ x.target
    first_room t = omega (arith, order_none t, counts_end)

    module _ (t : r ≡ true) where
      order_some : (o : Order) × (fields.order ≡ some o)
      order_some = is-there fields.order (sym er ∙ t)

      pub arcs_room : x.at + 1 + 3 < length s
      arcs_room = let (o, e) = order_some in omega (arith, (order-room (order-at here e)).0)

      module _ {m : ℕ} (em : m ≡ x.at + 1 + 4 + get_or s (x.at + 1 + 3) 0) where
        order-ends : (m ≡ middle) × (m ≤ length s)
        unfolding order_words set_words
        order-ends =
            let (o, e) = order_some in
            let (room, number) = order-room (order-at here e) in
            (omega (arith, number, ap (λ o. length (order_part o)) e, length-map o.arcs arc_word), omega (arith, number))

        pub middle_room : (m ≤ x.target) × (m ≤ length s)
        middle_room = omega (arith, order-ends, counts_end)

        order-there : (p : OrderPart (part s (x.at + 1) m)) × (fields.order ≡ some p.order)
        order-there =
            let (o, e) = order_some in
            let h = order-at here e in
            let end : m ≡ h.end = omega (arith, ap (λ o. length (order_part o)) e, order-ends.0, h.there.ends) in
            let coded = rw (← end) at (words_part h.there) in
            (record { states = p; order = o; few_states = few_states; in_range = h.ranges; coded = coded }, e)

        pub order-lent : OrderPart (part s (x.at + 1) m)
        order-lent = order-there.0

  -- ---- the count part, from word m up to the target, if the rule has one

  module _ {m : ℕ} (em : m ≡ middle) {c : Bool} (told : c ≡ ltb m x.target) where
    ec : c ≡ there_is fields.count
    unfolding count_words
    ec = told ∙ go fields.count refl
      where
        go : (φ : math.Option (List Step)) → fields.count ≡ φ → ltb m x.target ≡ there_is φ
        go none e = le-ltb m x.target (omega (arith, em, rw e at counts_end))
        go (some steps) e = lt-ltb m x.target (omega (arith, em, rw e at counts_end))

    count-there : c ≡ true → (q : CountPart (part s m x.target)) × (fields.count ≡ some q.steps)
    unfolding count_words
    count-there is =
        let (steps, e) = is-there fields.count (sym ec ∙ is) in
        let h = count-stands here em e in
        let end : x.target ≡ h.end = omega (arith, rw e at counts_end, h.there.ends) in
        let coded = rw (← end) at (words_part h.there) in
        (record { states = p; steps = steps; few_states = few_states; in_range = h.ranges; coded = coded }, e)

    module _ (words : Bor (List ℕ)) (ew : words.now ≡ part s m x.target) where
      count-lent : CountIf (then_some c words)
      count-lent = go c refl
        where
          go : (b : Bool) → c ≡ b → CountIf (then_some b words)
          go false is = tt
          go true is = rw ew (count-there is).0

      count_told : {counts : Option Counts} {w : List ℕ} → Counted (rules_in s) counts w → {holds : Bool}
          → CountHolds (then_some c words) counts holds → holds ≡ fits_count fields.count w
      unfolding with_count fits_count
      count_told {counts} {w} o {holds} = go c refl
        where
          go : (b : Bool) → c ≡ b → CountHolds (then_some b words) counts holds → holds ≡ fits_count fields.count w
          go false is h = rw (not_there fields.count (sym ec ∙ is)) h
          go true is h =
              let (q, e) = count-there is in
              let (k, ek) = lent counts (o.known (count-some (rules_in s) x.rule x.spot.number (ap with_count is-content ∙ rw e))) in
              rw e ((rw ew at (h k ek)).fitting q w (o.each k ek))

  module _ {r c : Bool} (er : r ≡ there_is fields.order) (words : Bor (List ℕ))
      {told : Option (Bor (List ℕ))} (et : told ≡ then_some c words) where
    pub first-lent : r ≡ false → c ≡ ltb (x.at + 1) x.target → words.now ≡ part s (x.at + 1) x.target → CountIf told
    first-lent is ec ew = rw et (count-lent (order_none er is).1 ec words ew)

    pub second-lent : r ≡ true → {m : ℕ} → m ≡ x.at + 1 + 4 + get_or s (x.at + 1 + 3) 0 → c ≡ ltb m x.target
        → words.now ≡ part s m x.target → CountIf told
    second-lent is em ec ew = rw et (count-lent (order-ends er is em).0 ec words ew)

  -- ---- what the rule gives

  -- by whether both parts fit, and how many children the order part reads
  tried : {w : List ℕ} {fits : Bool} {n : ℕ} → n < 2 ^ 32 → (fits ≡ (fits_order fields.order w && fits_count fields.count w))
      → n ≡ reads fields.order w → Tries x w fits n
  unfolding at_content looks_of
  tried {w} few both read = record {
    gives = ap (at_content w) is-content ∙ rw both refl;
    takes = ap (looks_of w) is-content ∙ ap suc (sym read);
    few = few;
  }

  -- for an element whose sheet has the rule
  module _ (e : Element) (same : x.sheet ≡ e.book.now.sheet) {r : Bool} (er : r ≡ there_is fields.order) where
    abbrev children : List ℕ
    children = e.children.words.now

    o : Counted (rules_in s) e.counts (states_of children)
    o = subst (λ (y : IndexedSheet). Counted (rules_in y.words.now) e.counts (states_of children)) (sym same) e.counted

    -- without an order part, all children are read
    pub unordered_tries : r ≡ false → {c : Bool} → c ≡ ltb (x.at + 1) x.target → (words : Bor (List ℕ))
        → words.now ≡ part s (x.at + 1) x.target → {told : Option (Bor (List ℕ))} → told ≡ then_some c words
        → {holds : Bool} → CountHolds told e.counts holds → Tries x (states_of children) holds (length children)
    unfolding fits_order reads
    unordered_tries t ec words ew et h =
        let (is, m) = order_none er t in
        let fitted = count_told m ec words ew o (rw et at h) in
        tried (omega (arith, e.children.states.few)) (rw is fitted) (rw is (sym (length-states children)))

    module _ (t : r ≡ true) {m : ℕ} (em : m ≡ x.at + 1 + 4 + get_or s (x.at + 1 + 3) 0) where
      module _ {fits : Bool} {n : ℕ} (says : OrderSays (part s (x.at + 1) m) (states_of children) fits n) where
        few_read : n < 2 ^ 32
        few_read = omega (arith, says.within, length-states children, e.children.states.few)

        said : (fits ≡ fits_order fields.order (states_of children)) × (n ≡ Words.reads fields.order (states_of children))
        said = let (q, is) = order-there er t em in rw is (says.fitting q, says.reading q)

        pub unfit_tries : not fits ≡ true → Tries x (states_of children) fits n
        unfit_tries u = let unfit = not-true fits u in tried few_read (rw (sym said.0 ∙ unfit) unfit) said.1

        pub ordered-tries : not fits ≡ false → {c : Bool} → c ≡ ltb m x.target → (words : Bor (List ℕ))
            → words.now ≡ part s m x.target → {told : Option (Bor (List ℕ))} → told ≡ then_some c words
            → {holds : Bool} → CountHolds told e.counts holds → Tries x (states_of children) holds n
        ordered-tries u ec words ew et h =
            let fitted = count_told (order-ends er t em).0 ec words ew o (rw et at h) in
            tried few_read (rw (sym said.0 ∙ not-false fits u) fitted) said.1

-- ---- looks along the chain

-- as many words as a rule takes looks
pub looked : List ℕ → Rule → List ℕ
looked w x = replicate (looks_of w x) 0

tries_are : (w : List ℕ) (R : List Rule) → tries R w ≡ length (flat_map (looked w) R)
unfolding tries flat_map looked
tries_are w [] = refl
tries_are w (x ∷ R) = rw (tries_are w R) (simp (length-append, length-replicate))

-- a rule of another kind gives nothing, and takes no look
apart : (w : List ℕ) (x : Rule) → key x ≢ 0 → (at_content w x ≡ []) × (looked w x ≡ [])
unfolding at_content looks_of key looked
apart w (one k q) d = (refl, refl)
apart w (two a c q) d = (refl, refl)
apart w (three o c q) d = absurd (d refl)

-- no more rules have a key than there are
keyed_few : (k : ℕ) (R : List Rule) → length (with_key k R) ≤ length R
unfolding flat_map only
keyed_few k [] = omega arith
keyed_few k (r ∷ R) = go (eqb (key r) k) (with_key k R) (keyed_few k R)
  where
    go : (b : Bool) (l : List Rule) → length l ≤ length R → length (only b r ++ l) ≤ suc (length R)
    go true l h = omega arith
    go false l h = omega arith

-- and no more after some of them
keyed_fewer : (k n : ℕ) (R : List Rule) → length (with_key k (drop n R)) ≤ length (with_key k R)
unfolding flat_map only
keyed_fewer k zero R = omega arith
keyed_fewer k (suc n) [] = omega arith
keyed_fewer k (suc n) (r ∷ R) = go (eqb (key r) k) (with_key k R) (keyed_fewer k n R)
  where
    go : (b : Bool) (l : List Rule) → length (with_key k (drop n R)) ≤ length l → length (with_key k (drop n R)) ≤ length (only b r ++ l)
    go true l h = omega (arith, h)
    go false l h = omega (arith, h)

-- a chain ascends
goes-on : {c d : Chain} (x : Spot) → ChainNext c x d → c.next < d.next
goes-on {c} {d} x next = by_cases (dec_le d.next c.next) (λ back. absurd (not_back back)) (λ on. omega (arith, on))
  where
    not_back : d.next ≤ c.next → ⊥
    not_back back =
        let R = rules_in c.sheet.words.now in
        let rule : with_key c.key (drop c.next R) ≡ rule_of x ∷ with_key c.key (drop d.next R) =
        rw (next.sheet, next.same_key) at next.rule in
        let number : d.next + (c.next - d.next) ≡ c.next = omega (arith, back) in
        let later : drop (c.next - d.next) (drop d.next R) ≡ drop c.next R =
        drop-drop (c.next - d.next) d.next R ∙ ap (λ (n : ℕ). drop n R) number in
        omega (arith, ap length rule, rw later at (keyed_fewer c.key (c.next - d.next) (drop d.next R)))

-- ---- the loop over the kind-three rules

-- What the rules that are left on the chain add to the set, and take in looks, makes what all of them give and take; and the rule that
-- comes next has the key of content.
pub record Trying (sheet : IndexedSheet) (w : List ℕ) (c : Chain) (targets looks : ℕ) : Type 0 where
  pub of_sheet : c.sheet ≡ sheet
  pub keyed : c.key ≡ 0
  pub on_key : c.next < length (rules_in sheet.words.now) → key (nth (rules_in sheet.words.now) c.next) ≡ 0
  pub adding : Gathers targets (flat_map (at_content w) (chain_left c)) (flat_map (at_content w) (rules_in sheet.words.now))
  pub taking : looks + length (flat_map (looked w) (chain_left c)) ≡ length (flat_map (looked w) (rules_in sheet.words.now))
  pub few : (looks ≤ c.next * 2 ^ 32) × (looks ≤ 2 ^ 42)
  pub room : looks + length (chain_left c) * 2 ^ 32 ≤ 2 ^ 42

-- the rule that comes next on a chain has its key
next-keyed : {sheet : IndexedSheet} (c : Chain) → c.sheet ≡ sheet → c.key ≡ 0 → c.next < length (rules_in sheet.words.now)
    → key (nth (rules_in sheet.words.now) c.next) ≡ 0
next-keyed c es ek l = rw (← es) (c.on_chain.has_key (rw (← es) at l) ∙ ek)

pub trying_begun : {sheet : IndexedSheet} {w : List ℕ} {c : Chain} → c.sheet ≡ sheet → c.key ≡ 0
    → chain_left c ≡ with_key 0 (rules_in sheet.words.now) → Trying sheet w c 0 0
trying_begun {sheet} {w} {c} es ek e =
    let R = rules_in sheet.words.now in
    record {
      of_sheet = es;
      keyed = ek;
      on_key = next-keyed c es ek;
      adding = rw (e, with_key-all (at_content w) (λ x d. (apart w x d).0) R) (gathers_none (flat_map (at_content w) R));
      taking = rw (e, with_key-all (looked w) (λ x d. (apart w x d).1) R) (omega arith);
      few = omega arith;
      room = rw e (omega (arith, keyed_few 0 R, (in_range sheet.indexed.sheet).few_rules));
    }

module _ {sheet : IndexedSheet} {w : List ℕ} {c : Chain} {targets looks : ℕ} (g : Trying sheet w c targets looks) where
  pub trying_few : looks ≤ 2 ^ 42
  trying_few = g.few.1

  module _ {d : Chain} (x : Spot) (next : ChainNext c x d) where
    pub next_sheet : x.sheet ≡ sheet
    next_sheet = next.of_sheet ∙ g.of_sheet

    pub next_key : key (rule_of x) ≡ 0
    next_key = next.has_key ∙ g.keyed

    pub trying_more : {n r target : ℕ} {fits : Bool} → Tries x w fits n → target ≡ (parts_of (rule_of x)).target
        → target < (sheet_in x.sheet.words.now).states → r ≡ mask 64 (λ j. bit targets j || (fits && eqb j target))
        → Trying sheet w d r (looks + (1 + n))
    unfolding flat_map looked
    trying_more {fits = fits} t et lt er =
        let room = rw next.rule at g.room in
        record {
          of_sheet = next.sheet ∙ g.of_sheet;
          keyed = next.same_key ∙ g.keyed;
          on_key = next-keyed d (next.sheet ∙ g.of_sheet) (next.same_key ∙ g.keyed);
          adding = gathers_more fits _ (omega (arith, lt, (in_range x.sheet.indexed.sheet).few_states)) er
              (rw (next.rule, t.gives, ← et) at g.adding);
          taking = omega (arith, simp (length-append, length-replicate) at (rw next.rule at g.taking), t.takes);
          few = omega (arith, g.few, t.few, goes-on x next, room);
          room = omega (arith, room, t.few);
        }

  pub trying_ended : chain_left c ≡ [] → FindsTargets (rules_in sheet.words.now) w (record { targets = targets; looks = looks })
  unfolding flat_map
  trying_ended e = record {
    reached = gathers_all (rw e at g.adding);
    number = omega (arith, rw e at g.taking, tries_are w (rules_in sheet.words.now));
    few = trying_few;
  }

-- ---- no child, and several

-- the rules are tried
pub several_found : (R : List Rule) (words : List ℕ) → length words ≢ 1 → {f : Found} → FindsTargets R (states_of words) f → FindsContent R
    (states_of words) f
unfolding content_targets states_of
several_found R [] n f = f
several_found R (x ∷ []) n f = absurd (n refl)
several_found R (x ∷ y ∷ words) n f = f

pub no_words : StateWords [] × (length {A = ℕ} [] ≢ 1)
no_words = (record { each = λ k h. absurd (omega arith); few = omega arith }, λ e. absurd (omega arith))

pub nothing-found : (R : List Rule) {f : Found} → FindsContent R (states_of []) f → FindsContent R [] f
unfolding states_of
nothing-found R f = f
