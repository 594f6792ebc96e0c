-- What the content of a node reaches, by its children's state words. A node, text or element, by that.
use mathlib.Core.Path.{◌≡◌, refl, sym, ap, ◌∙◌}
use mathlib.Core.Logic.{◌≢◌}
use mathlib.Core.Bool.{true, false, ◌||◌, ◌&&◌}
use mathlib.Core.List.{List, [], ◌∷◌}
use mathlib.Core.Option.{none, some}
use mathlib.Core.Option as options
use Prim.Native.Nat.{ℕ, ◌+◌, ◌-◌, ◌≤◌, ◌<◌, zero, suc, ◌^◌}
use native.Mathlib.Omega.{arith}
use lib.Dec.{eqb, eqb-zero-suc}
use lib.ListN.{length, get_or, drop}
use lib.Seq.{get_or-drop}
use borrow.Author.Tests.{lt-ltb, le-ltb}
use Rattle.model.specs.Lists.{has, only}
use Rattle.model.specs.Bytes.{text_kind}
use Rattle.model.specs.declared.TextKind.{TextKind}
use Rattle.model.specs.Tree.{size_at, symbol_at, text_symbol, symbol_of}
use Rattle.model.specs.Sheet.{mask, bit}
use Rattle.model.specs.Run.{text_targets, content_targets, element_targets, element_looks, Item, items, child_words, child_states}
use Rattle.model.proofs.Tests.{never}
use Rattle.model.proofs.SymbolLaws.{text_said, tag_said, nothing_said}
use Rattle.symbols.specs.Meaning.{meaning}
use Rattle.symbols.specs.declared.Symbol.{Symbol}
use Rattle.symbols.specs.declared.Symbol.TheVariants.{Tag, Text, Nothing}
use Rattle.symbols.proofs.MeaningLaws.{means}
use Rattle.bits.specs.Stands.{Stands}
use Rattle.bits.proofs.SetLaws.{none_stands, gathers_none, gathers_more, gathers_all}
use Rattle.judge_order.specs.Order.{StateWords, states_of}
use Rattle.judge_rules.specs.Found.{Finds, TagFinds}
use Rattle.judge_rules.specs.declared.targets.Found.{Found}
use Rattle.judge_rules.proofs.TargetLaws.{no_tag}
use Rattle.judge_contents.specs.Content.{FindsContent}
use Rattle.judge_node.specs.Node.{lone_states, inside_targets, inside_looks, node_targets, node_looks}
use Rattle.judge_node.specs.Found.{rules_of, words_of, FindsInside, FindsNode}
use Rattle.judge_node.specs.declared.node.Node.{Node}

-- nothing is reached, without a look
pub nothing-found : {limit : ℕ} → Finds limit (record { targets = 0; looks = 0 }) [] 0
nothing-found = record { reached = none_stands; number = refl; few = omega arith }

-- one child: its state word, and the state that it makes
pub lone-state : (word : ℕ) {r : ℕ} → word ≢ 0 → word ≤ 64 → r ≡ mask 64 (λ j. bit 0 j || (true && eqb j (word - 1)))
    → Finds (2 ^ 42) (record { targets = r; looks = 0 }) (lone_states word) 0
unfolding only
lone-state zero n h m = absurd (n refl)
lone-state (suc q) n h m =
    let e : suc q - 1 ≡ q = omega arith in
    let one = gathers_more true q (omega arith) (rw e at m) (gathers_none (q ∷ [])) in
    record { reached = gathers_all one; number = refl; few = omega arith }

-- ---- the children's state words

-- they are among the words that stand there
words-small : (n k : ℕ) (xs : List Item) (st : List ℕ) → ((i : ℕ) → get_or st i 0 ≤ 64) → (i : ℕ)
    → get_or (child_words n k xs st) i 0 ≤ 64
unfolding child_words
words-small zero k xs st h i = omega arith
words-small (suc n) k [] st h i = omega arith
words-small (suc n) k (x ∷ xs) [] h i = omega arith
words-small (suc n) zero (x ∷ xs) (s ∷ st) h zero = h 0
words-small (suc n) zero (x ∷ xs) (s ∷ st) h (suc i) = words-small n (x.size - 1) xs st (λ j. h (suc j)) i
words-small (suc n) (suc k) (x ∷ xs) (s ∷ st) h i = words-small n k xs st (λ j. h (suc j)) i

-- a list of words without 0
no_zero : (ws : List ℕ) → has ws 0 ≡ false → (k : ℕ) → k < length ws → 1 ≤ get_or ws k 0
unfolding has
no_zero [] f k h = absurd (omega arith)
no_zero (zero ∷ ws) f k h = never (sym f)
no_zero (suc x ∷ ws) f zero h = omega arith
no_zero (suc x ∷ ws) f (suc k) h = no_zero ws (rw (eqb-zero-suc x) at f) k (omega arith)

-- all have states, or one has none
states-some : (ws : List ℕ) → has ws 0 ≡ false → child_states ws ≡ some (states_of ws)
unfolding child_states has states_of
states-some [] f = refl
states-some (zero ∷ ws) f = never (sym f)
states-some (suc q ∷ ws) f = let e : suc q - 1 ≡ q = omega arith in rw (states-some ws (rw (eqb-zero-suc q) at f), e)

states_none : (ws : List ℕ) → has ws 0 ≡ true → child_states ws ≡ none
unfolding child_states has
states_none [] f = never f
states_none (zero ∷ ws) f = refl
states_none (suc q ∷ ws) f = rw (states_none ws (rw (eqb-zero-suc q) at f))

-- ---- a node, by what is inside it

module _ (n : Node) where
  abbrev i : ℕ
  i = n.number

  abbrev end : ℕ
  end = i + size_at n.nodes.tree.now i

  each-small : (k : ℕ) → get_or (words_of n) k 0 ≤ 64
  each-small =
      words-small (end - (i + 1)) 0 (drop (i + 1) (items n.nodes.tree.now)) (drop (i + 1) n.nodes.states.now)
      (λ j. rw (get_or-drop (i + 1) n.nodes.states.now j 0) (n.judging.small.each (i + 1 + j) (omega arith)))

  -- no child
  pub leaf_inside : words_of n ≡ [] → FindsInside n n.nothing
  unfolding inside_targets inside_looks child_states
  leaf_inside e = rw e n.judging.unlooked

  -- one child, or more
  module _ {word : ℕ} {rest : List ℕ} (first : words_of n ≡ word ∷ rest) where
    pub first_small : word ≤ 64
    first_small = rw first at (each-small 0)

    pub lone-inside : rest ≡ [] → {f : Found} → Finds (2 ^ 42) f (lone_states word) 0 → FindsInside n f
    unfolding inside_targets inside_looks content_targets child_states
    lone-inside alone f = rw (first, alone) (go word f)
      where
        go : (word : ℕ) {f : Found} → Finds (2 ^ 42) f (lone_states word) 0
            → Finds (2 ^ 42) f (inside_targets (rules_of n) (child_states (word ∷ [])))
            (inside_looks (rules_of n) (child_states (word ∷ [])))
        go zero f = f
        go (suc q) f = f

    pub several_words : rest ≢ [] → {words : List ℕ} → words ≡ words_of n → length words ≢ 1
    several_words more same one = more (go rest (ap length (sym (same ∙ first)) ∙ one))
      where
        go : (l : List ℕ) → suc (length l) ≡ 1 → l ≡ []
        go [] h = refl
        go (y ∷ l) h = absurd (omega arith)

  -- one of them has no state
  pub stateless_inside : has (words_of n) 0 ≡ true → FindsInside n (record { targets = 0; looks = 0 })
  unfolding inside_targets inside_looks
  stateless_inside h = rw (states_none (words_of n) h) nothing-found

  -- all of several have one
  module _ {words : List ℕ} (same : words ≡ words_of n) (full : has (words_of n) 0 ≡ false) where
    pub gathered_words : length (words_of n) ≤ 4096 → StateWords words
    gathered_words few = rw same (record { each = λ k h. (no_zero (words_of n) full k h, each-small k); few = few })

    pub several_inside : {f : Found} → FindsContent (rules_of n) (states_of words) f → FindsInside n f
    unfolding inside_targets inside_looks
    several_inside f = rw (states-some (words_of n) full) (rw same at f)

  -- ---- a node, by what its symbol says

  abbrev symbol : ℕ
  symbol = symbol_at n.nodes.tree.now i

  module _ {r : Symbol} (told : meaning r ≡ symbol_of symbol) where
    module _ {kind : TextKind} (is : r ≡ Text kind) where
      pub text_found : {targets : ℕ} → Stands targets (text_targets (rules_of n) (text_kind kind))
          → FindsNode n (record { targets = targets; looks = n.book.now.rules.ones })
      unfolding node_targets node_looks
      text_found r =
          let (e, low, _, _) = text_said symbol (means told is) in
          let same : symbol - 64 ≡ text_kind kind = omega arith in
          let known = n.book.now.known in
          rw (lt-ltb 64 symbol (omega arith), same)
          (record { reached = r; number = known.texts; few = omega (arith, known.few) })

    module _ {a : ℕ} (is : r ≡ Tag a) where
      tag_is : (symbol ≡ a) × (1 ≤ a) × (a ≤ 64)
      unfolding text_symbol
      tag_is =
          let (e, low, not_text) = tag_said symbol (means told is) in
          let other : (m : ℕ) → text_symbol m ≡ true → symbol ≢ m = λ m y k. never (sym (rw k at not_text) ∙ y) in
          (e, low, omega (arith, n.nodes.shaped.symbols i n.judging.within, other 65 refl, other 66 refl))

      pub tag_within : {inside : Found} → FindsInside n inside → (1 ≤ a) × (a ≤ 64) × (inside.looks ≤ 2 ^ 42)
      tag_within f = (tag_is.1, tag_is.2, f.few)

      pub element_found : {inside f : Found} → FindsInside n inside → TagFinds (rules_of n) a inside f → FindsNode n f
      unfolding node_targets node_looks inside_targets inside_looks element_targets element_looks
      element_found {inside} {f} h t =
          let (e, _, few) = tag_is in
          rw (le-ltb 64 symbol (omega arith), e) (go (child_states (words_of n)) h)
        where
          go : (ws : options.Option (List ℕ)) → Finds (2 ^ 42) inside (inside_targets (rules_of n) ws) (inside_looks (rules_of n) ws)
              → Finds (2 ^ 43) f (element_targets (rules_of n) a ws) (element_looks (rules_of n) ws)
          go none h = rw (no_tag a (rules_of n)) at (t.found [] 0 h)
          go (some w) h = t.found _ _ h

    -- every node has a symbol
    pub some-symbol : r ≢ Nothing
    some-symbol is = omega (arith, nothing_said symbol (means told is), n.nodes.shaped.symbols i n.judging.within)
