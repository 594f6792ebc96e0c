-- The words of a swapped sheet, and those of a joint sheet before its rules, by the words of sheets that pass.
use mathlib.Core.Path.{◌≡◌, refl, sym, ap, ap₂, ◌∙◌}
use mathlib.Core.Bool.{Bool, not}
use mathlib.Core.List.{List, [], ◌∷◌, ◌++◌, flat_map}
use Prim.Native.Nat.{ℕ, ◌+◌, ◌-◌, ◌*◌, ◌/◌, ◌%◌, ◌≤◌, ◌<◌, min}
use native.Mathlib.Omega.{arith}
use lib.ListN.{length, get_or, take, drop, length-drop}
use lib.Seq.{take-length}
use Rattle.model.specs.Lists.{has, only, numbers}
use Rattle.model.specs.Sheet.{Sheet, Rule, W, mask, set_words, rule_words, sheet_words}
use Rattle.model.specs.Compose.{swapped, Sizes, of_pairs, joint_rules, joint}
use Rattle.model.specs.Index.{sheet_in, rules_in, Passes}
use Rattle.model.proofs.Tests.{Told, yea, nay, told}
use Rattle.model.proofs.ListLaws.{∈-has, has_no, ∈_filter}
use Rattle.model.proofs.SetWords.{bit_mask}
use Rattle.model.proofs.PassedLaws.{coded, in_range, states-word, final-words, tags-word}
use Rattle.bits.proofs.BitLaws.{mask_like}
use Rattle.sets.specs.Sets.{complement, pair_set}
use Rattle.sets.proofs.SetLaws.{few_pairs, pairs_mask}
use Rattle.join_alike.specs.declared.Sheets.{Sheets}
use Rattle.join_rules.specs.Written.{joint_words}
use Rattle.join_sheets.specs.Sheets.{joint_of, final_of, head_words, WithinLimits}

-- ---- swap

-- of the numbers below k that pass a test, one is a member if it passes
has_filter : (f : ℕ → Bool) (k i : ℕ) → i < k → has (flat_map (λ i. only (f i) i) (numbers k)) i ≡ f i
has_filter f k i h = go (told (f i))
  where
    go : Told (f i) → has (flat_map (λ i. only (f i) i) (numbers k)) i ≡ f i
    go (yea t) = ∈-has ((∈_filter f k i).1 (h, t)) ∙ sym t
    go (nay t) = has_no (λ m. let z : ◌≡◌ {A = ℕ} 0 1 = cc ((∈_filter f k i).0 m).1 in omega arith) ∙ sym t

-- the complement of a set below p, as that of the states that are not in it
turned : (p : ℕ) (f : ℕ → Bool) → p ≤ 64 → complement (mask p f) p ≡ mask p (has (flat_map (λ q. only (not (f q)) q) (numbers p)))
unfolding complement
turned p f l =
    let e : min p 64 ≡ p = omega arith in
    rw e (mask_like p _ _ (λ i h. ap not (bit_mask p f i h) ∙ sym (has_filter (λ q. not (f q)) p i h)))

-- all words are as they were but for the final states
swapped_code : {s : List ℕ} (t : Sheet) → s ≡ sheet_words t → {r : ℕ} → r ≡ mask t.states (has (swapped t).final)
    → take 2 s ++ ((r % W ∷ r / W ∷ []) ++ take (length s - 4) (drop 4 s)) ≡ sheet_words (swapped t)
unfolding swapped sheet_words set_words
swapped_code {s} t e f =
    let all : take (length s - 4) (drop 4 s) ≡ drop 4 s
    = ap (λ (n : ℕ). take n (drop 4 s)) (sym (length-drop 4 s)) ∙ take-length (drop 4 s) in
    rw (all, e) (ap (λ (n : ℕ). 1 ∷ t.states ∷ n % W ∷ n / W ∷ drop 4 (sheet_words t)) f)

pub swapped-words_in : {s : List ℕ} → Passes s → {x k r : ℕ} → x ≡ get_or s 2 0 + get_or s 3 0 * W → k ≡ get_or s 1 0 → r ≡ complement x k
    → take 2 s ++ ((r % W ∷ r / W ∷ []) ++ take (length s - 4) (drop 4 s)) ≡ sheet_words (swapped (sheet_in s))
unfolding swapped
swapped-words_in {s} ok ex ek er =
    let t = sheet_in s in
    let states = ap₂ complement (ex ∙ final-words ok) (ek ∙ states-word ok) in
    let finals = er ∙ states ∙ turned t.states (has t.final) (in_range ok).few_states in
    swapped_code t (coded ok) finals

-- ---- join: the words before the rules

module _ (b : Sheets) where
  states_S : b.sizes.s ≡ (sheet_in b.s.words.now).states
  states_S = ap (λ (n : Sizes). n.of_S) b.sized

  states_T : b.sizes.t ≡ (sheet_in b.t.words.now).states
  states_T = ap (λ (n : Sizes). n.of_T) b.sized

  pub states_product : b.sizes.s * b.sizes.t ≡ (joint_of b).states
  unfolding joint
  states_product = ap₂ (◌*◌) states_S states_T

  pub product_small : b.sizes.s * b.sizes.t ≤ 64
  product_small = b.sizes.few.few

  -- a pair is final if both are
  pub finals_paired : {x y set : ℕ} → x ≡ get_or b.s.words.now 2 0 + get_or b.s.words.now 3 0 * W
      → y ≡ get_or b.t.words.now 2 0 + get_or b.t.words.now 3 0 * W → set ≡ pair_set b.sizes.s b.sizes.t x y → set ≡ final_of b
  unfolding joint
  finals_paired ex ey e =
      let s = sheet_in b.s.words.now in
      let t = sheet_in b.t.words.now in
      let sets = ap₂ (pair_set s.states t.states) (ex ∙ final-words b.s.indexed.sheet) (ey ∙ final-words b.t.indexed.sheet) in
      let few : s.states * t.states ≤ 64 = rw (← states_S, ← states_T) product_small in
      e ∙ rw (states_S, states_T) sets
      ∙ few_pairs s.states t.states (mask s.states (has s.final)) (mask t.states (has t.final)) few
      ∙ pairs_mask (in_range b.s.indexed.sheet).final (in_range b.t.indexed.sheet).final (in_range b.t.indexed.sheet).some_states

  pub head_words_in : {set g n : ℕ} → set ≡ final_of b → g ≡ get_or b.s.words.now 4 0
      → (1 ∷ b.sizes.s * b.sizes.t ∷ []) ++ ((set % W ∷ set / W ∷ []) ++ (g ∷ n ∷ [])) ≡ head_words b n
  unfolding head_words joint
  head_words_in es eg = rw (states_product, es, eg ∙ tags-word b.s.indexed.sheet) refl

pub joint-words_in : (b : Sheets) {n : ℕ} → WithinLimits b n → head_words b n ++ joint_words b ≡ sheet_words (joint_of b)
unfolding head_words sheet_words set_words joint
joint-words_in b h =
    let joint_by : Sizes → List Rule = λ n. joint_rules n (rules_in b.s.words.now) (rules_in b.t.words.now) in
    ap (λ (k : ℕ). head_words b k ++ joint_words b) h.number
    ∙ ap (λ (n : Sizes). head_words b (length (joint_by n)) ++ flat_map (rule_words (of_pairs n)) (joint_by n)) b.sized
