-- The words of a sheet that passes: what stands before its rules, and where these stand.
use mathlib.Core.Path.{◌≡◌, sym, ap, ◌∙◌, subst}
use mathlib.Core.List.{List, ◌∷◌, flat_map}
use Prim.Native.Nat.{ℕ, ◌+◌, ◌*◌, ◌/◌, ◌%◌, ◌≤◌}
use native.Mathlib.Omega.{arith}
use lib.ListN.{length, get_or}
use Rattle.model.specs.Lists.{has}
use Rattle.model.specs.Answers.{passes}
use Rattle.model.specs.Sheet.{Sheet, Rule, one, two, three, W, mask, set_words, rule_words, sheet_words, RuleInRange, InRange}
use Rattle.model.specs.Sheet.{sheet_of}
use Rattle.model.specs.Spans.{WordsAt, RulesAt}
use Rattle.model.specs.Index.{passed, sheet_in, rules_in, Passes}
use Rattle.model.proofs.Spans.{whole, word_next, span_left}
use Rattle.model.proofs.SheetCode.{sheet_passes}
use Rattle.model.proofs.PartLaws.{word-is}

-- words that pass as a sheet pass as the sheet that is in them
pub passes_in : {s : List ℕ} {t : Sheet} → sheet_of s ≡ passes t → Passes s × (sheet_in s ≡ t)
unfolding passed
passes_in {s} {t} e = let i : sheet_in s ≡ t = ap passed e in (record { as_sheet = e ∙ ap (λ (x : Sheet). passes x) (sym i) }, i)

module _ {s : List ℕ} (ok : Passes s) where
  pub coded : s ≡ sheet_words (sheet_in s)
  coded = ((sheet_passes s (sheet_in s)).0 ok.as_sheet).0

  pub in_range : InRange (sheet_in s)
  in_range = ((sheet_passes s (sheet_in s)).0 ok.as_sheet).1

  header : WordsAt s 0 (length s) (sheet_words (sheet_in s))
  header = subst (WordsAt s 0 (length s)) coded (whole s)

  pub few_words : (6 ≤ length s) × (length s ≤ 16384)
  unfolding sheet_words set_words
  few_words = (omega (arith, ap length coded), omega (arith, ap length coded, in_range.few_words))

  pub edition_word : get_or s 0 0 ≡ 1
  unfolding sheet_words set_words
  edition_word = word-is header 0 (omega arith)

  pub states-word : get_or s 1 0 ≡ (sheet_in s).states
  unfolding sheet_words set_words
  states-word = word-is header 1 (omega arith)

  pub final-there : WordsAt s 2 4 (set_words (sheet_in s).states (sheet_in s).final)
  unfolding sheet_words set_words
  final-there =
      let later = (sheet_in s).tags ∷ length (rules_in s) ∷ flat_map (rule_words (sheet_in s).states) (rules_in s) in
      span_left (set_words (sheet_in s).states (sheet_in s).final) later (word_next (word_next header))

  -- the final states, as the number of their set
  pub final-words : get_or s 2 0 + get_or s 3 0 * W ≡ mask (sheet_in s).states (has (sheet_in s).final)
  unfolding sheet_words set_words
  final-words =
      let n = mask (sheet_in s).states (has (sheet_in s).final) in
      let low : get_or s 2 0 ≡ n % W = word-is header 2 (omega arith) in
      let high : get_or s 3 0 ≡ n / W = word-is header 3 (omega arith) in
      omega arith

  pub tags-word : get_or s 4 0 ≡ (sheet_in s).tags
  unfolding sheet_words set_words
  tags-word = word-is header 4 (omega arith)

  pub rules-word : get_or s 5 0 ≡ length (rules_in s)
  unfolding sheet_words set_words
  rules-word = word-is header 5 (omega arith)

  -- a rule over the sheet's tags is one over 64
  within_64 : (r : Rule) → RuleInRange (sheet_in s).states (sheet_in s).tags r → RuleInRange (sheet_in s).states 64 r
  within_64 (one k q) h = h
  within_64 (two a c q) (l, m, h, i) = (l, omega (arith, in_range.few_tags), h, i)
  within_64 (three o c q) h = h

  pub rules-there : WordsAt s 6 (length s) (flat_map (rule_words (sheet_in s).states) (rules_in s))
  unfolding sheet_words set_words
  rules-there = word_next (word_next (word_next (word_next (word_next (word_next header)))))

  pub rules_stand : RulesAt (sheet_in s).states s 6 (rules_in s)
  rules_stand = record {
    end = length s;
    there = rules-there;
    ranges = λ r m. within_64 r (in_range.rules r m);
  }
