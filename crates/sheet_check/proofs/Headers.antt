-- The words before the rules of a sheet that passes, and so where its rules begin.
use mathlib.Core.Path.{◌≡◌, sym, ◌∙◌}
use mathlib.Core.List.{List}
use Prim.Native.Nat.{ℕ, ◌+◌, ◌≤◌, ◌<◌}
use native.Mathlib.Omega.{arith}
use lib.ListN.{length, get_or}
use lib.Seq.{take_all}
use Rattle.std.specs.Prelude.{Result, Err}
use Rattle.sheet_walk.specs.declared.Bad.{Bad}
use Rattle.model.specs.Sheet.{got, bad, Reader, word, between, set_below, sheet, ended, sheet_of}
use Rattle.model.specs.Spans.{WordsAt}
use Rattle.model.specs.Index.{sheet_in, rules_in, Passes}
use Rattle.model.proofs.Spans.{Reads, between-reads, span_word}
use Rattle.model.proofs.SetWords.{set_reads}
use Rattle.model.proofs.PassedLaws.{in_range, few_words, edition_word, states-word, final-there, tags-word, rules-word}
use Rattle.sheet_walk.specs.declared.Walk.{Walk}
use Rattle.sheet_walk.specs.Walks.{GoesPast}
use Rattle.sheet_walk.proofs.WalkLaws.{refused}
use Rattle.sheet_rules.specs.Places.{Begins, Places}

-- a part that is there is read, to its end
on_part : {A : Type 0} {r : Reader A} {words : A → List ℕ} {In : A → Type 0} {s : List ℕ} {a b : ℕ} {x : A} → Reads r words In → In x
    → WordsAt s a b (words x) → {y : A} {c : ℕ} → r s a ≡ got y c → (y ≡ x) × (c ≡ b)
on_part h i k e = let f = sym e ∙ h.backwards i k in (cc, cc)

on_word : {s : List ℕ} (ok : Passes s) {a b x : ℕ} (i : ℕ) → get_or s i 0 ≡ x → a ≤ x → x ≤ b → i < 6 → {y c : ℕ}
    → word (between a b) s i ≡ got y c → (y ≡ x) × (c ≡ i + 1)
on_word ok {a} {b} i e l h m f =
    let (is_word, next) = on_part (between-reads a b) (omega arith, omega arith) (span_word (omega (arith, few_words ok))) f in
    (is_word ∙ e, next)

-- before its rules a sheet that passes has its edition, its numbers of states, tags and rules, and its final states
module _ (s : List ℕ) {one p g n sized finals tagged ruled first : ℕ} {final : List ℕ} (e₁ : word (between 1 1) s 0 ≡ got one sized)
    (e₂ : word (between 1 64) s sized ≡ got p finals) (e₃ : set_below p s finals ≡ got final tagged)
    (e₄ : word (between 1 64) s tagged ≡ got g ruled) (e₅ : word (between 0 1024) s ruled ≡ got n first) where
  past_edition : Passes s → sized ≡ 1
  past_edition ok = (on_word ok 0 (edition_word ok) (omega arith) (omega arith) (omega arith) e₁).1

  states : Passes s → (p ≡ (sheet_in s).states) × (finals ≡ 2)
  states ok = on_word ok 1 (states-word ok) (in_range ok).some_states (in_range ok).few_states (omega arith) (rw (past_edition ok) at e₂)

  past_final : Passes s → tagged ≡ 4
  past_final ok =
      let (p_is, at) = states ok in (on_part (set_reads (sheet_in s).states) (in_range ok).final (final-there ok) (rw (p_is, at) at e₃)).1

  tags : Passes s → (g ≡ (sheet_in s).tags) × (ruled ≡ 5)
  tags ok = on_word ok 4 (tags-word ok) (in_range ok).some_tags (in_range ok).few_tags (omega arith) (rw (past_final ok) at e₄)

  number : Passes s → (n ≡ length (rules_in s)) × (first ≡ 6)
  number ok = on_word ok 5 (rules-word ok) (omega arith) (in_range ok).few_rules (omega arith) (rw (tags ok).1 at e₅)

  -- so the table has where its rules begin
  pub whole_noted : {places : List ℕ} → Begins p g n s first places → Places s places
  whole_noted h = record {
    noted = λ ok.
        rw (number ok).0 at (h.noted (record {
          sheet = ok;
          states = (states ok).0;
          tags = (tags ok).0;
          number = (number ok).0;
          begins = (number ok).1;
        }));
  }

-- words with a bad one don't pass, and there is nothing to note
pub none_noted : {x y : Walk} {v : Result (Unit {0}) Bad} {b : Bad} {places : List ℕ} → GoesPast sheet x v y → v ≡ Err b → x.at ≡ 0
    → Places x.words.now places
unfolding sheet_of ended
none_noted {x} {b = b} h e start = record {
  noted = λ ok.
      let stops : sheet x.words.now 0 ≡ bad b.0 = rw start at (refused h e) in
      let passed = rw (take_all 16384 x.words.now (omega (arith, few_words ok)), stops) at ok.as_sheet in
      absurd cc;
}
