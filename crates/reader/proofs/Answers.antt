-- What the call says, and the tree then, by what its checks and the one pass tell.
use mathlib.Core.Path.{◌≡◌, refl, ◌∙◌}
use mathlib.Core.List.{List, ◌++◌}
use Prim.Native.Nat.{ℕ, ◌*◌, ◌≤◌, ◌<◌}
use native.Mathlib.Omega.{arith}
use lib.ListN.{length, drop, take}
use borrow.Author.Tests.{le-leb, lt-leb}
use Rattle.model.specs.Answers.{refusal, said_refusal, said, Checked, passes, refuses, ◌>>=◌, ◌>>◌, require, room_for, answer_of}
use Rattle.model.specs.Answers.{buffer_after}
use Rattle.model.specs.Tree.{sizeD}
use Rattle.model.specs.Names.{names_of}
use Rattle.model.specs.Text.{form_of}
use Rattle.model.specs.Calls.{names_said, read_said, read_tree}
use Rattle.model.specs.Calls as calls
use Rattle.model.specs.declared.Refusal.{Refusal}
use Rattle.model.specs.declared.Refusal.TheVariants.{LongText, ShortBuffer}
use Rattle.model.specs.Answers.{Answer}
use Rattle.std.specs.Prelude.{Ok, Err}
use Rattle.model.proofs.Answered.{refusal_says}
use Rattle.model.proofs.CheckLaws.{bind_passes}
use Rattle.model.proofs.TreeLaws.{length-wordsD}
use Rattle.model.proofs.Scan.{scan-is}
use Rattle.offsets.specs.Lines.{line_count}
use Rattle.offsets.proofs.IndexLaws.{all-indexed}
use Rattle.read_nodes.specs.Packed.{all_unpacked}
use Rattle.read_pass.specs.Reading.{Refuses, Whole}

-- ---- the check of the name list

-- an answer counts what passes, and refuses what is refused
counts-passed : (c : Checked ℕ) (g : ℕ) → said (Ok g) ≡ answer_of (λ n. n) c → c ≡ passes g
unfolding said answer_of
counts-passed (passes n) g e = cc
counts-passed (refuses n i) g e = let z : ◌≡◌ {A = ℕ} 0 1 = cc in absurd (omega arith)

refuses_refused : (c : Checked ℕ) (x : Refusal) → said (Err x) ≡ answer_of (λ n. n) c → (n : ℕ) × (i : ℕ) × (c ≡ refuses n i) ×
    (said_refusal x ≡ refusal n i)
unfolding said answer_of
refuses_refused (passes m) x e = let (n, i, f) = refusal_says x in let z : ◌≡◌ {A = ℕ} 0 1 = cc in absurd (omega arith)
refuses_refused (refuses n i) x e = (n, i, refl, e)

module _ (list text tree : List ℕ) where
  -- the call says this, with the tree as it is then
  abbrev Told : Answer → List ℕ → Type 0
  Told r after = (said r ≡ read_said list text tree) × (after ≡ read_tree list text tree)

  -- where a check refuses, nothing is written
  told_refused : {n i : ℕ} (x : Refusal) → calls.read list text (length tree) ≡ refuses n i → said_refusal x ≡ refusal n i → Told
      (Err x) tree
  unfolding said read_said read_tree answer_of buffer_after ◌>>=◌
  told_refused x e f = (rw e f, rw e)

  pub checked-names : (g : ℕ) → said (Ok g) ≡ names_said list → names_of list ≡ passes (line_count list)
  unfolding names_said
  checked-names g e = let passed = counts-passed (names_of list) g e in rw (all-indexed list g passed) passed

  names-refused : {n i : ℕ} (x : Refusal) → names_of list ≡ refuses n i → said_refusal x ≡ refusal n i → Told (Err x) tree
  unfolding calls.read ◌>>=◌
  names-refused x e f = told_refused x (rw e) f

  pub refused-names : (x : Refusal) → said (Err x) ≡ names_said list → Told (Err x) tree
  unfolding names_said
  refused-names x e = let (n, i, f, says) = refuses_refused (names_of list) x e in names-refused x f says

  -- ---- by a list that passes its check

  module _ {g : ℕ} (checked : names_of list ≡ passes g) where
    read-form : calls.read list text (length tree) ≡ (form_of list text >>= λ d. room_for (4 * sizeD d) (length tree) >> passes d)
    unfolding calls.read
    read-form = bind_passes (λ n. form_of list text >>= λ d. room_for (4 * sizeD d) (length tree) >> passes d) checked

    pub refused-form : {x : Refusal} → Refuses (form_of list text) x → Told (Err x) tree
    unfolding ◌>>=◌
    refused-form {x} r = told_refused x (read-form ∙ rw r.is) r.says

    pub long_text : 65535 < length text → Told (Err LongText) tree
    unfolding said_refusal
    long_text h = refused-form (record
        { number = 1; place = 65535; is = scan-is list text ∙ rw (lt-leb (length text) 65535 h); says = refl })

    module _ {words : List ℕ} {n : ℕ} (w : Whole list text words n) where
      read_whole : calls.read list text (length tree) ≡ (room_for (4 * n) (length tree) >> passes w.form)
      unfolding ◌>>=◌
      read_whole = read-form ∙ rw (w.is, w.count)

      pub short-buffer : length tree < 4 * n → Told (Err (ShortBuffer (4 * n))) tree
      unfolding said_refusal room_for require ◌>>◌
      short-buffer h = told_refused (ShortBuffer (4 * n)) (read_whole ∙ rw (lt-leb (4 * n) (length tree) h)) refl

      pub filled : {after : List ℕ} → 4 * n ≤ length tree → after ≡ all_unpacked (take n words) ++ drop (4 * n) tree → Told (Ok n) after
      unfolding said read_said read_tree answer_of buffer_after room_for require ◌>>=◌ ◌>>◌
      filled h e =
          let whole : calls.read list text (length tree) ≡ passes w.form = read_whole ∙ rw (le-leb (4 * n) (length tree) h) in
          let count : sizeD w.form ≡ n = w.count in
          (rw (whole, w.count), rw (whole, e, w.encoded, length-wordsD w.form, w.count))
