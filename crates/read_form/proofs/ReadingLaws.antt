-- How one reading goes on as another.
use mathlib.Core.Path.{◌≡◌, refl, sym, ap, ◌∙◌}
use mathlib.Core.Bool.{Bool}
use mathlib.Core.List.{List}
use Prim.Native.Nat.{ℕ, ◌+◌, ◌≤◌, ◌<◌}
use native.Mathlib.Omega.{arith}
use lib.ListN.{length, drop}
use Rattle.read_runs.specs.Runs.{run, class_within}
use Rattle.read_runs.proofs.RunLaws.{run-within}
use Rattle.std.specs.Prelude.{Ok, Err}
use Rattle.model.specs.Bytes.{same_bytes}
use Rattle.model.specs.Text.{name_at, outside, form_of}
use Rattle.model.specs.declared.Refusal.{Refusal}
use Rattle.read_nodes.specs.Packed.{closed_words, closed_scan}
use Rattle.read_pass.specs.Reading.{Reads, Refuses}
use Rattle.read_form.specs.declared.Reader.{Reader}
use Rattle.read_form.specs.Readings.{Same, Moves, Closes}

-- a reading goes on as itself
pub here : (r : Reader) → Same r r
here r = record { names = refl; text = refl; words = refl }

-- it is refused where it is
pub stays : (r : Reader) {x : Refusal} → Refuses (form_of r.names.list.now r.text.now) x → Moves r r (Err x)
stays r e = record { same = here r; is = e }

module _ {r q s : Reader} (same : Same r q) where
  also : Same q s → Same r s
  also t = record { names = t.names ∙ same.names; text = t.text ∙ same.text; words = t.words ∙ same.words }

  -- the innermost open element ends
  pub closes_there : {at : ℕ} → Closes q at s → r.scan.at < at
      → Reads r.names.list.now r.text.now (closed_words q.words.now q.scan) outside (closed_scan q.words.now q.scan at) → Moves r s (Ok tt)
  closes_there c later reads = record { same = also c.same; is = rw (c.words, c.scan) (later, reads) }

-- ---- the bytes from an offset on

-- what is told of them is told of the text there
pub named_there : (name : List ℕ) {rest there : List ℕ} {told b : Bool} → rest ≡ there → told ≡ same_bytes name (name_at rest) → told ≡ b
    → same_bytes name (name_at there) ≡ b
named_there name is e h = rw is at (sym e ∙ h)

-- past white, the text isn't left
module _ (text : List ℕ) {at here white : ℕ} {rest : List ℕ} (is_here : here ≡ at) (is_rest : rest ≡ drop here text)
    (is : white ≡ run (class_within 0 0) rest) (h : at ≤ length text) where
  pub past_within : (at ≤ here + white) × (here + white ≤ length text)
  past_within =
      let n = is ∙ ap (run (class_within 0 0)) (is_rest ∙ ap (λ (i : ℕ). drop i text) is_here) in
      let w = run-within (class_within 0 0) text at h in
      (omega arith, omega (arith, n, w))
