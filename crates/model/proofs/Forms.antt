-- A text is taken exactly when it is a form by the grammar, within the limits.
use mathlib.Core.Path.{◌≡◌, refl, sym, ap, ◌∙◌}
use mathlib.Core.Logic.{◌↔◌}
use mathlib.Core.List.{List}
use Prim.Native.Nat.{ℕ}
use lib.Dec.{leb}
use lib.ListN.{length}
use Rattle.model.specs.Answers.{passes}
use Rattle.model.specs.Tree.{Element, Document, ε, ◌·◌}
use Rattle.model.specs.Text.{start, form_of, scan}
use Rattle.model.specs.Grammar.{list_bytes, NameList, GoodForm}
use Rattle.model.proofs.Scan.{scan-is, form-short}
use Rattle.model.proofs.FormScan.{form_taken, form-keeps}
use Rattle.model.proofs.CheckLaws.{guarded}
use Rattle.model.proofs.Backward.{scanned_form}

module _ (names : List (List ℕ)) (is-list : NameList names) where
  -- A text is taken exactly when it is a form within the limits; it is then read as that form.
  pub text_passes : (s : List ℕ) (d : Document)
      → (form_of (list_bytes names) s ≡ passes d) ↔ ((e : Element) × (d ≡ e · ε) × GoodForm names s e)
  text_passes s d = (
    λ h.
        let list = list_bytes names in
        let (_, taken) = guarded (leb (length s) 65535) (scan list start 0 s) 1 65535 (sym (scan-is list s) ∙ h) in
        let (e, one, is_form) = scanned_form names is-list d s taken in
        (e, one, record { is_form = is_form; keeps = form-keeps names is-list is_form taken; short = form-short list s h }),
    λ (e, one, good). form_taken names is-list good ∙ ap passes (sym one),
  )

  -- No text is two forms.
  pub text_unique : {s : List ℕ} {e f : Element} → GoodForm names s e → GoodForm names s f → e ≡ f
  text_unique {s} {e} {f} g h =
      let r : form_of (list_bytes names) s ≡ passes (e · ε) = (text_passes s (e · ε)).1 (e, refl, g) in
      let t : form_of (list_bytes names) s ≡ passes (f · ε) = (text_passes s (f · ε)).1 (f, refl, h) in
      cc
