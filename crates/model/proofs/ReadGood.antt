-- Reading: what it takes is a tree that keeps the rules, that the writer writes, and whose written form is no longer than the text.
use mathlib.Core.Path.{◌≡◌, sym, ap, ◌∙◌, subst₂}
use mathlib.Core.List.{List}
use Prim.Native.Nat.{ℕ, ◌≤◌}
use lib.ListN.{length}
use Rattle.model.specs.Answers.{passes}
use Rattle.model.specs.Tree.{Element, Document, ε, ◌·◌, nodes, Over}
use Rattle.model.specs.Names.{names_of}
use Rattle.model.specs.Text.{form_of}
use Rattle.model.specs.Written.{written, texts_checked}
use Rattle.model.specs.Grammar.{list_bytes, NameList}
use Rattle.model.proofs.DocumentLaws.{texts-good}
use Rattle.model.proofs.NameList.{names_pass}
use Rattle.model.proofs.FormGood.{form-good}
use Rattle.model.proofs.Forms.{text_passes}

-- what reading takes
abbrev Taken : (s : List ℕ) → Document → (list : List ℕ) (g : ℕ) → Type 0
Taken s d list g =
    (e : Element) × (d ≡ e · ε) × Over g e × (texts_checked s 0 (nodes e) ≡ passes tt) × (length (written list s e) ≤ length s)

taken : (names : List (List ℕ)) → NameList names → (s : List ℕ) (d : Document) → form_of (list_bytes names) s ≡ passes d
    → Taken s d (list_bytes names) (length names)
taken names is-list s d h =
    let (e, one, form) = (text_passes names is-list s d).0 h in
    let (good, short) = form-good names is-list form.is_form in
    (e, one, form.keeps, (texts-good s 0 (nodes e)).1 good, short)

pub read-good : (list s : List ℕ) (g : ℕ) (d : Document) → names_of list ≡ passes g → form_of list s ≡ passes d
    → (e : Element) × (d ≡ e · ε) × Over g e × (texts_checked s 0 (nodes e) ≡ passes tt) × (length (written list s e) ≤ length s)
read-good list s g d checked h =
    let (names, l, is-list, n) = (names_pass list g).0 checked in
    subst₂ (Taken s d) (sym l) n (taken names is-list s d (ap (λ l. form_of l s) (sym l) ∙ h))
