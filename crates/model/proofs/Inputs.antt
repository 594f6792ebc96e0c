-- What read and formcheck take, by grammars alone.
use mathlib.Core.Path.{◌≡◌, refl, sym, ap, subst, ◌∙◌}
use mathlib.Core.Logic.{◌↔◌}
use mathlib.Core.List.{List}
use Prim.Native.Nat.{ℕ, ◌*◌, ◌≤◌}
use native.Mathlib.Omega.{arith}
use lib.ListN.{length}
use borrow.Author.Tests.{leb-true}
use Rattle.model.specs.Answers.{passes, ◌>>=◌, ◌>>◌, room_for}
use Rattle.model.specs.Tree.{Element, Document, ε, ◌·◌, size, sizeD}
use Rattle.model.specs.Sheet.{Sheet, sheet_words, InRange, file_words}
use Rattle.model.specs.Names.{names_of}
use Rattle.model.specs.Text.{form_of}
use Rattle.model.specs.Grammar.{list_bytes, NameList, GoodForm}
use Rattle.model.specs.Calls.{read}
use Rattle.model.specs.Demands.{Presents}
use Rattle.model.proofs.CheckLaws.{passes_inj, bind_inv, then_inv, require-is}
use Rattle.model.proofs.SheetCode.{sheet_passes}
use Rattle.model.proofs.NameList.{names-checked, names_pass}
use Rattle.model.proofs.RoundTrip.{one_size, room_passes}
use Rattle.model.proofs.Forms.{text_passes}

-- ---- read

-- Read takes exactly a name list and a form over its names, where there is room for the words of its nodes.
pub read_passes : (list s : List ℕ) (room : ℕ) (d : Document)
    → (read list s room ≡ passes d)
    ↔ ((names : List (List ℕ)) × (e : Element) × (list ≡ list_bytes names) × NameList names × GoodForm names s e
    × (4 * size e ≤ room) × (d ≡ e · ε))
unfolding read room_for ◌>>=◌ ◌>>◌
read_passes list s room d = (
  λ h.
      let (g, h₁, r₁) = bind_inv (names_of list) _ h in
      let (c, h₂, r₂) = bind_inv (form_of list s) _ r₁ in
      let (_, h₃, r₃) = then_inv (room_for (4 * sizeD c) room) _ r₂ in
      let (names, l, is-list, _) = (names_pass list g).0 h₁ in
      let (e, one, good) = (text_passes names is-list s c).0 (ap (λ l. form_of l s) (sym l) ∙ h₂) in
      let fits = leb-true (4 * sizeD c) room ((require-is _ 22 (4 * sizeD c)).0 h₃) in
      (names, e, l, is-list, good, omega (arith, ap sizeD one, one_size e), sym (passes_inj r₃) ∙ one),
  λ (names, e, l, is-list, good, fits, one).
      let taken : form_of (list_bytes names) s ≡ passes d = (text_passes names is-list s d).1 (e, one, good) in
      rw (l, names-checked names is-list, taken, room_passes (4 * sizeD d) room (omega (arith, ap sizeD one, one_size e))),
)

-- ---- formcheck

-- The three inputs of formcheck present a sheet and a form exactly when they are a name list with as many names as the sheet has tags,
-- the words of that sheet, within all ranges, and that form over the list's names.
pub presents_is : (list file s : List ℕ) (t : Sheet) (e : Element)
    → Presents list file s t e
    ↔ ((names : List (List ℕ)) × (list ≡ list_bytes names) × NameList names × (length names ≡ t.tags)
    × (file_words file ≡ sheet_words t) × InRange t × GoodForm names s e)
presents_is list file s t e = (
  λ p.
      let (names, l, is-list, n) = (names_pass list t.tags).0 p.names in
      let (sheet-is, ranges) = (sheet_passes (file_words file) t).0 p.sheet in
      let (f, one, good) = (text_passes names is-list s (e · ε)).0 (ap (λ l. form_of l s) (sym l) ∙ p.form) in
      let same : f ≡ e = cc in
      (names, l, is-list, n, sheet-is, ranges, subst (GoodForm names s) same good),
  λ (names, l, is-list, n, sheet-is, ranges, good). record {
    names = (names_pass list t.tags).1 (names, l, is-list, n);
    sheet = (sheet_passes (file_words file) t).1 (sheet-is, ranges);
    form = ap (λ l. form_of l s) l ∙ (text_passes names is-list s (e · ε)).1 (e, refl, good);
  },
)
