-- A sum's marks: as many coefficients follow as the two words have bits.
use mathlib.Core.Path.{◌≡◌, sym, ap, ◌∙◌}
use mathlib.Core.List.{List}
use Prim.Native.Nat.{ℕ, ◌^◌, ◌<◌}
use lib.ListN.{length}
use Rattle.model.specs.Lists.{has}
use Rattle.model.specs.Sheet.{got, mask, members, set_below}
use Rattle.model.proofs.SetWords.{mask-<, members-mask, set_reads}
use Rattle.bits.proofs.MemberLaws.{size_is}

-- the set of the two words has as many members as the number that they make has bits
pub marks_many : (p : ℕ) (s : List ℕ) (i n : ℕ) (l : List ℕ) → set_below p s i ≡ got l n → {bits : ℕ} → bits < 2 ^ 64
    → bits ≡ mask p (has l) → length l ≡ length (members 64 bits)
marks_many p s i n l e {bits} small eb =
    let set = ((set_reads p).forwards e).0 in
    let inside : bits < 2 ^ p = rw eb (mask-< p (has l)) in
    let members_are : members p bits ≡ l = ap (members p) eb ∙ members-mask p l set in
    sym (sym (size_is 64 bits small) ∙ size_is p bits inside ∙ ap length members_are)
