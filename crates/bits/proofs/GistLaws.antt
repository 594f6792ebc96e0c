-- What a list of targets amounts to, by how many members the set has that stands for it.
use mathlib.Core.Path.{◌≡◌, refl, sym, ap, ◌∙◌}
use mathlib.Core.Logic.{◌↔◌}
use mathlib.Core.List.Memᴰ
use mathlib.Core.List.{List, [], ◌∷◌}
use Prim.Native.Nat.{ℕ}
use native.Mathlib.Omega.{arith}
use Rattle.model.specs.Lists.{◌∈◌, Ascending}
use Rattle.model.specs.Sheet.{members}
use Rattle.model.specs.Run.{Reached, nothing, just, several, gist}
use Rattle.model.proofs.ListLaws.{∈-has, has-∈}
use Rattle.model.proofs.SetWords.{members_set}
use Rattle.model.proofs.Outcome.{Gist, gist-is}
use Rattle.bits.specs.Stands.{Stands}
use Rattle.bits.proofs.SetLaws.{members_stand}

-- a list amounts to one thing
one_gist : (l : List ℕ) (g h : Reached) → Gist l g → Gist l h → g ≡ h
one_gist l nothing nothing a b = refl
one_gist l nothing (just q) a (m, f) = absurd (a q m)
one_gist l nothing several a (q, r, m, n, d) = absurd (a q m)
one_gist l (just q) nothing (m, f) b = absurd (b q m)
one_gist l (just q) (just r) (m, f) (n, g) = ap just (g q m)
one_gist l (just q) several (m, f) (r, s, n, o, d) = absurd (d (f r n ∙ sym (f s o)))
one_gist l several nothing (q, r, m, n, d) b = absurd (b q m)
one_gist l several (just q) (r, s, n, o, d) (m, f) = absurd (d (f r n ∙ sym (f s o)))
one_gist l several several a b = refl

-- ascending lists with no element, one, and two or more
abbrev pub by_members : List ℕ → Reached
by_members [] = nothing
by_members (x ∷ []) = just x
by_members (x ∷ y ∷ l) = several

ascending_gist : (l : List ℕ) → Ascending l → Gist l (by_members l)
ascending_gist [] a = λ q m. Memᴰ.not-nil m
ascending_gist (x ∷ []) a = (Memᴰ.head refl, λ r m. Memᴰ.eq_of_singleton m)
ascending_gist (x ∷ y ∷ l) (a, b) =
    (x, y, Memᴰ.head refl, Memᴰ.tail (Memᴰ.head refl), λ e. let h = a y (Memᴰ.head refl) in omega arith)

-- what a list amounts to is told by its members alone
same-gist : {l m : List ℕ} (g : Reached) → ((q : ℕ) → (q ∈ l) ↔ (q ∈ m)) → Gist l g → Gist m g
same-gist nothing e a = λ q n. a q ((e q).1 n)
same-gist (just q) e (n, f) = ((e q).0 n, λ r o. f r ((e r).1 o))
same-gist several e (q, r, n, o, d) = (q, r, (e q).0 n, (e r).0 o, d)

module _ {set : ℕ} {l : List ℕ} (s : Stands set l) where
  -- a list amounts to what the members of its set do
  pub gist-members : gist l ≡ by_members (members 64 set)
  gist-members =
      let m = members 64 set in
      let own : Stands set m = members_stand s.fits in
      let alike : (q : ℕ) → (q ∈ m) ↔ (q ∈ l) = λ q.
      (λ n. has-∈ l (sym (s.same q) ∙ own.same q ∙ ∈-has n), λ n. has-∈ m (sym (own.same q) ∙ s.same q ∙ ∈-has n)) in
      one_gist l (gist l) (by_members m) (gist-is l)
      (same-gist (by_members m) alike (ascending_gist m (members_set 64 set).ascends))
