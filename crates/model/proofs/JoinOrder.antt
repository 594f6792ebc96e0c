-- A joint order part: a word of pairs is in its language exactly if its halves are in the languages of the two parts.
use mathlib.Core.Path.{◌≡◌, sym, ap, ap₂, ◌∙◌, subst, subst₂}
use mathlib.Core.Logic.{◌↔◌}
use mathlib.Core.List.{List, [], ◌∷◌}
use mathlib.Core.Option.{Option, none, some}
use Prim.Native.Nat.{ℕ, ◌<◌}
use Rattle.model.specs.Lists.{◌∈◌, numbers, grid}
use Rattle.model.specs.Sheet.{Arc, Order, OrderInRange, IfAny}
use Rattle.model.specs.Words.{Path_of, InLanguage}
use Rattle.model.specs.Compose.{pair, Side, S, T, half, beside, Sizes, of_other, lift_arc, lift_order, pair_arc, pair_order}
use Rattle.model.specs.Compose.{joint_order, of_side, of_pairs}
use Rattle.model.proofs.ListLaws.{∈-grid, grid-∈, ∈-numbers, numbers-<}
use Rattle.model.proofs.Pairs.{either, on_both, half-pair, pair_halves, same_halves, half_zero, ∈_pairs, half-beside, beside-half}
use Rattle.model.proofs.Pairs.{AllBelow, halves}

-- an arc leaves position i and reads state q, and a path leads on from it
abbrev Begins : List Arc → ℕ → ℕ → List ℕ → ℕ → Arc → Type 0
Begins arcs i q w j a = (a.leaves ≡ i) × (a.reads ≡ q) × Path_of arcs a.enters w j

module _ (n : Sizes) where
  abbrev p : ℕ
  p = n.of_T

  -- ---- one part alone

  module _ (side : Side) (arcs : List Arc) where
    abbrev lifted : List Arc
    lifted = grid (lift_arc side n) arcs (numbers (of_other side n))

    lift_path : (w : List ℕ) → AllBelow (of_pairs n) w → (i j : ℕ) → Path_of arcs i (halves side n w) j → Path_of lifted i w j
    lift_path [] b i j e = e
    lift_path (x ∷ w) (h, b) i j (a, m, l, r, path) =
        let (other, k, e) = beside-half side n h in (
          lift_arc side n a other,
          ∈-grid (lift_arc side n) m (∈-numbers _ k),
          l,
          ap (λ (q : ℕ). beside side p q other) r ∙ e,
          lift_path w b a.enters j path,
        )

    path_lift : ((a : Arc) → a ∈ arcs → a.reads < of_side side n) → (w : List ℕ) (i j : ℕ) → Path_of lifted i w j → Path_of arcs i
        (halves side n w) j
    path_lift ok [] i j e = e
    path_lift ok (x ∷ w) i j (c, m, l, r, path) =
        let (a, other, ma, mo, e) = grid-∈ (lift_arc side n) arcs (numbers (of_other side n)) m in
        let (l', r', path') = subst (Begins lifted i x w j) e (l, r, path) in
        (a, ma, l', sym (half-beside side n (ok a ma) (numbers-< _ mo)) ∙ ap (half side p) r', path_lift ok w a.enters j path')

  lifted_language : (side : Side) (o : Order) → OrderInRange (of_side side n) o → (w : List ℕ) → AllBelow (of_pairs n) w
      → InLanguage (some (lift_order side n o)) w ↔ InLanguage (some o) (halves side n w)
  unfolding lift_order
  lifted_language side o ok w b = (
    λ (j, path, m). (j, path_lift side o.arcs (λ a h. (ok.arcs a h).reads) w 0 j path, m),
    λ (j, path, m). (j, lift_path side o.arcs w b 0 j path, m),
  )

  -- ---- a part on each side: positions are pairs, too

  module _ (o : Side → Order) (ok : OrderInRange p (o T)) where
    abbrev m : ℕ
    m = (o T).positions

    abbrev paired : List Arc
    paired = grid (pair_arc m p) (o S).arcs (o T).arcs

    abbrev HalfPath : Side → ℕ → List ℕ → ℕ → Type 0
    HalfPath side i w j = Path_of (o side).arcs i (halves side n w) j

    pair_path : (w : List ℕ) (i j : ℕ) → ((side : Side) → HalfPath side (half side m i) w (half side m j)) → Path_of paired i w j
    pair_path [] i j path = same_halves m i j path
    pair_path (x ∷ w) i j path =
        let enters : (side : Side) → half side m (pair m (path S).0.enters (path T).0.enters) ≡ (path side).0.enters
        = λ side. half-pair side (λ z. (path z).0.enters) (ok.arcs (path T).0 (path T).1).enters in (
          pair_arc m p (path S).0 (path T).0,
          ∈-grid (pair_arc m p) (path S).1 (path T).1,
          ap₂ (pair m) (path S).2 (path T).2 ∙ pair_halves m i,
          ap₂ (pair p) (path S).3 (path T).3 ∙ pair_halves p x,
          pair_path w _ j (λ side. subst (λ (k : ℕ). HalfPath side k w (half side m j)) (sym (enters side)) (path side).4),
        )

    path_pair : (side : Side) (w : List ℕ) (i j : ℕ) → Path_of paired i w j → HalfPath side (half side m i) w (half side m j)
    path_pair side [] i j e = ap (half side m) e
    path_pair side (x ∷ w) i j (c, h, l, r, path) =
        let (a, b, ma, mb, e) = grid-∈ (pair_arc m p) (o S).arcs (o T).arcs h in
        let (l', r', path') = subst (Begins paired i x w j) e (l, r, path) in
        let range = ok.arcs b mb in (
          either a b side,
          on_both (λ z. either a b z ∈ (o z).arcs) ma mb side,
          sym (half-pair side (λ z. (either a b z).leaves) range.leaves) ∙ ap (half side m) l',
          sym (half-pair side (λ z. (either a b z).reads) range.reads) ∙ ap (half side p) r',
          subst (λ (k : ℕ). HalfPath side k w (half side m j)) (half-pair side (λ z. (either a b z).enters) range.enters)
              (path_pair side w _ j path'),
        )

    paired_language : (w : List ℕ) → InLanguage (some (pair_order n (o S) (o T))) w ↔
        ((side : Side) → InLanguage (some (o side)) (halves side n w))
    unfolding pair_order
    paired_language w = (there, back)
      where
        there : InLanguage (some (pair_order n (o S) (o T))) w → (side : Side) → InLanguage (some (o side)) (halves side n w)
        there (j, path, h) side = (
          half side m j,
          subst (λ (k : ℕ). HalfPath side k w (half side m j)) (half_zero side m) (path_pair side w 0 j path),
          (∈_pairs m (λ z. (o z).accepting) ok.accepting.below j).0 h side,
        )

        back : ((side : Side) → InLanguage (some (o side)) (halves side n w)) → InLanguage (some (pair_order n (o S) (o T))) w
        back h =
            let last : (side : Side) → half side m (pair m (h S).0 (h T).0) ≡ (h side).0 = λ side. half-pair side (λ z. (h z).0)
            (ok.accepting.below _ (h T).2) in (
              pair m (h S).0 (h T).0,
              pair_path w 0 _ (λ side. subst₂ (λ (i j : ℕ). HalfPath side i w j) (sym (half_zero side m)) (sym (last side)) (h side).1),
              ∈-grid (pair m) (h S).2 (h T).2,
            )

  pub joint_language : (o u : Option Order) → IfAny (OrderInRange n.of_S) o → IfAny (OrderInRange n.of_T) u → (w : List ℕ) → AllBelow
      (of_pairs n) w
      → InLanguage (joint_order n o u) w ↔ (InLanguage o (halves S n w) × InLanguage u (halves T n w))
  unfolding joint_order
  joint_language none none ok ok' w b = (λ _. (tt, tt), λ _. tt)
  joint_language (some o) none ok ok' w b = let e = lifted_language S o ok w b in (λ h. (e.0 h, tt), λ h. e.1 h.0)
  joint_language none (some u) ok ok' w b = let e = lifted_language T u ok' w b in (λ h. (tt, e.0 h), λ h. e.1 h.1)
  joint_language (some o) (some u) ok ok' w b =
      let e = paired_language (either o u) ok' w in
      (λ h. (e.0 h S, e.0 h T), λ (h, k). e.1 (on_both (λ z. InLanguage (some (either o u z)) (halves z n w)) h k))
