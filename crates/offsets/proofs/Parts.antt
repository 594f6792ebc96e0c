-- Parts of a list, `take (end - at) (drop at list)`, without their last byte.
use mathlib.Core.Path.{◌≡◌, sym, ◌∙◌}
use mathlib.Core.List.{List, []}
use Prim.Native.Nat.{ℕ, ◌+◌, ◌-◌, ◌≤◌, ◌<◌, min}
use native.Mathlib.Omega.{arith}
use lib.Dec.{leb}
use lib.ListN.{length, get_or, take, drop, length-drop}
use lib.Seq.{take_all, take-take, length-take-le, get_or-take, get_or-drop}
use borrow.Author.Tests.{leb-true, leb-false}
use Rattle.model.specs.Names.{bare}
use Rattle.model.proofs.Tests.{Told, yea, nay, told}

module _ (list : List ℕ) (at end : ℕ) where
  pub part_length : end ≤ length list → length (take (end - at) (drop at list)) ≡ end - at
  part_length h = length-take-le (end - at) (drop at list) (rw length-drop (omega arith))

  pub part_bare : end ≤ length list → bare (take (end - at) (drop at list)) ≡ take (end - 1 - at) (drop at list)
  part_bare h =
      let m : end - at - 1 ≡ end - 1 - at = omega arith in
      rw (part_length h, m, take-take (end - 1 - at) (end - at) (drop at list) (omega arith))

  pub part_last : at < end → end ≤ length list → get_or (take (end - at) (drop at list))
      (length (take (end - at) (drop at list)) - 1) 0 ≡ get_or list (end - 1) 0
  part_last h i =
      let m : at + (end - at - 1) ≡ end - 1 = omega arith in
      rw (part_length i, get_or-take (end - at) (drop at list) (end - at - 1) 0 (omega arith), get_or-drop, m)

-- a part that goes past the end stops there
module _ (list : List ℕ) (at end m : ℕ) (stops : m ≡ min end (length list)) where
  part_within : take (end - at) (drop at list) ≡ take (m - at) (drop at list)
  part_within = go (told (leb end (length list)))
    where
      go : Told (leb end (length list)) → take (end - at) (drop at list) ≡ take (m - at) (drop at list)
      go (yea h) = let f : m ≡ end = omega (arith, leb-true end (length list) h) in rw f
      go (nay h) =
          let l = leb-false end (length list) h in
          take_all (end - at) (drop at list)
          (omega (arith, length-drop at list)) ∙ sym (take_all (m - at) (drop at list) (omega (arith, length-drop at list)))

  pub part_some : bare (take (end - at) (drop at list)) ≡ take (m - 1 - at) (drop at list)
  part_some = rw part_within (part_bare list at m (omega arith))

  pub part_none : m ≤ at → bare (take (end - at) (drop at list)) ≡ []
  part_none h = let f : m - 1 - at ≡ 0 = omega arith in rw (part_some, f)
