-- Keys of rules, by their first two words.
use mathlib.Core.Path.{◌≡◌, refl}
use mathlib.Core.Bool.{Bool, true, false, cond}
use mathlib.Core.List.{List}
use Prim.Native.Nat.{ℕ, ◌+◌, ◌<◌, min}
use native.Mathlib.Omega.{arith}
use lib.Dec.{eqb}
use lib.ListN.{get_or}
use Rattle.model.specs.Sheet.{Rule, one, two, three}
use Rattle.model.specs.Spans.{RuleAt, there_is, map_of}
use Rattle.model.specs.Index.{key}
use Rattle.model.proofs.RuleWords.{content-map, text_key, tag_key}
use Rattle.parts.specs.Lengths.{key_by}

-- the first two words of a rule tell its key
pub key_of_rule : {p a : ℕ} {s : List ℕ} (x : Rule) → RuleAt p s a x → key_by (get_or s a 0) (get_or s (a + 1) 0) ≡ key x
unfolding key_by key
key_of_rule (one k q) h =
    let (map, second) = text_key h in
    rw (map, second) (omega (arith, h.ranges.1))
key_of_rule (two g c q) h =
    let (map, second) = tag_key h in
    rw (map, second) (omega (arith, h.ranges.1))
key_of_rule {a = a} {s = s} (three o c q) h = rw (content-map h) (go (get_or s (a + 1) 0) (there_is o) (there_is c))
  where
    go : (second : ℕ) (ordered counted : Bool) → cond (eqb (map_of ordered counted) 33) (min second 2)
        (cond (eqb (map_of ordered counted) 38) (2 + min second 64) 0) ≡ 0
    go second true true = refl
    go second true false = refl
    go second false true = refl
    go second false false = refl

pub key-few : (map second : ℕ) → key_by map second < 67
unfolding key_by
key-few map second = go (eqb map 33) (eqb map 38)
  where
    go : (text tag : Bool) → cond text (min second 2) (cond tag (2 + min second 64) 0) < 67
    go true tag = omega arith
    go false true = omega arith
    go false false = omega arith
