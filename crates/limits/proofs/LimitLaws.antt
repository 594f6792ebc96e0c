-- The earlier of two limits.
use mathlib.Core.Path.{◌≡◌, refl}
use mathlib.Core.Bool.{Bool, true, false, cond, ◌&&◌}
use Prim.Native.Nat.{◌≤◌, ◌<◌}
use native.Mathlib.Omega.{arith}
use lib.Dec.{leb}
use borrow.Author.Tests as tests
use Rattle.std.specs.Prelude.{Option, Some, None}
use Rattle.limits.specs.declared.Limit.{Limit}
use Rattle.limits.specs.Limits.{place, first_of, earlier}

pub earlier_none : (l : Option Limit) → earlier l None ≡ l
earlier_none None = refl
earlier_none (Some k) = refl

-- of three limits
pub earlier_assoc : (k l m : Option Limit) → earlier (earlier k l) m ≡ earlier k (earlier l m)
earlier_assoc None l m = refl
earlier_assoc (Some k) None m = refl
earlier_assoc (Some k) (Some l) None = refl
earlier_assoc (Some k) (Some l) (Some m) = go (leb (place k) (place l)) (leb (place l) (place m)) refl refl
  where
    go : (b c : Bool) → leb (place k) (place l) ≡ b → leb (place l) (place m) ≡ c
        → earlier (Some (cond b k l)) (Some m) ≡ earlier (Some k) (Some (cond c l m))
    go true true e f =
        let far : place k ≤ place m
        = omega (arith, tests.leb-true (place k) (place l) e, tests.leb-true (place l) (place m) f) in
        rw (tests.le-leb (place k) (place m) far, e)
    go true false e f = refl
    go false true e f = rw (e, f)
    go false false e f =
        let far : place m < place k
        = omega (arith, tests.leb-false (place k) (place l) e, tests.leb-false (place l) (place m) f) in
        rw (tests.lt-leb (place k) (place m) far, f)

-- of two lists of rules, by whether the rules of each keep to their limits
pub first_both : (a a' b b' c c' : Bool) → first_of (a && a') (b && b') (c && c') ≡ earlier (first_of a b c) (first_of a' b' c')
first_both false false b b' c c' = refl
first_both false true b false c c' = refl
first_both false true b true c false = refl
first_both false true b true c true = refl
first_both true false false b' c c' = refl
first_both true false true b' false c' = refl
first_both true false true b' true c' = refl
first_both true true false false c c' = refl
first_both true true false true c false = refl
first_both true true false true c true = refl
first_both true true true false false c' = refl
first_both true true true false true c' = refl
first_both true true true true false false = refl
first_both true true true true false true = refl
first_both true true true true true c' = refl
