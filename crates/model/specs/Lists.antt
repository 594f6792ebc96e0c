-- Lists of numbers: what the definitions need beyond the library's.
use Rattle.std.specs.Prelude.{Bool, true, false, ◌&&◌, ◌||◌, ℕ, zero, suc, ◌<◌, eqb}
use mathlib.Core.List.{List, [], ◌∷◌, flat_map, Memᴰ}

-- a is a member of l
infix 40 ◌∈◌
abbrev pub ◌∈◌ {ℓ} : {A : Type ℓ} → A → List A → Type ℓ
a ∈ l = Memᴰ a l

-- q is a member, as a test
unfoldable pub has : List ℕ → ℕ → Bool
has [] q = false
has (x ∷ l) q = eqb q x || has l q

-- every element passes the test
unfoldable pub every : {A : Type 0} → (A → Bool) → List A → Bool
every f [] = true
every f (x ∷ l) = f x && every f l

-- a alone where the test passes, nothing where it fails
unfoldable pub only : {A : Type 0} → Bool → A → List A
only true a = a ∷ []
only false a = []

-- the n numbers from q on; the numbers 0 to n − 1
unfoldable pub from : ℕ → ℕ → List ℕ
from zero q = []
from (suc n) q = q ∷ from n (suc q)

abbrev pub numbers : ℕ → List ℕ
numbers n = from n 0

-- f of each pair of elements, the first list's order outermost
unfoldable pub row : {A B C : Type 0} → (A → B → C) → List B → A → List C
row f bs a = flat_map (λ b. f a b ∷ []) bs

unfoldable pub grid : {A B C : Type 0} → (A → B → C) → List A → List B → List C
grid f as' bs = flat_map (row f bs) as'

-- a set as the ascending list of its members, all below k
abbrev pub Ascending : List ℕ → Type 0
Ascending [] = Unit {0}
Ascending (x ∷ l) = ((y : ℕ) → y ∈ l → x < y) × Ascending l

pub record SetBelow (k : ℕ) (l : List ℕ) : Type 0 where
  pub ascends : Ascending l
  pub below : (q : ℕ) → q ∈ l → q < k
