-- What a symbol says, from the answer of `Symbol::from` and the arm that is taken.
use mathlib.Core.Path.{◌≡◌, sym, ap, ◌∙◌}
use mathlib.Core.Logic.{◌≢◌}
use mathlib.Core.List.{[], ◌∷◌}
use Prim.Native.Nat.{ℕ}
use native.Mathlib.Omega.{arith}
use denote.Enum.Declared.{tag_of}
use types.Run.{OneOf, miss}
use Rattle.model.specs.Tree.{of_tag, of_nothing}
use Rattle.model.specs.Tree as model
use Rattle.model.proofs.SymbolLaws.{text≢tag}
use Rattle.symbols.specs.Meaning.{meaning}
use Rattle.symbols.specs.declared.Symbol.{Symbol}
use Rattle.symbols.specs.declared.Symbol.TheVariants.{Tag, Text, Nothing}
use Rattle.symbols.specs.contracts.Symbol.{the_type}

pub means : {m : model.Symbol} {r q : Symbol} → meaning r ≡ m → r ≡ q → m ≡ meaning q
means e q = sym e ∙ ap meaning q

nothing≢tag : {a : ℕ} → of_nothing ≢ of_tag a
nothing≢tag e = let z : ◌≡◌ {A = ℕ} 0 1 = cc in absurd (omega arith)

-- the arm of what is no tag
pub tag_missed : {m : model.Symbol} (r : Symbol) → meaning r ≡ m → OneOf (1 ∷ 2 ∷ []) (tag_of the_type r) → (a : ℕ) → m ≢ of_tag a
tag_missed (Tag a) e k b q = miss (1 ∷ 2 ∷ []) 0 tt k
tag_missed (Text x) e k b q = text≢tag (e ∙ q)
tag_missed Nothing e k b q = nothing≢tag (e ∙ q)
