-- The transition relation of source document 001, section 5.1.
use Rattle.std.specs.Prelude.{◌≡◌, ◌≢◌, List, [], ◌∷◌, ◌++◌, ℕ, zero, suc, length}
use Rattle.std.proofs.Math.Option.{Option}
use Rattle.model.specs.Lists.{◌∈◌}
use Rattle.model.specs.Tree.{Span, Element, text, tag, Document, ε, ◌·◌, nodes}
use Rattle.model.specs.Sheet.{Sheet, Rule, one, two, three, Order, Step}
use Rattle.model.specs.Words.{InLanguage, Satisfied}

-- n ≠ 1, for a document e₁ · … · eₙ
abbrev pub NotOne : Document → Type 0
NotOne ε = Unit {0}
NotOne (e · ε) = ⊥
NotOne (e · f · d) = Unit {0}

mutual
  -- e → q: a constant by a type 1 rule, a[d] by a type 2 rule
  pub data To (R : List Rule) : Element → ℕ → Type 0 where
    type_1 : {k q : ℕ} {w : Span} → one k q ∈ R → To R (text k w) q
    type_2 : {a c q : ℕ} {w : Span} {d : Document} → ToD R d c → two a c q ∈ R → To R (tag a w d) q

  -- d → q: a document of one element is that element; any other goes by a type 3 rule
  pub data ToD (R : List Rule) : Document → ℕ → Type 0 where
    lone : {e : Element} {q : ℕ} → To R e q → ToD R (e · ε) q
    type_3 : {d : Document} {w : List ℕ} {o : Option Order} {c : Option (List Step)} {q : ℕ}
        → NotOne d → Each R d w → InLanguage o w → Satisfied c w → three o c q ∈ R → ToD R d q

  -- e₁ → q₁ … eₙ → qₙ
  pub data Each (R : List Rule) : Document → List ℕ → Type 0 where
    no_more : Each R ε []
    more : {e : Element} {d : Document} {q : ℕ} {w : List ℕ} → To R e q → Each R d w → Each R (e · d) (q ∷ w)

-- ---- one state, two states

abbrev pub AtMostOne : List Rule → Element → Type 0
AtMostOne R f = (q r : ℕ) → To R f q → To R f r → q ≡ r

abbrev pub ReachesTwo : List Rule → Element → Type 0
ReachesTwo R f = (q r : ℕ) × To R f q × To R f r × (q ≢ r)

-- no node of a list reaches two states
abbrev pub Single : List Rule → List Element → Type 0
Single R l = (f : Element) → f ∈ l → AtMostOne R f

-- A sheet gives two outcomes on a form if a node reaches two states.
abbrev pub GivesTwo : Sheet → Element → Type 0
GivesTwo s e = (f : Element) × (f ∈ nodes e) × ReachesTwo s.rules f

-- It takes the form to a state if no node reaches two and node 0 reaches that state, and accepts it if that state is final.
abbrev pub Takes : Sheet → Element → ℕ → Type 0
Takes s e q = Single s.rules (nodes e) × To s.rules e q

abbrev pub Accepts : Sheet → Element → Type 0
Accepts s e = (q : ℕ) × Takes s e q × (q ∈ s.final)

-- ---- the nodes of a form, by number

abbrev pub NoState : List Rule → Element → Type 0
NoState R f = (q : ℕ) → To R f q → ⊥

abbrev pub SomeState : List Rule → Element → Type 0
SomeState R f = (q : ℕ) × To R f q

-- what a state word says of a node: 0, no state; q + 1, the state q
abbrev pub StateWord : List Rule → Element → ℕ → Type 0
StateWord R f zero = NoState R f
StateWord R f (suc q) = To R f q

-- the state words of nodes, one for each
pub data StatesOf (R : List Rule) : List Element → List ℕ → Type 0 where
  no_words : StatesOf R [] []
  a_word : {f : Element} {l : List Element} {s : ℕ} {st : List ℕ} → StateWord R f s → StatesOf R l st → StatesOf R (f ∷ l) (s ∷ st)

-- The highest-numbered node with the property P is node i: every node after it has Q, the property to the contrary.
pub record Highest (P Q : Element → Type 0) (l : List Element) (i : ℕ) : Type 0 where
  pub before : List Element
  pub at : Element
  pub after : List Element
  pub split : l ≡ before ++ (at ∷ after)
  pub index : length before ≡ i
  pub holds : P at
  pub above : (f : Element) → f ∈ after → Q f
