-- The tree: document 01, "The tree", and refusal 10.
use Rattle.std.specs.Prelude.{◌≡◌, Bool, true, false, cond, not, ◌&&◌, ◌||◌, List, [], ◌∷◌, ◌++◌, ℕ, zero, suc, ◌+◌, ◌-◌, ◌*◌, ◌/◌, ◌%◌, ◌≤◌, ◌<◌, eqb, leb, ltb, length, get_or}
use Rattle.model.specs.Answers.{Checked, passes, refuses, require, ◌>>=◌, ◌>>◌}

-- ---- documents

-- a node's text words: where its text starts, and its length
pub record Span : Type 0 where
  pub start : ℕ
  pub bytes : ℕ

-- An element is a text, of kind 1 (integer) or 2 (other), or a tag with its content; a document is a sequence of elements.
-- In source document 001 these are c, a[d] and e₁ · … · eₙ. Each node carries its text words.
infixr 60 ◌·◌
mutual
  pub data Element : Type 0 where
    text : (kind : ℕ) → Span → Element
    tag : (name : ℕ) → Span → Document → Element

  pub data Document : Type 0 where
    ε : Document
    ◌·◌ : Element → Document → Document

-- Size counts the node and all below it.
unfoldable mutual
  pub size : Element → ℕ
  size (text k w) = 1
  size (tag a w d) = suc (sizeD d)

  pub sizeD : Document → ℕ
  sizeD ε = zero
  sizeD (e · d) = size e + sizeD d

-- the nodes in document order, numbered from 0
unfoldable mutual
  pub nodes : Element → List Element
  nodes (text k w) = text k w ∷ []
  nodes (tag a w d) = tag a w d ∷ nodesD d

  pub nodesD : Document → List Element
  nodesD ε = []
  nodesD (e · d) = nodes e ++ nodesD d

-- A node is four words: symbol; size; text start; text length. Nodes stand in document order.
-- Symbol 1 to g is a tag, 65 an integer text, 66 any other text.
abbrev pub node : ℕ → ℕ → Span → List ℕ
node symbol size w = symbol ∷ size ∷ w.start ∷ w.bytes ∷ []

unfoldable mutual
  pub words : Element → List ℕ
  words (text k w) = node (64 + k) 1 w
  words (tag a w d) = node a (suc (sizeD d)) w ++ wordsD d

  pub wordsD : Document → List ℕ
  wordsD ε = []
  wordsD (e · d) = words e ++ wordsD d

-- words but for text starts: the third word of each node as 0
unfoldable pub without_starts : List ℕ → List ℕ
without_starts [] = []
without_starts (a ∷ []) = a ∷ []
without_starts (a ∷ b ∷ []) = a ∷ b ∷ []
without_starts (a ∷ b ∷ c ∷ []) = a ∷ b ∷ c ∷ []
without_starts (a ∷ b ∷ c ∷ d ∷ t) = a ∷ b ∷ 0 ∷ d ∷ without_starts t

-- ---- the rules of a tree over g tags

unfoldable pub is_text : Element → Bool
is_text (text k w) = true
is_text (tag a w d) = false

-- Tags are 1 to g, kinds of text 1 and 2. Elements lie at most so deep: `levels` of them, this one included.
-- Two texts never stand side by side under one parent: `after_text` says that a text stands just before.
abbrev mutual
  pub Keeps : (g levels : ℕ) → Element → Type 0
  Keeps g levels (text k w) = (1 ≤ k) × (k ≤ 2)
  Keeps g levels (tag a w d) = (1 ≤ a) × (a ≤ g) × (0 < levels) × KeepsD g (levels - 1) false d

  pub KeepsD : (g levels : ℕ) (after_text : Bool) → Document → Type 0
  KeepsD g levels after_text ε = Unit {0}
  KeepsD g levels after_text (e · d) = ((after_text && is_text e) ≡ false) × Keeps g levels e × KeepsD g levels (is_text e) d

-- A form is over g tags if its tree keeps the rules: node 0 is a tag, elements lie at most 32 deep, the root at depth 1,
-- and there are at most 4,096 nodes.
pub record Over (g : ℕ) (e : Element) : Type 0 where
  pub root : is_text e ≡ false
  pub keeps : Keeps g 32 e
  pub few : size e ≤ 4096

-- ---- the words of a tree: refusal 10

-- the four words of node i
abbrev pub symbol_at : List ℕ → ℕ → ℕ
symbol_at t i = get_or t (4 * i) 0

abbrev pub size_at : List ℕ → ℕ → ℕ
size_at t i = get_or t (4 * i + 1) 0

abbrev pub span_at : List ℕ → ℕ → Span
span_at t i = record { start = get_or t (4 * i + 2) 0; bytes = get_or t (4 * i + 3) 0 }

unfoldable pub text_symbol : ℕ → Bool
text_symbol s = eqb s 65 || eqb s 66

unfoldable pub tag_symbol : ℕ → ℕ → Bool
tag_symbol g s = leb 1 s && leb s g

-- What a symbol says by itself: a tag, by its number; a text, by its kind; or nothing.
pub data Symbol : Type 0 where
  of_tag : (number : ℕ) → Symbol
  of_text : (kind : ℕ) → Symbol
  of_nothing : Symbol

-- 65 and 66 are the two kinds of text, and 0 is no symbol. Any other word is a tag's number, however many tags there are.
unfoldable pub symbol_of : ℕ → Symbol
symbol_of s = cond (eqb s 65) (of_text 1) (cond (eqb s 66) (of_text 2) (cond (eqb s 0) of_nothing (of_tag s)))

-- What stands at node i, under a parent that ends before node `end`: nothing more, a text, an element that ends before
-- node `next`, or a node that breaks a rule.
pub data Seen : Type 0 where
  at_end : Seen
  a_text : Seen
  an_element : (next : ℕ) → Seen
  breaks : Seen

-- A text has size 1, and none stands just before it. An element has a size, ends within its parent, and lies not too deep.
unfoldable pub look : List ℕ → (g levels i end : ℕ) (after_text : Bool) → Seen
look t g levels i end after_text =
    cond (leb end i) at_end
    (cond (text_symbol (symbol_at t i))
    (cond (eqb (size_at t i) 1 && not after_text) a_text breaks)
    (cond (tag_symbol g (symbol_at t i) && (ltb 0 levels && (leb 1 (size_at t i) && leb (i + size_at t i) end)))
    (an_element (i + size_at t i)) breaks))

-- the children from node i on, by what stands there, with `rest` for what comes after and below it
unfoldable pub children_by : List ℕ → ((levels i end : ℕ) (after_text : Bool) → Checked Document) → (levels i end : ℕ) → Seen
    → Checked Document
children_by t rest levels i end at_end = passes ε
children_by t rest levels i end a_text = do
  d ← rest levels (i + 1) end true
  passes (text (symbol_at t i - 64) (span_at t i) · d)
children_by t rest levels i end (an_element next) = do
  inside ← rest (levels - 1) (i + 1) next false
  d ← rest levels next end false
  passes (tag (symbol_at t i) (span_at t i) inside · d)
children_by t rest levels i end breaks = refuses 10 i

-- the nodes from i up to `end`, side by side under one parent, in at most `steps` steps; the first failing node is refused
unfoldable pub children : List ℕ → (g steps levels i end : ℕ) (after_text : Bool) → Checked Document
children t g zero levels i end after_text = passes ε
children t g (suc steps) levels i end after_text = children_by t (children t g steps) levels i end (look t g levels i end after_text)

-- 10: the count of whole nodes where length or n is wrong, else the first failing node. Node 0 is a tag of size n.
unfoldable pub tree_of : (g : ℕ) → List ℕ → Checked Element
tree_of g t = do
  require (eqb (length t % 4) 0 && (leb 1 (length t / 4) && leb (length t / 4) 4096)) 10 (length t / 4)
  require (tag_symbol g (symbol_at t 0) && eqb (size_at t 0) (length t / 4)) 10 0
  d ← children t g (length t) 31 1 (length t / 4) false
  passes (tag (symbol_at t 0) (span_at t 0) d)
