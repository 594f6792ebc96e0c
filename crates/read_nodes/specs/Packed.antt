-- The nodes of a tree while it is read: a word for each node, of four fields of 16 bits.
use Rattle.std.specs.Prelude.{◌≡◌, List, [], ◌∷◌, ◌++◌, ℕ, suc, ◌+◌, ◌-◌, ◌*◌, ◌/◌, ◌%◌, ◌≤◌, get_or, take, drop, set}
use Rattle.model.specs.Tree.{Document, sizeD, wordsD}
use Rattle.model.specs.Text.{Open}
use Rattle.read_scan.specs.declared.Scan.{Scan}

-- the four words of a node as one, and one word's four
unfoldable pub packed : (symbol size start bytes : ℕ) → ℕ
packed symbol size start bytes = symbol + 65536 * (size + 65536 * (start + 65536 * bytes))

unfoldable pub unpacked : ℕ → List ℕ
unpacked w = w % 65536 ∷ w / 65536 % 65536 ∷ w / 65536 / 65536 % 65536 ∷ w / 65536 / 65536 / 65536 ∷ []

unfoldable pub all_unpacked : List ℕ → List ℕ
all_unpacked [] = []
all_unpacked (w ∷ ws) = unpacked w ++ all_unpacked ws

-- document d stands in the words from node i up to node `end`
pub record Stands (words : List ℕ) (i end : ℕ) (d : Document) : Type 0 where
  pub count : i + sizeD d ≡ end
  pub encoded : all_unpacked (take (sizeD d) (drop i words)) ≡ wordsD d

-- The word of an open element, node i, holds its tag, one of g, and in place of its size the node of its parent.
pub record OpenAt (words : List ℕ) (g i parent : ℕ) (o : Open) : Type 0 where
  pub word : get_or words i 0 ≡ o.name + 65536 * parent
  pub tag_some : 1 ≤ o.name
  pub tag_few : o.name ≤ g
  pub above : parent ≤ i

-- The content that is read ends before node `nodes`. It begins behind the innermost open element, node `top`, or with the
-- root; and what its parent held before each open element stands before that element's node. The innermost comes first.
pub data Holds (words : List ℕ) (g : ℕ) : List Open → (top nodes : ℕ) → Document → Type 0 where
  outermost : {top nodes : ℕ} {content : Document} → Stands words 0 nodes content → Holds words g [] top nodes content
  inside : {o : Open} {os : List Open} {top parent nodes : ℕ} {content : Document} → OpenAt words g top parent o
      → Stands words (suc top) nodes content → Holds words g os parent top o.earlier → Holds words g (o ∷ os) top nodes content

-- Where the innermost open element ends, its size takes the place of its parent's node: the words then, and the scan, at an offset.
abbrev pub closed_words : List ℕ → Scan → List ℕ
closed_words words s = set words s.top (get_or words s.top 0 % 65536 + 65536 * (s.nodes - s.top))

abbrev pub closed_scan : List ℕ → Scan → (at : ℕ) → Scan
closed_scan words s at = record { at = at; top = get_or words s.top 0 / 65536; depth = s.depth - 1; nodes = s.nodes }
