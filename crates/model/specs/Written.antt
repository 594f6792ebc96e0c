-- Writing a form: document 01, "The writer gives", refusals 11 and 24.
use Rattle.std.specs.Prelude.{Bool, false, cond, not, ◌&&◌, List, [], ◌∷◌, ◌++◌, ℕ, suc, ◌+◌, eqb, leb, length, take, drop, get_or}
use Rattle.model.specs.Lists.{every}
use Rattle.model.specs.Answers.{Checked, passes, refuses}
use Rattle.model.specs.Tree.{Span, Element, text, tag, Document, ε, ◌·◌}
use Rattle.model.specs.Bytes.{white, less, greater, forbidden, is, class_of, less_byte, greater_byte, slash_byte, kind_of_text}
use Rattle.model.specs.Names.{name_of}

-- the bytes that a span of the source has
unfoldable pub source_bytes : List ℕ → Span → List ℕ
source_bytes source w = take w.bytes (drop w.start source)

-- the bytes that each node's text words say, of the words of nodes: those of a text; none of a tag, whose text words are 0
unfoldable pub node_texts : (source words : List ℕ) → List (List ℕ)
node_texts source [] = []
node_texts source (a ∷ []) = []
node_texts source (a ∷ b ∷ []) = []
node_texts source (a ∷ b ∷ c ∷ []) = []
node_texts source (a ∷ b ∷ c ∷ d ∷ t) = source_bytes source (record { start = c; bytes = d }) ∷ node_texts source t

-- ---- the written form

-- <name/> for an empty element; <name> and </name> around any other content
unfoldable pub tagged : List ℕ → Document → List ℕ → List ℕ
tagged name ε content = less_byte ∷ (name ++ (slash_byte ∷ greater_byte ∷ []))
tagged name (e · d) content =
    less_byte ∷ (name ++ (greater_byte ∷ (content ++ (less_byte ∷ slash_byte ∷ (name ++ (greater_byte ∷ []))))))

-- no white between tags, texts by their bytes
unfoldable mutual
  pub written : (list source : List ℕ) → Element → List ℕ
  written list source (text k w) = source_bytes source w
  written list source (tag a w d) = tagged (name_of list a) d (writtenD list source d)

  pub writtenD : (list source : List ℕ) → Document → List ℕ
  writtenD list source ε = []
  writtenD list source (e · d) = written list source e ++ writtenD list source d

-- ---- 11: text words not 0 at a tag, or not a trimmed text of that kind

-- a byte that a text may hold
unfoldable pub text_byte : ℕ → Bool
text_byte b = not (is (class_of b) less) && (not (is (class_of b) greater) && not (is (class_of b) forbidden))

-- trimmed at both ends: the first and the last byte are there and not white
unfoldable pub solid_byte : ℕ → Bool
solid_byte b = not (is (class_of b) white)

unfoldable pub trimmed_text : List ℕ → Bool
trimmed_text [] = false
trimmed_text (b ∷ s) = solid_byte b && (solid_byte (get_or (b ∷ s) (length s) 0) && every text_byte (b ∷ s))

unfoldable pub good_text : List ℕ → ℕ → Span → Bool
good_text source k w =
    leb (w.start + w.bytes) (length source) && (trimmed_text (source_bytes source w) && eqb (kind_of_text (source_bytes source w)) k)

-- the text words of a node
unfoldable pub good_words : List ℕ → Element → Bool
good_words source (text k w) = good_text source k w
good_words source (tag a w d) = eqb w.start 0 && eqb w.bytes 0

-- the first node, of those from node i on, whose text words are wrong
unfoldable pub texts_checked : List ℕ → ℕ → List Element → Checked (Unit {0})
texts_checked source i [] = passes tt
texts_checked source i (e ∷ es) = cond (good_words source e) (texts_checked source (suc i) es) (refuses 11 i)

-- ---- 24: the written form is over 65,535 bytes; its length
unfoldable pub short_enough : List ℕ → Checked (List ℕ)
short_enough bytes = cond (leb (length bytes) 65535) (passes bytes) (refuses 24 (length bytes))
