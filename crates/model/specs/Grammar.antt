-- Name lists and forms by grammars that stand by themselves: document 01, "Text and names". What the checks take is exactly this.
use Rattle.std.specs.Prelude.{◌≡◌, true, List, [], ◌∷◌, ◌++◌, ℕ, ◌+◌, ◌-◌, ◌≤◌, length, get_or}
use Rattle.model.specs.Tree.{Element, Document, ε, ◌·◌, Over}
use Rattle.model.specs.Bytes.{white, class_of, less_byte, greater_byte, slash_byte, line_feed, is_name}
use Rattle.model.specs.Text.{text_node, tag_node}
use Rattle.model.specs.Written.{trimmed_text}

-- ---- name lists
-- "A name list is 1 to 64 distinct names of 1 to 24 bytes, each followed by byte 10; its order numbers the tags."

-- names, each followed by byte 10
unfoldable pub list_bytes : List (List ℕ) → List ℕ
list_bytes [] = []
list_bytes (name ∷ names) = name ++ (line_feed ∷ list_bytes names)

-- the order numbers the tags: tag a is the a-th name
pub record TagOf (names : List (List ℕ)) (a : ℕ) (name : List ℕ) : Type 0 where
  pub some : 1 ≤ a
  pub listed : a ≤ length names
  pub name_is : get_or names (a - 1) [] ≡ name

-- 1 to 64 distinct names of 1 to 24 bytes
pub record NameList (names : List (List ℕ)) : Type 0 where
  pub some : 1 ≤ length names
  pub few : length names ≤ 64
  pub named : {a : ℕ} {name : List ℕ} → TagOf names a name → is_name name ≡ true
  pub short : {a : ℕ} {name : List ℕ} → TagOf names a name → (1 ≤ length name) × (length name ≤ 24)
  pub distinct : {a b : ℕ} {name : List ℕ} → TagOf names a name → TagOf names b name → a ≡ b

-- ---- forms
-- "A form is one element with white around it. After a tag's name white may stand. Bytes between tags, with at least one that isn't
-- white, are a text, trimmed at both ends; < and > end or break it. White alone is nothing: a blank field."

-- White bytes.
pub data White : List ℕ → Type 0 where
  -- none
  no_white : White []
  -- one, and others
  more_white : {b : ℕ} {w : List ℕ} → class_of b ≡ white → White w → White (b ∷ w)

-- a start tag, an end tag, and the tag of an empty element; w stands after the name
abbrev pub start_bytes : (name w : List ℕ) → List ℕ
start_bytes name w = less_byte ∷ (name ++ (w ++ (greater_byte ∷ [])))

abbrev pub end_bytes : (name w : List ℕ) → List ℕ
end_bytes name w = less_byte ∷ slash_byte ∷ (name ++ (w ++ (greater_byte ∷ [])))

abbrev pub empty_bytes : (name w : List ℕ) → List ℕ
empty_bytes name w = less_byte ∷ (name ++ (w ++ (slash_byte ∷ greater_byte ∷ [])))

-- Bytes, the first of which is at offset i of the text, that are a part of a form, and the tree of that part.
module _ (names : List (List ℕ)) where
  mutual
    -- An element.
    pub data ElementAt : (i : ℕ) → List ℕ → Element → Type 0 where
      -- a listed name, and no content
      empty : {i a : ℕ} {name w : List ℕ} → TagOf names a name → White w → ElementAt i (empty_bytes name w) (tag_node a ε)
      -- a listed name, and content between its start tag and its end tag
      full : {i a : ℕ} {name w w' s : List ℕ} {d : Document}
          → TagOf names a name → White w → ContentAt (i + length (start_bytes name w)) s d → White w'
          → ElementAt i (start_bytes name w ++ (s ++ end_bytes name w')) (tag_node a d)

    -- The content of an element, from the end of a tag on.
    pub data ContentAt : (i : ℕ) → List ℕ → Document → Type 0 where
      -- white alone, up to the next tag, is nothing: a blank field
      blank : {i : ℕ} {w s : List ℕ} {d : Document} → White w → TagsAt (i + length w) s d → ContentAt i (w ++ s) d
      -- bytes, up to the next tag, with at least one that isn't white are a text t, trimmed at both ends
      text : {i : ℕ} {w w' s : List ℕ} {d : Document} (t : List ℕ)
          → White w → trimmed_text t ≡ true → White w' → TagsAt (i + length w + length t + length w') s d
          → ContentAt i (w ++ (t ++ (w' ++ s))) (text_node (i + length w) t · d)

    -- The content of an element, from the start of a tag on.
    pub data TagsAt : (i : ℕ) → List ℕ → Document → Type 0 where
      -- the tag is the element's end tag
      no_more : {i : ℕ} → TagsAt i [] ε
      -- the tag begins an element; content follows it
      more : {i : ℕ} {s t : List ℕ} {e : Element} {d : Document}
          → ElementAt i s e → ContentAt (i + length s) t d → TagsAt i (s ++ t) (e · d)

  -- A form is one element with white around it.
  pub data Form : List ℕ → Element → Type 0 where
    -- white, the root, white
    form : {w w' s : List ℕ} {e : Element} → White w → ElementAt (length w) s e → White w' → Form (w ++ (s ++ w')) e

  -- A form within the limits: its tree keeps the rules of a tree over the list's tags, which has elements at most 32 deep and at most
  -- 4,096 nodes, and it has at most 65,535 bytes.
  pub record GoodForm (s : List ℕ) (e : Element) : Type 0 where
    pub is_form : Form s e
    pub keeps : Over (length names) e
    pub short : length s ≤ 65535
