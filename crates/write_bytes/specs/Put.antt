-- Bytes put into a buffer, and the bytes of tags.
use Rattle.std.specs.Prelude.{◌≡◌, List, [], ◌∷◌, ◌++◌, ℕ, ◌+◌, ◌≤◌, length}
use Rattle.std.proofs.lemmas.List.Edits.{sets}
use Rattle.model.specs.Bytes.{less_byte, greater_byte, slash_byte}
use Rattle.write_bytes.specs.declared.Form.{Form}

-- a buffer with bytes stored from index i on
unfoldable pub stored : List ℕ → ℕ → List ℕ → List ℕ
stored buffer i bytes = sets buffer i bytes

-- bytes are put into a buffer from `at` on: the index after them, and the buffer then
pub record Put (before : List ℕ) (at : ℕ) (bytes : List ℕ) (next : ℕ) (after : List ℕ) : Type 0 where
  pub next_is : next ≡ at + length bytes
  pub buffer : after ≡ stored before at bytes

-- bytes have room in a form's buffer
abbrev pub Room : Form → List ℕ → Type 0
Room p bytes = p.at + length bytes ≤ length p.out.now

-- bytes lead from one form to another in the same buffer
pub record Writes (p : Form) (bytes : List ℕ) (q : Form) : Type 0 where
  pub same : q.out.ghost_name ≡ p.out.ghost_name
  pub is : Put p.out.now p.at bytes q.at q.out.now

-- <name/>, <name> and </name>
abbrev pub empty_tag : List ℕ → List ℕ
empty_tag name = less_byte ∷ (name ++ (slash_byte ∷ greater_byte ∷ []))

abbrev pub start_tag : List ℕ → List ℕ
start_tag name = less_byte ∷ (name ++ (greater_byte ∷ []))

abbrev pub end_tag : List ℕ → List ℕ
end_tag name = less_byte ∷ slash_byte ∷ (name ++ (greater_byte ∷ []))
