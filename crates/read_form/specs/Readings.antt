-- A form that is read, against the one pass of the model over its text.
use Rattle.std.specs.Prelude.{◌≡◌, ℕ, ◌≤◌, Result, Ok, Err}
use Rattle.model.specs.Answers.{Answer}
use Rattle.model.specs.Text.{Place, outside, form_of}
use Rattle.model.specs.declared.Refusal.{Refusal}
use Rattle.read_form.specs.declared.Reader.{Reader}
use Rattle.read_nodes.specs.Packed.{closed_words, closed_scan}
use Rattle.read_pass.specs.Reading.{Reads, ReadsAt, Step, After, Goes, Scanned}
use Rattle.read_pass.specs.Reading as pass

-- ---- how far it is read

-- up to a place; and up to a place in an element
abbrev pub ReadTo : Place → Reader → Type 0
ReadTo place r = ReadsAt r.names.list.now r.text.now r.words.now place r.scan

abbrev pub ReadInside : Place → Reader → Type 0
ReadInside place r = (1 ≤ r.scan.depth) × ReadTo place r

-- up to the < of a start tag; up to where a token is to be read; up to behind the root
abbrev pub AtStartTag : Reader → Type 0
AtStartTag r = pass.AtStartTag r.names.list.now r.text.now r.words.now r.scan

abbrev pub AtToken : Reader → Type 0
AtToken r = pass.AtToken r.names.list.now r.text.now r.words.now r.scan

abbrev pub Behind : Reader → Type 0
Behind r = (r.scan.depth ≡ 0) × Reads r.names.list.now r.text.now r.words.now outside r.scan

-- ---- what a step of it does

-- how far it is read behind a token, or the refusal
abbrev pub reached : Reader → Result Unit Refusal → Step
reached r (Ok done) = Ok r.scan
reached r (Err x) = Err x

-- a reading of the same text by the same names, into the same words
pub record Same (r s : Reader) : Type 0 where
  pub names : s.names ≡ r.names
  pub text : s.text ≡ r.text
  pub words : s.words.ghost_name ≡ r.words.ghost_name

-- one goes on as another up to the root's start tag, past a token, and up to the end of the text; or is refused
pub record Begins (r s : Reader) (result : Result Unit Refusal) : Type 0 where
  pub same : Same r s
  pub is : After (form_of r.names.list.now r.text.now) (pass.AtStartTag r.names.list.now r.text.now s.words.now) (reached s result)

pub record Moves (r s : Reader) (result : Result Unit Refusal) : Type 0 where
  pub same : Same r s
  pub is : Goes r.names.list.now r.text.now s.words.now r.scan.at (reached s result)

pub record Ends (r s : Reader) (answer : Answer) : Type 0 where
  pub same : Same r s
  pub is : Scanned r.names.list.now r.text.now s.words.now answer

-- one goes on as another behind the end of the innermost open element, from an offset on
pub record Closes (r : Reader) (at : ℕ) (s : Reader) : Type 0 where
  pub same : Same r s
  pub words : s.words.now ≡ closed_words r.words.now r.scan
  pub scan : s.scan ≡ closed_scan r.words.now r.scan at
