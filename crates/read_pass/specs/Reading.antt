-- How far a text is read, against the one pass of the model.
use Rattle.std.specs.Prelude.{◌≡◌, ◌≢◌, ◌⊎◌, List, ℕ, ◌+◌, ◌≤◌, ◌<◌, length, take, drop, Result, Ok, Err}
use Rattle.model.specs.Answers.{Answer, said_refusal, refusal, Checked, passes, refuses}
use Rattle.model.specs.Tree.{Document, sizeD, wordsD}
use Rattle.model.specs.Text.{Place, before, blank, Open, outside, form_of}
use Rattle.model.specs.declared.Refusal.{Refusal}
use Rattle.model.specs.Text.{scan}
use Rattle.model.specs.Text.{state}
use Rattle.offsets.specs.Lines.{line_count}
use Rattle.read_nodes.specs.Packed.{all_unpacked, Holds}
use Rattle.read_runs.specs.Runs.{first_class}
use Rattle.read_scan.specs.declared.Scan.{Scan}

-- No byte before `s.at` is refused; the text goes on from there at a place, which may depend on the open elements.
-- The words hold the nodes that are read.
pub record Reads (list text words : List ℕ) (place : List Open → Place) (s : Scan) : Type 0 where
  pub content : Document
  pub opened : List Open
  pub goes : form_of list text ≡ scan list (state (place opened) content opened s.nodes) s.at (drop s.at text)
  pub holds : Holds words (line_count list) opened s.top s.nodes content
  pub deep : length opened ≡ s.depth
  pub above : s.top ≤ s.nodes
  pub few : s.nodes ≤ 4096
  pub within : s.at ≤ length text
  pub short : length text ≤ 65535
  pub room : length words ≡ 4096

abbrev pub ReadsAt : (list text words : List ℕ) → Place → Scan → Type 0
ReadsAt list text words place s = Reads list text words (λ os. place) s

-- at the < of a start tag
pub record AtStartTag (list text words : List ℕ) (s : Scan) : Type 0 where
  pub place : Place
  pub leads : (place ≡ before) ⊎ (place ≡ blank)
  pub reads : ReadsAt list text words place s
  pub opening : first_class (drop s.at text) ≡ 4
  pub letter_next : first_class (drop (s.at + 1) text) ≡ 1

-- where a token is to be read: the root's start tag, or content
abbrev pub InContent : (list text words : List ℕ) → Scan → Type 0
InContent list text words s = (1 ≤ s.depth) × Reads list text words outside s

abbrev pub AtToken : (list text words : List ℕ) → Scan → Type 0
AtToken list text words s = AtStartTag list text words s ⊎ InContent list text words s

-- the class of a byte that begins a text in content: none of white, <, > and forbidden
pub record Solid (class : ℕ) : Type 0 where
  pub no_white : class ≢ 0
  pub no_less : class ≢ 4
  pub no_greater : class ≢ 5
  pub allowed : class < 8

-- a refusal that says what the text is refused with
pub record Refuses (form : Checked Document) (r : Refusal) : Type 0 where
  pub number : ℕ
  pub place : ℕ
  pub is : form ≡ refuses number place
  pub says : said_refusal r ≡ refusal number place

-- how far the text is read after a token, or the refusal
abbrev pub Step : Type 0
Step = Result Scan Refusal

-- after a token the text is read so, or it is refused
abbrev pub After : (form : Checked Document) → (Scan → Type 0) → Step → Type 0
After form So (Ok s) = So s
After form So (Err r) = Refuses form r

-- After a token that begins at offset i or behind it: in content, or after the root, and further on; or refused.
abbrev pub Goes : (list text words : List ℕ) (i : ℕ) → Step → Type 0
Goes list text words i step = After (form_of list text) (λ s. (i < s.at) × Reads list text words outside s) step

-- the whole text is read: the words hold its n nodes
pub record Whole (list text words : List ℕ) (n : ℕ) : Type 0 where
  pub form : Document
  pub is : form_of list text ≡ passes form
  pub count : sizeD form ≡ n
  pub few : n ≤ 4096
  pub encoded : all_unpacked (take n words) ≡ wordsD form
  pub room : length words ≡ 4096

abbrev pub Scanned : (list text words : List ℕ) → Answer → Type 0
Scanned list text words (Ok n) = Whole list text words n
Scanned list text words (Err r) = Refuses (form_of list text) r
