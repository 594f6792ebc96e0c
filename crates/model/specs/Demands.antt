-- The words of the claims: what calls promise, as one record for each; how a verdict is read; what three files present.
use Rattle.std.specs.Prelude.{◌≡◌, ◌⊎◌, List, ◌++◌, ℕ, ◌*◌, ◌/◌, ◌≤◌, length, get_or, drop}
use Rattle.model.specs.Answers.{Answer, Judgement, Said, accepted, refused, refusal, said, said_judgement, looks_in, Checked, passes, answer_of}
use Rattle.model.specs.Answers.{buffer_after}
use Rattle.model.specs.Tree.{Element, ε, ◌·◌, size, tree_of}
use Rattle.model.specs.Sheet.{Sheet, sheet_of, file_words}
use Rattle.model.specs.Names.{names_of}
use Rattle.model.specs.Text.{form_of}
use Rattle.model.specs.Relation.{GivesTwo, Takes, Accepts}
use Rattle.model.specs.Calls.{read_said, read_tree, judge_said, judge_states}
use Rattle.model.specs.Line.{formcheck_line}

-- ---- promises

-- What a call promises that writes words and counts them: its answer r, and what it leaves of a lent buffer. c is the model's call.
pub record Promised (c : Checked (List ℕ)) (out : List ℕ) (r : Answer) (left : List ℕ) : Type 0 where
  pub answer : said r ≡ answer_of length c
  pub buffer : left ≡ buffer_after out c

-- What `reader::read` promises of its answer r and of what it leaves of the lent tree.
pub record ReadPromised (list text tree : List ℕ) (r : Answer) (left : List ℕ) : Type 0 where
  pub answer : said r ≡ read_said list text tree
  pub buffer : left ≡ read_tree list text tree

-- What `judge::judge` promises of its answer r and of the states that it leaves.
pub record JudgePromised (sheet tree states : List ℕ) (r : Judgement) (left : List ℕ) : Type 0 where
  pub answer : said_judgement r ≡ judge_said sheet tree states
  pub buffer : left ≡ judge_states sheet tree states
  pub bound : looks_in (said_judgement r) ≤ 2 * (length tree / 4) * get_or sheet 5 0

-- What `verdict::line` promises of its answer r and of what it leaves of the lent array.
pub record LinePromised (list file s out : List ℕ) (r : ℕ) (left : List ℕ) : Type 0 where
  pub count : r ≡ length (formcheck_line list file s)
  pub buffer : left ≡ formcheck_line list file s ++ drop r out

-- ---- verdicts

-- the verdict names a state
abbrev pub Names : Said → ℕ → Type 0
Names x q = (m : ℕ) × ((x ≡ accepted q m) ⊎ (x ≡ refused q m))

-- ---- how "takes" and "accepts" are read

-- by the rules, or off the verdict that a run by the sheet returns
pub data Reading : Type 0 where
  by_rules by_run : Reading

-- a sheet's words, which pass, beside a tree over its tags, and the verdict that a run returns, with room for the states
pub record Sheet_on (tree : List ℕ) (e : Element) : Type 0 where
  pub words : List ℕ
  pub sheet : Sheet
  pub states : List ℕ
  pub verdict : Said
  pub passed : sheet_of words ≡ passes sheet
  pub over : tree_of sheet.tags tree ≡ passes e
  pub room : size e ≤ length states
  pub returned : verdict ≡ judge_said words tree states

module _ {tree : List ℕ} {e : Element} where
  abbrev pub TakesTo : Reading → Sheet_on tree e → ℕ → Type 0
  TakesTo by_rules S q = Takes S.sheet e q
  TakesTo by_run S q = Names S.verdict q

  abbrev pub AcceptsIt : Reading → Sheet_on tree e → Type 0
  AcceptsIt by_rules S = Accepts S.sheet e
  AcceptsIt by_run S = (q m : ℕ) × (S.verdict ≡ accepted q m)

  abbrev pub NoTwo : Reading → Sheet_on tree e → Type 0
  NoTwo by_rules S = GivesTwo S.sheet e → ⊥
  NoTwo by_run S = (i : ℕ) → S.verdict ≡ refusal 23 i → ⊥

-- ---- formcheck

-- The three inputs present a sheet and a form: no check before the run refuses them.
pub record Presents (list file s : List ℕ) (t : Sheet) (e : Element) : Type 0 where
  pub names : names_of list ≡ passes t.tags
  pub sheet : sheet_of (file_words file) ≡ passes t
  pub form : form_of list s ≡ passes (e · ε)
