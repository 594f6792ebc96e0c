-- What the public calls say, in document 01's numbers; a check that passes or refuses; one check after another.
use Rattle.std.specs.Prelude.{Bool, true, false, List, ◌++◌, ℕ, leb, length, drop, Result, Ok, Err}
use Rattle.model.specs.declared.Refusal.{Refusal}
use Rattle.model.specs.declared.Refusal.TheVariants.{LongText, ForbiddenByte, Syntax, UnknownName, OtherName, Depth, ManyNodes}
use Rattle.model.specs.declared.Refusal.TheVariants.{NameList, Sheet, Tree, TextWords, TagCounts, JointLimit, ShortBuffer, TwoStates}
use Rattle.model.specs.declared.Refusal.TheVariants.{LongForm}
use Rattle.model.specs.declared.Verdict.{Verdict}
use Rattle.model.specs.declared.Verdict.TheVariants as verdict

-- A refusal is a number and a place. A call that is not refused gives a count, of names, nodes, bytes or words;
-- a run gives a verdict, accepted or refused with the root's state and the looks, or stuck with a node and the looks.
pub data Said : Type 0 where
  count : ℕ → Said
  accepted refused : (state looks : ℕ) → Said
  stuck : (node looks : ℕ) → Said
  refusal : (number place : ℕ) → Said

-- the number and the place of each refusal
unfoldable pub said_refusal : Refusal → Said
said_refusal LongText = refusal 1 65535
said_refusal (ForbiddenByte i) = refusal 2 i
said_refusal (Syntax i) = refusal 3 i
said_refusal (UnknownName i) = refusal 4 i
said_refusal (OtherName i) = refusal 5 i
said_refusal (Depth i) = refusal 6 i
said_refusal (ManyNodes i) = refusal 7 i
said_refusal (NameList i) = refusal 8 i
said_refusal (Sheet i) = refusal 9 i
said_refusal (Tree i) = refusal 10 i
said_refusal (TextWords i) = refusal 11 i
said_refusal (TagCounts g) = refusal 20 g
said_refusal (JointLimit k) = refusal 21 k
said_refusal (ShortBuffer n) = refusal 22 n
said_refusal (TwoStates i) = refusal 23 i
said_refusal (LongForm n) = refusal 24 n

-- A call gives a count, or a refusal; a run gives a verdict, or a refusal.
abbrev pub Answer : Type 0
Answer = Result ℕ Refusal

abbrev pub Judgement : Type 0
Judgement = Result Verdict Refusal

-- what a verdict says
unfoldable pub said_verdict : Verdict → Said
said_verdict (verdict.Accepted q m) = accepted q m
said_verdict (verdict.Refused q m) = refused q m
said_verdict (verdict.Stuck i m) = stuck i m

-- what an answer, and a judgement, says
unfoldable pub said : Answer → Said
said (Ok n) = count n
said (Err r) = said_refusal r

unfoldable pub said_judgement : Judgement → Said
said_judgement (Ok v) = said_verdict v
said_judgement (Err r) = said_refusal r

-- the looks of a verdict
abbrev pub looks_in : Said → ℕ
looks_in (count n) = 0
looks_in (accepted q m) = m
looks_in (refused q m) = m
looks_in (stuck i m) = m
looks_in (refusal n i) = 0

-- ---- checks

-- A check passes with a value, or refuses with a number and a place.
pub data Checked (A : Type 0) : Type 0 where
  passes : A → Checked A
  refuses : (number place : ℕ) → Checked A

-- one check after another: the first refusal decides
infixl 20 ◌>>=◌ ◌>>◌
unfoldable pub ◌>>=◌ : {A B : Type 0} → Checked A → (A → Checked B) → Checked B
passes a >>= f = f a
refuses n i >>= f = refuses n i

unfoldable pub ◌>>◌ : {A B : Type 0} → Checked A → Checked B → Checked B
passes a >> b = b
refuses n i >> b = refuses n i

-- a test, refused where it fails
unfoldable pub require : Bool → ℕ → ℕ → Checked (Unit {0})
require true n i = passes tt
require false n i = refuses n i

-- 22: a lent buffer of some length is too short; the length needed
unfoldable pub room_for : ℕ → ℕ → Checked (Unit {0})
room_for needed room = require (leb needed room) 22 needed

-- what a call says that counts what it passed
unfoldable pub answer_of : {A : Type 0} → (A → ℕ) → Checked A → Said
answer_of size (passes a) = count (size a)
answer_of size (refuses n i) = refusal n i

-- The buffer after a call that writes: the words, and what stood past them. A refusal writes nothing.
unfoldable pub buffer_after : List ℕ → Checked (List ℕ) → List ℕ
buffer_after buffer (passes words) = words ++ drop (length words) buffer
buffer_after buffer (refuses n i) = buffer
