-- `Numbers::from` a refusal meets its contract, case by case.
use Rattle.model.specs.Answers.{said_refusal}
use Rattle.answers.proofs.NumbersFromRefusal.from.Goals as goal

pub returns-in-LongText : goal.returns-in-LongText
unfolding said_refusal
returns-in-LongText c = rw c.in-LongText.is

pub returns-in-ForbiddenByte : goal.returns-in-ForbiddenByte
unfolding said_refusal
returns-in-ForbiddenByte c = rw c.in-ForbiddenByte.is

pub returns-in-Syntax : goal.returns-in-Syntax
unfolding said_refusal
returns-in-Syntax c = rw c.in-Syntax.is

pub returns-in-UnknownName : goal.returns-in-UnknownName
unfolding said_refusal
returns-in-UnknownName c = rw c.in-UnknownName.is

pub returns-in-OtherName : goal.returns-in-OtherName
unfolding said_refusal
returns-in-OtherName c = rw c.in-OtherName.is

pub returns-in-Depth : goal.returns-in-Depth
unfolding said_refusal
returns-in-Depth c = rw c.in-Depth.is

pub returns-in-ManyNodes : goal.returns-in-ManyNodes
unfolding said_refusal
returns-in-ManyNodes c = rw c.in-ManyNodes.is

pub returns-in-NameList : goal.returns-in-NameList
unfolding said_refusal
returns-in-NameList c = rw c.in-NameList.is

pub returns-in-Sheet : goal.returns-in-Sheet
unfolding said_refusal
returns-in-Sheet c = rw c.in-Sheet.is

pub returns-in-Tree : goal.returns-in-Tree
unfolding said_refusal
returns-in-Tree c = rw c.in-Tree.is

pub returns-in-TextWords : goal.returns-in-TextWords
unfolding said_refusal
returns-in-TextWords c = rw c.in-TextWords.is

pub returns-in-TagCounts : goal.returns-in-TagCounts
unfolding said_refusal
returns-in-TagCounts c = rw c.in-TagCounts.is

pub returns-in-JointLimit : goal.returns-in-JointLimit
unfolding said_refusal
returns-in-JointLimit c = rw c.in-JointLimit.is

pub returns-in-ShortBuffer : goal.returns-in-ShortBuffer
unfolding said_refusal
returns-in-ShortBuffer c = rw c.in-ShortBuffer.is

pub returns-in-TwoStates : goal.returns-in-TwoStates
unfolding said_refusal
returns-in-TwoStates c = rw c.in-TwoStates.is

pub returns-in-LongForm : goal.returns-in-LongForm
unfolding said_refusal
returns-in-LongForm c = rw c.in-LongForm.is
