use mathlib.Core.Path.{refl}
use Rattle.rules.specs.Take.{take}
use Rattle.upper.proofs.Arms.{child_of_lem, get_none, get_cpu, get_tree, get_child, get_word, get_last}
use Rattle.upper.proofs.get_step.Goals as goal

pub returns-in-Own : goal.returns-in-Own
unfolding take
returns-in-Own c = get_cpu _ _ c.requires c.in-Own.is refl c.own.ensures

pub returns-in-TakeCount : goal.returns-in-TakeCount
unfolding take
returns-in-TakeCount c = get_tree _ _ c.requires c.in-TakeCount.is refl c.take_count.ensures

pub returns-in-FillEntry : goal.returns-in-FillEntry
unfolding take
returns-in-FillEntry c = get_cpu _ _ c.requires c.in-FillEntry.is refl c.fill_entry.ensures

pub returns-in-ReturnHand : goal.returns-in-ReturnHand
unfolding take
returns-in-ReturnHand c = get_tree _ _ c.requires c.in-ReturnHand.is refl c.return_hand.ensures

pub returns-in-LookAgain : goal.returns-in-LookAgain
unfolding take
returns-in-LookAgain c = get_cpu _ _ c.requires c.in-LookAgain.is refl c.look_again.ensures

pub returns-in-Release : goal.returns-in-Release
unfolding take
returns-in-Release c = get_cpu _ _ c.requires c.in-Release.is refl c.release.ensures

pub returns-in-Unreserve : goal.returns-in-Unreserve
unfolding take
returns-in-Unreserve c = get_tree _ _ c.requires c.in-Unreserve.is refl c.unreserve.ensures

pub returns-in-Try : goal.returns-in-Try
unfolding take
returns-in-Try c = get_tree _ _ c.requires c.in-Try.is refl c.try_tree.ensures

pub returns-in-Write : goal.returns-in-Write
unfolding take
returns-in-Write c = get_cpu _ _ c.requires c.in-Write.is refl c.write.ensures

pub returns-in-Steal : goal.returns-in-Steal
unfolding take
returns-in-Steal c = get_cpu _ _ c.requires c.in-Steal.is refl c.steal.ensures

pub returns-in-StealCount : goal.returns-in-StealCount
unfolding take
returns-in-StealCount c = get_tree _ _ c.requires c.in-StealCount.is refl c.steal_count.ensures

pub returns-in-Run : goal.returns-in-Run
unfolding take
returns-in-Run c = get_child _ _ c.requires (child_of_lem c.in-Child.is c.in-Run.is) refl c.child_run.ensures

pub returns-in-Nine : goal.returns-in-Nine
unfolding take
returns-in-Nine c = get_child _ _ c.requires (child_of_lem c.in-Child.is c.in-Nine.is) refl c.child_nine.ensures

pub returns-in-Word : goal.returns-in-Word
returns-in-Word c = get_word _ _ c.requires c.in-Word.is c.word.ensures

pub returns-in-GiveBack : goal.returns-in-GiveBack
unfolding take
returns-in-GiveBack c = get_child _ _ c.requires c.in-GiveBack.is refl c.give_back.ensures

pub returns-in-Last : goal.returns-in-Last
returns-in-Last c = get_last _ _ c.requires c.in-Last.is c.last.ensures

pub returns-in-Fail : goal.returns-in-Fail
unfolding take
returns-in-Fail c = get_tree _ _ c.requires c.in-Fail.is refl c.fail.ensures

pub returns-in-NoRoom : goal.returns-in-NoRoom
unfolding take
returns-in-NoRoom c = get_none _ _ c.requires c.in-NoRoom.is refl
