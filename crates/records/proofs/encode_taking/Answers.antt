use Rattle.records.specs.Encoding.{fields_of, taking_fields}
use Rattle.records.proofs.encode_taking.Goals as goal

pub returns-in-Own : goal.returns-in-Own
unfolding fields_of taking_fields
returns-in-Own c = rw c.in-Own.is c.held.ensures

pub returns-in-TakeCount : goal.returns-in-TakeCount
unfolding fields_of taking_fields
returns-in-TakeCount c = rw c.in-TakeCount.is (rw c.tree_spot.ensures at c.held-in-TakeCount.ensures)

pub returns-in-FillEntry : goal.returns-in-FillEntry
unfolding fields_of taking_fields
returns-in-FillEntry c = rw c.in-FillEntry.is (rw c.tree_spot-in-FillEntry.ensures at c.held-in-FillEntry.ensures)

pub returns-in-ReturnHand : goal.returns-in-ReturnHand
unfolding fields_of taking_fields
returns-in-ReturnHand c = rw c.in-ReturnHand.is (rw c.tree_spot-in-ReturnHand.ensures at c.held-in-ReturnHand.ensures)

pub returns-in-LookAgain : goal.returns-in-LookAgain
unfolding fields_of taking_fields
returns-in-LookAgain c = rw c.in-LookAgain.is (rw c.tree_spot-in-LookAgain.ensures at c.held-in-LookAgain.ensures)

pub returns-in-Release : goal.returns-in-Release
unfolding fields_of taking_fields
returns-in-Release c = rw c.in-Release.is (rw c.from.ensures at c.held-in-Release.ensures)

pub returns-in-Unreserve : goal.returns-in-Unreserve
unfolding fields_of taking_fields
returns-in-Unreserve c = rw c.in-Unreserve.is (rw c.from-in-Unreserve.ensures at c.held-in-Unreserve.ensures)

pub returns-in-Try : goal.returns-in-Try
unfolding fields_of taking_fields
returns-in-Try c = rw c.in-Try.is (rw c.from-in-Try.ensures at c.held-in-Try.ensures)

pub returns-in-Write : goal.returns-in-Write
unfolding fields_of taking_fields
returns-in-Write c = rw c.in-Write.is (rw c.from-in-Write.ensures at c.held-in-Write.ensures)

pub returns-in-Steal : goal.returns-in-Steal
unfolding fields_of taking_fields
returns-in-Steal c = rw c.in-Steal.is (rw c.from_spot.ensures at c.held-in-Steal.ensures)

pub returns-in-StealCount : goal.returns-in-StealCount
unfolding fields_of taking_fields
returns-in-StealCount c = rw c.in-StealCount.is (rw c.from-in-StealCount.ensures at c.held-in-StealCount.ensures)

pub returns-in-Child : goal.returns-in-Child
unfolding fields_of taking_fields
returns-in-Child c = rw c.in-Child.is c.searched.ensures

pub returns-in-Word : goal.returns-in-Word
unfolding fields_of taking_fields
returns-in-Word c = rw c.in-Word.is c.searched-in-Word.ensures

pub returns-in-GiveBack : goal.returns-in-GiveBack
unfolding fields_of taking_fields
returns-in-GiveBack c = rw c.in-GiveBack.is c.searched-in-GiveBack.ensures

pub returns-in-Last : goal.returns-in-Last
unfolding fields_of taking_fields
returns-in-Last c = rw c.in-Last.is c.blocked.ensures

pub returns-in-Fail : goal.returns-in-Fail
unfolding fields_of taking_fields
returns-in-Fail c = rw c.in-Fail.is (rw c.from-in-Fail.ensures at c.held-in-Fail.ensures)

pub returns-in-NoRoom : goal.returns-in-NoRoom
unfolding fields_of taking_fields
returns-in-NoRoom c = rw c.in-NoRoom.is c.held-in-NoRoom.ensures
