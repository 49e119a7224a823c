use mathlib.Core.List.{[], ◌∷◌}
use Rattle.laws.specs.Tests.{passes}
use Rattle.rules.specs.Ranges.{place_in, taking_in}
use Rattle.places.proofs.Ranges.{one_check, third_tells, third_fails}
use Rattle.places.proofs.Shape.taking_in.Goals as goal

pub returns-then-search_in : goal.returns-then-search_in
unfolding taking_in
returns-then-search_in c = rw c.in-Word.is (third_tells (place_in _ _ _) (_ ∷ _ ∷ []) _ c.search_in-in-Word.ensures c.if-search_in.true (one_check _))

pub returns-in-Own : goal.returns-in-Own
unfolding taking_in passes
returns-in-Own c = rw c.in-Own.is

pub returns-in-TakeCount : goal.returns-in-TakeCount
unfolding taking_in
returns-in-TakeCount c = rw c.in-TakeCount.is c.tree_in.ensures

pub returns-in-FillEntry : goal.returns-in-FillEntry
unfolding taking_in
returns-in-FillEntry c = rw c.in-FillEntry.is c.tree_hand_in.ensures

pub returns-in-ReturnHand : goal.returns-in-ReturnHand
unfolding taking_in
returns-in-ReturnHand c = rw c.in-ReturnHand.is c.tree_hand_in-in-ReturnHand.ensures

pub returns-in-LookAgain : goal.returns-in-LookAgain
unfolding taking_in
returns-in-LookAgain c = rw c.in-LookAgain.is c.tree_in-in-LookAgain.ensures

pub returns-in-Release : goal.returns-in-Release
unfolding taking_in
returns-in-Release c = rw c.in-Release.is c.place_in.ensures

pub returns-in-Unreserve : goal.returns-in-Unreserve
unfolding taking_in
returns-in-Unreserve c = rw c.in-Unreserve.is c.place_hand_in.ensures

pub returns-in-Try : goal.returns-in-Try
unfolding taking_in
returns-in-Try c = rw c.in-Try.is c.pass_in.ensures

pub returns-in-Write : goal.returns-in-Write
unfolding taking_in
returns-in-Write c = rw c.in-Write.is c.found_hand_in.ensures

pub returns-in-Steal : goal.returns-in-Steal
unfolding taking_in
returns-in-Steal c = rw c.in-Steal.is c.steal_in.ensures

pub returns-in-StealCount : goal.returns-in-StealCount
unfolding taking_in
returns-in-StealCount c = rw c.in-StealCount.is c.found_hand_in-in-StealCount.ensures

pub returns-in-Child : goal.returns-in-Child
unfolding taking_in
returns-in-Child c = rw c.in-Child.is c.search_in.ensures

pub returns-else-search_in : goal.returns-else-search_in
unfolding taking_in
returns-else-search_in c = rw c.in-Word.is (third_fails (place_in _ _ _) (_ ∷ _ ∷ []) _ c.search_in-in-Word.ensures c.if-search_in.false)

pub returns-in-GiveBack : goal.returns-in-GiveBack
unfolding taking_in
returns-in-GiveBack c = rw c.in-GiveBack.is c.search_in-in-GiveBack.ensures

pub returns-in-Last : goal.returns-in-Last
unfolding taking_in
returns-in-Last c = rw c.in-Last.is c.block_in.ensures

pub returns-in-Fail : goal.returns-in-Fail
unfolding taking_in
returns-in-Fail c = rw c.in-Fail.is c.place_in-in-Fail.ensures

pub returns-in-NoRoom : goal.returns-in-NoRoom
unfolding taking_in passes
returns-in-NoRoom c = rw c.in-NoRoom.is
