use mathlib.Core.Path.{refl}
use Rattle.get_runs.proofs.way_left.Goals as goal

pub returns-in-Own : goal.returns-in-Own
returns-in-Own c = rw c.in-Own.is c.goes.ensures

pub returns-in-Try : goal.returns-in-Try
returns-in-Try c = rw c.in-Try.is c.goes-in-Try.ensures

pub returns-in-TakeCount : goal.returns-in-TakeCount
returns-in-TakeCount c = rw c.in-TakeCount.is c.goes-in-TakeCount.ensures

pub returns-in-Child : goal.returns-in-Child
returns-in-Child c = rw c.in-Child.is c.goes-in-Child.ensures

pub returns-in-Fail : goal.returns-in-Fail
returns-in-Fail c = rw c.in-Fail.is c.goes-in-Fail.ensures

pub returns-in-Run : goal.returns-in-Run
returns-in-Run c = rw (c.in-Word.is, c.in-Run.is) c.goes-in-Run.ensures

pub returns-in-Nine : goal.returns-in-Nine
returns-in-Nine c = rw (c.in-Word.is, c.in-Nine.is) (rw c.in-Nine.is at c.goes-in-Nine.ensures)

pub returns-in-Run-order : goal.returns-in-Run-order
returns-in-Run-order c = rw (c.in-GiveBack.is, c.in-Run-order.is) c.goes-in-Run-order.ensures

pub returns-in-Nine-order : goal.returns-in-Nine-order
returns-in-Nine-order c = rw (c.in-GiveBack.is, c.in-Nine-order.is) (rw c.in-Nine-order.is at c.goes-in-Nine-order.ensures)

pub returns-in-Last : goal.returns-in-Last
returns-in-Last c = rw c.in-Last.is (rw c.block_of-block.ensures at c.goes-in-Last.ensures)

pub returns-in-Done : goal.returns-in-Done
returns-in-Done c = rw c.in-Done.is refl
