use Rattle.rules.specs.Ranges.{found_in}
use Rattle.places.proofs.Ranges.{then_tells, then_fails}
use Rattle.places.proofs.Shape.found_in.Goals as goal

pub returns-then-steal_in : goal.returns-then-steal_in
unfolding found_in
returns-then-steal_in c = rw c.in-Steal.is (then_tells _ _ c.steal_in.ensures c.if-steal_in.true c.tree_in.ensures)

pub returns-in-Pass : goal.returns-in-Pass
unfolding found_in
returns-in-Pass c = rw c.in-Pass.is c.pass_in.ensures

pub returns-else-steal_in : goal.returns-else-steal_in
unfolding found_in
returns-else-steal_in c = rw c.in-Steal.is (then_fails _ _ c.steal_in.ensures c.if-steal_in.false)
