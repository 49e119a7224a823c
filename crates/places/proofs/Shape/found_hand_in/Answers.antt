use Rattle.places.proofs.Ranges.{then_tells, then_fails}
use Rattle.places.proofs.Shape.found_hand_in.Goals as goal

pub returns-then-found_in : goal.returns-then-found_in
returns-then-found_in c = then_tells _ _ c.found_in.ensures c.if-found_in.true (rw c.tree.ensures at c.hand_in.ensures)

pub returns-else-found_in : goal.returns-else-found_in
returns-else-found_in c = then_fails _ _ c.found_in.ensures c.if-found_in.false
