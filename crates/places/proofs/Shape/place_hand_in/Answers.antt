use Rattle.places.proofs.Ranges.{then_tells, then_fails}
use Rattle.places.proofs.Shape.place_hand_in.Goals as goal

pub returns-then-place_in : goal.returns-then-place_in
returns-then-place_in c = then_tells _ _ c.place_in.ensures c.if-place_in.true (rw c.tree.ensures at c.hand_in.ensures)

pub returns-else-place_in : goal.returns-else-place_in
returns-else-place_in c = then_fails _ _ c.place_in.ensures c.if-place_in.false
