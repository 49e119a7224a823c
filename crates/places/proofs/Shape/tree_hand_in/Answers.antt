use Rattle.places.proofs.Ranges.{then_tells, then_fails}
use Rattle.places.proofs.Shape.tree_hand_in.Goals as goal

pub returns-then-tree_in : goal.returns-then-tree_in
returns-then-tree_in c = then_tells _ _ c.tree_in.ensures c.if-tree_in.true c.hand_in.ensures

pub returns-else-tree_in : goal.returns-else-tree_in
returns-else-tree_in c = then_fails _ _ c.tree_in.ensures c.if-tree_in.false
