use Rattle.places.proofs.Next.{same_trees, near_taken, near_past, near_away}
use Rattle.places.proofs.Shape.near_from.Goals.{else-tree-trees-via-then-tree-trees+else-tree-base, else-tree-trees-via-else-tree-trees}
use Rattle.places.proofs.Shape.near_from.Goals as goal

pub returns-then-tree-base : goal.returns-then-tree-base
returns-then-tree-base c = near_taken _ _ _ _ (same_trees _ c.trees.ensures) c.if-tree-trees.true c.if-tree-base.true

pub returns-else-tree-trees : goal.returns-else-tree-trees
returns-else-tree-trees c = elim c.else-tree-trees.branch [
  | else-tree-trees-via-then-tree-trees+else-tree-base w ↦ near_away _ _ _ _ (same_trees _ c.trees.ensures) w.if-tree-trees.true w.if-tree-base.false
  | else-tree-trees-via-else-tree-trees w ↦ near_past _ _ _ _ (same_trees _ c.trees.ensures) w.if-tree-trees.false
]
