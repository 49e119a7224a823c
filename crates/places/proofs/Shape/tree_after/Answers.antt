use Rattle.places.proofs.Next.{same_trees, tree_next, tree_last}
use Rattle.places.proofs.Shape.tree_after.Goals as goal

pub returns-then-tree-trees : goal.returns-then-tree-trees
returns-then-tree-trees c = tree_next _ _ (same_trees c.args.self c.trees.ensures) c.if-tree-trees.true

pub returns-else-tree-trees : goal.returns-else-tree-trees
returns-else-tree-trees c = tree_last _ _ (same_trees c.args.self c.trees.ensures) c.if-tree-trees.false
