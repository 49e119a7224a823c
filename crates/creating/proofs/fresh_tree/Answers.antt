use native.Mathlib.Omega.{arith}
use Rattle.rules.specs.Numbers.{trees_of}
use Rattle.creating.proofs.Stages.{tree_none, tree_next, tree_last}
use Rattle.creating.proofs.fresh_tree.Goals as goal

pub overflow_add-tree : goal.overflow_add-tree
unfolding trees_of
overflow_add-tree c = omega (arith, c.requires)

pub returns-then-tree-trees : goal.returns-then-tree-trees
returns-then-tree-trees c = tree_next _ _ _ _ (omega (arith, c.requires)) c.capacity_of.ensures c.store_count.ensures c.trees.ensures c.if-tree-trees.true c.creating.ensures

pub returns-else-tree-trees : goal.returns-else-tree-trees
returns-else-tree-trees c = tree_last _ _ _ _ (omega (arith, c.requires)) c.capacity_of.ensures c.store_count.ensures c.trees.ensures c.if-tree-trees.false c.creating-in-Ok.ensures

pub returns-in-Err : goal.returns-in-Err
returns-in-Err c = tree_none _ _ _ _ (omega (arith, c.requires)) c.capacity_of.ensures c.store_count.ensures c.in-Err.is
