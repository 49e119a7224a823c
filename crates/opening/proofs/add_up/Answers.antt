use native.Mathlib.Omega.{arith}
use Rattle.rules.specs.Numbers.{trees_of}
use Rattle.opening.proofs.Stages.{part_damaged, tree_none, tree_next, tree_last}
use Rattle.opening.proofs.add_up.Goals as goal

pub returns-then-not-part_formed : goal.returns-then-not-part_formed
returns-then-not-part_formed c = part_damaged _ _ _ _ c.requires c.part_formed.ensures c.if-not-part_formed.true

pub overflow_add-tree : goal.overflow_add-tree
unfolding trees_of
overflow_add-tree c = omega (arith, c.requires)

pub returns-then-tree-trees : goal.returns-then-tree-trees
returns-then-tree-trees c = tree_next _ _ _ _ c.requires c.part_formed.ensures c.if-not-part_formed.false _ c.child_count.ensures c.store_count.ensures c.trees.ensures c.if-tree-trees.true c.opening.ensures

pub returns-else-tree-trees : goal.returns-else-tree-trees
returns-else-tree-trees c = tree_last _ _ _ _ c.requires c.part_formed.ensures c.if-not-part_formed.false _ c.child_count.ensures c.store_count.ensures c.trees.ensures c.if-tree-trees.false c.opening-in-Ok.ensures

pub returns-in-Err : goal.returns-in-Err
returns-in-Err c = tree_none _ _ _ _ c.requires c.part_formed.ensures c.if-not-part_formed.false _ c.child_count.ensures c.store_count.ensures c.in-Err.is
