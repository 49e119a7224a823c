use Rattle.entries.proofs.Trees.{says_damaged, says_counts}
use Rattle.entries.proofs.tree_says.Goals as goal

pub returns-then-capacity_of-f : goal.returns-then-capacity_of-f
returns-then-capacity_of-f c = says_damaged _ _ _ c.split_tree-f.ensures c.capacity_of.ensures c.if-capacity_of-f.true

pub returns : goal.returns
returns c = says_counts _ _ _ c.split_tree-f.ensures c.capacity_of.ensures c.if-capacity_of-f.false
