use Rattle.entries.proofs.Sizes.{children_full, children_last, children_none}
use Rattle.entries.proofs.Size.children_of.Goals as goal

pub returns-then-tree-last : goal.returns-then-tree-last
returns-then-tree-last c = children_full _ _ c.if-tree-last.true

pub returns-then-tree-last-2 : goal.returns-then-tree-last-2
returns-then-tree-last-2 c = children_last _ _ c.if-tree-last-2.true

pub returns : goal.returns
returns c = children_none _ _ c.if-tree-last.false c.if-tree-last-2.false
