use Rattle.looks.proofs.Parts.{not_formed, formed}
use Rattle.looks.proofs.part_formed.Goals as goal

pub returns-then-children-end : goal.returns-then-children-end
returns-then-children-end c = not_formed _ _ _ c.children_of.ensures c.if-children-end.true

pub returns : goal.returns
returns c = formed _ _ _ c.children_of.ensures c.if-children-end.false c.children_formed.ensures
