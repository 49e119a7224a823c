use mathlib.Core.Path.{◌∙◌}
use Rattle.looks.proofs.Parts.{not_counted, counted}
use Rattle.looks.proofs.child_count.Goals as goal

pub returns-then-children-end : goal.returns-then-children-end
returns-then-children-end c = not_counted _ _ _ c.children_of.ensures c.if-children-end.true

pub returns : goal.returns
returns c = c.unwrap_or.ensures ∙ counted _ _ _ c.children_of.ensures c.if-children-end.false c.sum.ensures
