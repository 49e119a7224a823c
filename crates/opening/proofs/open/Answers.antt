use mathlib.Core.Path.{sym, ap, ◌∙◌}
use Rattle.std.specs.Prelude.{Ok}
use Rattle.opening.proofs.Steps.{open_refused, cut_malformed, cut_flagged, cut_starts, closed_malformed, closed_starts}
use Rattle.opening.proofs.open.Goals as goal

pub returns-then-not-children_formed : goal.returns-then-not-children_formed
returns-then-not-children_formed c = cut_malformed _ _ _ _ _ (sym c.check.ensures ∙ c.in-Ok-Running.is ∙ ap Ok c.in-Ok-Running.field-0-is) c.children_formed.ensures c.if-not-children_formed.true

pub returns-then-not-flags_empty : goal.returns-then-not-flags_empty
returns-then-not-flags_empty c = cut_flagged _ _ _ _ _ (sym c.check.ensures ∙ c.in-Ok-Running.is ∙ ap Ok c.in-Ok-Running.field-0-is) c.children_formed.ensures c.if-not-children_formed.false c.flags_empty.ensures c.if-not-flags_empty.true

pub returns-then-not-children_formed-2 : goal.returns-then-not-children_formed-2
returns-then-not-children_formed-2 c = closed_malformed _ _ _ _ _ (sym c.check.ensures ∙ c.in-Ok-Clean.is ∙ ap Ok c.in-Ok-Clean.field-0-is) c.children_formed-in-Ok-Clean.ensures c.if-not-children_formed-2.true

pub returns-in-Err : goal.returns-in-Err
returns-in-Err c = open_refused _ _ _ _ _ (sym c.check.ensures ∙ c.in-Err.is)

pub returns-else-not-flags_empty : goal.returns-else-not-flags_empty
returns-else-not-flags_empty c = cut_starts _ _ _ _ _ (sym c.check.ensures ∙ c.in-Ok-Running.is ∙ ap Ok c.in-Ok-Running.field-0-is) c.children_formed.ensures c.if-not-children_formed.false c.flags_empty.ensures c.if-not-flags_empty.false c.start.ensures

pub returns-else-not-children_formed-2 : goal.returns-else-not-children_formed-2
returns-else-not-children_formed-2 c = closed_starts _ _ _ _ _ (sym c.check.ensures ∙ c.in-Ok-Clean.is ∙ ap Ok c.in-Ok-Clean.field-0-is) c.children_formed-in-Ok-Clean.ensures c.if-not-children_formed-2.false c.start-in-Ok-Clean.ensures
