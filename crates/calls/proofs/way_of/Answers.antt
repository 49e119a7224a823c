use mathlib.Core.Path.{sym, ap, ◌∙◌}
use Rattle.calls.specs.Results.{way_by}
use Rattle.calls.proofs.way_of.Goals as goal

pub returns-in-Some : goal.returns-in-Some
unfolding way_by
returns-in-Some c = sym (ap (way_by _ _) (sym c.next_of.ensures ∙ c.in-Some.is))

pub returns-in-None : goal.returns-in-None
unfolding way_by
returns-in-None c = sym (ap (way_by _ _) (sym c.next_of.ensures ∙ c.in-None.is))
