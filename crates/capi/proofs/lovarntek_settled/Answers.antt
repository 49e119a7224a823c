use mathlib.Core.Path.{ap, ◌∙◌}
use Rattle.capi.specs.Calls.{answered_as}
use Rattle.capi.proofs.lovarntek_settled.Goals as goal

pub returns : goal.returns
returns c = c.from.ensures ∙ ap answered_as c.settled.ensures
