use mathlib.Core.Path.{◌∙◌}
use Rattle.places.proofs.Ranges.{upto_check, capacity_same}
use Rattle.places.proofs.Shape.hand_in.Goals as goal

pub returns : goal.returns
returns c = upto_check _ (c.capacity_of.ensures ∙ capacity_same c.args.self _)
