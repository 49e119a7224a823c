use mathlib.Core.Path.{◌∙◌}
use Rattle.places.proofs.Ranges.{below_check, children_same}
use Rattle.places.proofs.Shape.child_in.Goals as goal

pub returns : goal.returns
returns c = below_check _ (c.children_of.ensures ∙ children_same c.args.self _)
