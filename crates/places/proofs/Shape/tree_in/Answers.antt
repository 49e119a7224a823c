use mathlib.Core.Path.{◌∙◌}
use Rattle.places.proofs.Ranges.{below_check, trees_same}
use Rattle.places.proofs.Shape.tree_in.Goals as goal

pub returns : goal.returns
returns c = below_check _ (c.trees.ensures ∙ trees_same c.args.self)
