use mathlib.Core.Path.{refl}
use Rattle.records.specs.Layout.{found_spot}
use Rattle.records.proofs.SpotFromFound.from.Goals as goal

pub returns-in-Pass : goal.returns-in-Pass
unfolding found_spot
returns-in-Pass c = rw c.in-Pass.is c.from.ensures

pub returns-in-Steal : goal.returns-in-Steal
unfolding found_spot
returns-in-Steal c = rw (c.in-Steal.is, c.tree_spot.ensures) refl
