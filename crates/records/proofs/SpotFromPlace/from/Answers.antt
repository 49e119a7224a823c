use mathlib.Core.Path.{refl}
use Rattle.records.specs.Layout.{place_spot}
use Rattle.records.proofs.SpotFromPlace.from.Goals as goal

pub returns-in-Own : goal.returns-in-Own
unfolding place_spot
returns-in-Own c = rw (c.in-Own.is, c.tree_spot.ensures) refl

pub returns-in-Found : goal.returns-in-Found
unfolding place_spot
returns-in-Found c = rw c.in-Found.is c.from.ensures
