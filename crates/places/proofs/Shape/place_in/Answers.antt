use Rattle.rules.specs.Ranges.{place_in}
use Rattle.places.proofs.Shape.place_in.Goals as goal

pub returns-in-Own : goal.returns-in-Own
unfolding place_in
returns-in-Own c = rw c.in-Own.is c.tree_in.ensures

pub returns-in-Found : goal.returns-in-Found
unfolding place_in
returns-in-Found c = rw c.in-Found.is c.found_in.ensures
