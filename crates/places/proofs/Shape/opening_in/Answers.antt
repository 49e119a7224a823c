use Rattle.rules.specs.Ranges.{opening_in}
use Rattle.places.proofs.Ranges.{one_check}
use Rattle.places.proofs.Shape.opening_in.Goals as goal

pub returns-in-Children : goal.returns-in-Children
unfolding opening_in
returns-in-Children c = rw c.in-Children.is c.huge_in.ensures

pub returns-in-Trees : goal.returns-in-Trees
unfolding opening_in
returns-in-Trees c = rw c.in-Trees.is c.tree_in.ensures

pub returns-in-Cpus : goal.returns-in-Cpus
unfolding opening_in
returns-in-Cpus c = rw c.in-Cpus.is (one_check _)
