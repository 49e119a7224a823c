use mathlib.Core.Path.{ap}
use Prim.Native.Nat.{◌*◌}
use Rattle.laws.specs.Tests.{passes}
use Rattle.rules.specs.Ranges.{creating_in}
use Rattle.places.proofs.Ranges.{below_check, one_check}
use Rattle.places.proofs.Shape.creating_in.Goals as goal

pub returns-in-Words : goal.returns-in-Words
unfolding creating_in
returns-in-Words c = rw c.in-Words.is (below_check _ (ap (λ n. 8 * n) c.huge_frames.ensures))

pub returns-in-Children : goal.returns-in-Children
unfolding creating_in
returns-in-Children c = rw c.in-Children.is c.huge_in.ensures

pub returns-in-Trees : goal.returns-in-Trees
unfolding creating_in
returns-in-Trees c = rw c.in-Trees.is c.tree_in.ensures

pub returns-in-Cpus : goal.returns-in-Cpus
unfolding creating_in
returns-in-Cpus c = rw c.in-Cpus.is (one_check _)

pub returns-in-Header : goal.returns-in-Header
unfolding creating_in passes
returns-in-Header c = rw c.in-Header.is
