use mathlib.Core.Path.{refl}
use Rattle.records.specs.Layout.{pass_spot}
use Rattle.records.proofs.SpotFromPass.from.Goals as goal

pub returns-in-Near : goal.returns-in-Near
unfolding pass_spot
returns-in-Near c = rw c.in-Near.is refl

pub returns-in-Partial : goal.returns-in-Partial
unfolding pass_spot
returns-in-Partial c = rw (c.in-Partial.is, c.tree_spot.ensures) refl

pub returns-in-Free : goal.returns-in-Free
unfolding pass_spot
returns-in-Free c = rw (c.in-Free.is, c.tree_spot-in-Free.ensures) refl

pub returns-in-Any : goal.returns-in-Any
unfolding pass_spot
returns-in-Any c = rw (c.in-Any.is, c.tree_spot-in-Any.ensures) refl
