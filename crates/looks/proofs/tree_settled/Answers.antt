use mathlib.Core.Path.{ap₂}
use Prim.Native.Nat.{◌+◌}
use lib.Dec.{eqb}
use Rattle.looks.proofs.tree_settled.Goals as goal

pub returns : goal.returns
returns c = ap₂ eqb (ap₂ ◌+◌ c.tree_count.ensures c.held_of.ensures) c.child_count.ensures
