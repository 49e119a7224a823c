use mathlib.Core.Path.{refl}
use native.Mathlib.Omega.{arith}
use Rattle.records.specs.Layout.{block_number}
use Rattle.records.proofs.block_number.Goals as goal

pub returns-in-Run : goal.returns-in-Run
unfolding block_number
returns-in-Run c = rw c.in-Run.is (refl, omega arith)

pub returns-in-Whole : goal.returns-in-Whole
unfolding block_number
returns-in-Whole c = rw c.in-Whole.is (refl, omega arith)
