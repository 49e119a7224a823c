use mathlib.Core.Path.{refl}
use Rattle.records.specs.Layout.{block_order}
use Rattle.records.proofs.block_order.Goals as goal

pub returns-in-Run : goal.returns-in-Run
unfolding block_order
returns-in-Run c = rw c.in-Run.is c.order.ensures

pub returns-in-Whole : goal.returns-in-Whole
unfolding block_order
returns-in-Whole c = rw c.in-Whole.is refl
