use mathlib.Core.Path.{refl, ap}
use Rattle.rules.specs.Begin.{order_of}
use Rattle.records.specs.Types.{Order}
use Rattle.records.proofs.Picks.{below, above}
use Rattle.records.proofs.order_at.Goals as goal

pub returns-then-order-lt-RUNS : goal.returns-then-order-lt-RUNS
unfolding order_of
returns-then-order-lt-RUNS c = below _ c.if-order-lt-RUNS.true (ap Order.Run c.run_of.ensures)

pub returns : goal.returns
unfolding order_of
returns c = above _ c.if-order-lt-RUNS.false refl
