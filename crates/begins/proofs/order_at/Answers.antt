use Rattle.begins.proofs.Begun.{order_run, order_nine, order_none}
use Rattle.begins.proofs.order_at.Goals as goal

pub returns-then-order-lt-RUNS : goal.returns-then-order-lt-RUNS
returns-then-order-lt-RUNS c = order_run _ c.if-order-lt-RUNS.true c.run_of.ensures

pub returns-then-order-eq9 : goal.returns-then-order-eq9
returns-then-order-eq9 c = order_nine _ c.if-order-eq9.true

pub returns : goal.returns
returns c = order_none _ c.if-order-lt-RUNS.false c.if-order-eq9.false
