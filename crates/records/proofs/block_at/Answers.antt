use mathlib.Core.Path.{refl, ap}
use Rattle.rules.specs.Conversions.{huge}
use Rattle.records.specs.Types.{Block}
use Rattle.records.specs.Decoding.{block_in}
use Rattle.records.proofs.Picks.{below, above}
use Rattle.records.proofs.block_at.Goals as goal

pub returns-then-order-lt-RUNS : goal.returns-then-order-lt-RUNS
unfolding block_in
returns-then-order-lt-RUNS c = rw c.run_of.ensures (below _ c.if-order-lt-RUNS.true refl)

pub returns : goal.returns
unfolding block_in
returns c = above _ c.if-order-lt-RUNS.false (ap (λ i. Block.Whole (huge i)) c.short.ensures)
