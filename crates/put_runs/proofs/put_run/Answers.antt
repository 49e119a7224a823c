use Rattle.rules.specs.Begin.{begin_put}
use Rattle.rules.specs.Step.{step}
use Rattle.begins.proofs.Ways.{way_refused, way_begun}
use Rattle.put_runs.proofs.put_run.Goals as goal

pub block_on-at-requires : goal.block_on-at-requires
block_on-at-requires c = (rw c.in-Ok.is at c.put_of.ensures.come).0

pub returns-in-Err : goal.returns-in-Err
returns-in-Err c = way_refused step _ _ (begin_put _ _ _ _) _ (rw c.in-Err.is at c.put_of.ensures.come).1 c.way_of.ensures

pub returns-in-Ok : goal.returns-in-Ok
returns-in-Ok c = rw c.way_at.ensures (way_begun step _ _ (begin_put _ _ _ _) _ _ _ (rw c.in-Ok.is at c.put_of.ensures.come).1 c.block_on-at.ensures)
