use Rattle.rules.specs.Begin.{begin_get}
use Rattle.rules.specs.Step.{step}
use Rattle.begins.proofs.Ways.{way_refused, way_begun}
use Rattle.get_runs.proofs.get_run.Goals as goal

pub own_on-left-requires : goal.own_on-left-requires
own_on-left-requires c = (rw c.in-Ok.is at c.get_of.ensures.come).0

pub returns-in-Err : goal.returns-in-Err
returns-in-Err c = way_refused step _ _ (begin_get _ _ _) _ (rw c.in-Err.is at c.get_of.ensures.come).1 c.way_of.ensures

pub returns-in-Ok : goal.returns-in-Ok
returns-in-Ok c = way_begun step _ _ (begin_get _ _ _) _ _ _ (rw c.in-Ok.is at c.get_of.ensures.come).1 (rw c.way_left.ensures c.own_on-left.ensures)
