use Rattle.get_runs.proofs.Search.{claims_run, claims_nine}
use Rattle.get_runs.proofs.claim.Goals as goal

pub returns-in-Run : goal.returns-in-Run
returns-in-Run c = claims_run _ _ _ _ c.in-Run.is c.frames.ensures c.claim.ensures

pub returns-in-Nine : goal.returns-in-Nine
returns-in-Nine c = claims_nine _ _ _ _ c.in-Nine.is c.take_huge.ensures
