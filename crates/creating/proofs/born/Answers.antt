use Rattle.creating.proofs.Stages.{header_none, header_made}
use Rattle.creating.proofs.born.Goals as goal

pub returns-in-Ok : goal.returns-in-Ok
returns-in-Ok c = header_made _ _ _ c.requires c.store_running.ensures

pub returns-in-Err : goal.returns-in-Err
returns-in-Err c = header_none _ _ _ c.requires c.store_running.ensures c.in-Err.is
