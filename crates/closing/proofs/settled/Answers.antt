use Rattle.closing.proofs.Judged.{told_refused, told_settled}
use Rattle.closing.proofs.settled.Goals as goal

pub returns-in-Err : goal.returns-in-Err
returns-in-Err c = told_refused _ _ _ _ _ c.judge.ensures c.in-Err.is

pub returns-in-Ok : goal.returns-in-Ok
returns-in-Ok c = told_settled _ _ _ _ _ c.judge.ensures c.in-Ok.is
