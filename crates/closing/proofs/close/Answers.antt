use Rattle.closing.proofs.Judged.{close_refused, close_stored}
use Rattle.closing.proofs.close.Goals as goal

pub returns-in-Err : goal.returns-in-Err
returns-in-Err c = close_refused _ _ _ _ _ c.judge.ensures c.in-Err.is

pub returns-in-Ok-store_clean : goal.returns-in-Ok-store_clean
returns-in-Ok-store_clean c = close_stored _ _ _ _ _ c.judge.ensures c.in-Ok.is c.store_clean.ensures c.in-Ok-store_clean.is

pub returns-in-Err-store_clean : goal.returns-in-Err-store_clean
returns-in-Err-store_clean c = close_stored _ _ _ _ _ c.judge.ensures c.in-Ok.is c.store_clean.ensures c.in-Err-store_clean.is
