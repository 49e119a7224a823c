use mathlib.Core.Path.{refl}
use Rattle.opening.proofs.Steps.{started}
use Rattle.opening.proofs.start.Goals as goal

pub returns-in-Ok : goal.returns-in-Ok
returns-in-Ok c = started _ _ _ c.store_running.ensures c.in-Ok.is c.opening.ensures

pub returns-in-Err : goal.returns-in-Err
returns-in-Err c = started _ _ _ c.store_running.ensures c.in-Err.is refl
