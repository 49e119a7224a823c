use mathlib.Core.Path.{refl}
use Rattle.get_runs.proofs.block_of.Goals as goal

pub returns-in-Run : goal.returns-in-Run
returns-in-Run c = rw c.in-Run.is refl

pub returns-in-Nine : goal.returns-in-Nine
returns-in-Nine c = rw c.in-Nine.is refl
