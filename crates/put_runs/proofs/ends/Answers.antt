use mathlib.Core.Path.{refl}
use Rattle.put_runs.proofs.ends.Goals as goal

pub returns : goal.returns
returns c = rw c.first.ensures refl
