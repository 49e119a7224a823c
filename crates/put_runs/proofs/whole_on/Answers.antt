use mathlib.Core.Path.{refl}
use Rattle.calls.specs.Results.{went_to}
use Rattle.put_runs.proofs.Steps.{clear_whole_step, fault_refused, run_stays, run_follows}
use Rattle.put_runs.proofs.whole_on.Goals as goal

pub returns-in-Ok : goal.returns-in-Ok
unfolding went_to
returns-in-Ok c = run_follows c.requires.1 (clear_whole_step c.requires.0 c.requires.2 c.clear_huge.ensures (rw c.in-Ok.is refl)) refl

pub returns-in-Err : goal.returns-in-Err
returns-in-Err c = run_stays _ _ (clear_whole_step c.requires.0 c.requires.2 c.clear_huge.ensures (rw c.in-Err.is refl)) (fault_refused c.in-Err.field-0) refl
