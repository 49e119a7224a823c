use mathlib.Core.Path.{refl}
use Rattle.calls.specs.Results.{went_to}
use Rattle.put_runs.proofs.Steps.{raise_step, fault_refused, run_stays, run_follows}
use Rattle.put_runs.proofs.raise_on.Goals as goal

pub returns-then-fuel-le1 : goal.returns-then-fuel-le1
unfolding went_to
returns-then-fuel-le1 c = refl

pub returns-in-Ok : goal.returns-in-Ok
unfolding went_to
returns-in-Ok c = run_follows c.if-fuel-le1.false (raise_step c.requires.0 c.requires.1 c.frames.ensures c.give_count.ensures (rw c.in-Ok.is refl)) refl

pub returns-in-Err : goal.returns-in-Err
returns-in-Err c = run_stays _ _ (raise_step c.requires.0 c.requires.1 c.frames.ensures c.give_count.ensures (rw c.in-Err.is refl)) (fault_refused c.in-Err.field-0) refl
