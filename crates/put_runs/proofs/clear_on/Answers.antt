use mathlib.Core.Path.{refl}
use Rattle.upper.proofs.Runs.{still_open}
use Rattle.put_runs.proofs.Steps.{clear_run_step, fault_refused, run_stays, run_follows}
use borrow.Author.Rules.{rules}
use Rattle.put_runs.proofs.clear_on.Goals as goal

pub raise_on-requires : goal.raise_on-requires
raise_on-requires c = (still_open c.requires.0 (search rules) refl refl refl, c.requires.2)

pub returns-in-Ok : goal.returns-in-Ok
returns-in-Ok c = run_follows c.requires.1 (clear_run_step c.requires.0 c.requires.2 c.clear_run.ensures (rw c.in-Ok.is refl)) c.raise_on.ensures

pub returns-in-Err : goal.returns-in-Err
returns-in-Err c = run_stays _ _ (clear_run_step c.requires.0 c.requires.2 c.clear_run.ensures (rw c.in-Err.is refl)) (fault_refused c.in-Err.field-0) refl
