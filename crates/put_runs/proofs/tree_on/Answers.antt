use mathlib.Core.Path.{refl}
use native.Mathlib.Omega.{arith}
use Rattle.put_runs.proofs.Steps.{to_tree_step, fault_refused, run_stands, run_stays, run_ends}
use Rattle.put_runs.proofs.tree_on.Goals as goal

pub returns-then-fuel-steps : goal.returns-then-fuel-steps
returns-then-fuel-steps c = run_stands _ _ _ c.requires.1

pub returns-in-Ok : goal.returns-in-Ok
returns-in-Ok c = run_ends c.if-fuel-steps.false c.args.block (to_tree_step c.requires.0 c.requires.2.there c.frames.ensures c.add_count.ensures (rw c.in-Ok.is refl)) (omega (arith, c.requires.1))

pub returns-in-Err : goal.returns-in-Err
returns-in-Err c = run_stays _ _ (to_tree_step c.requires.0 c.requires.2.there c.frames.ensures c.add_count.ensures (rw c.in-Err.is refl)) (fault_refused c.in-Err.field-0) c.requires.1
