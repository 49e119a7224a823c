use mathlib.Core.Path.{refl}
use Rattle.calls.specs.Results.{went_to}
use Rattle.get_runs.proofs.Steps.{last_done, last_stands}
use Rattle.get_runs.proofs.last_on.Goals as goal

pub returns-then-fuel-steps : goal.returns-then-fuel-steps
unfolding went_to
returns-then-fuel-steps c = rw c.requires.1 refl

pub returns-in_default : goal.returns-in_default
unfolding went_to
returns-in_default c = rw c.requires.1 refl

pub returns-in-Ok : goal.returns-in-Ok
returns-in-Ok c = simp c.taken.ensures (last_done c.requires.0 _ _ c.if-fuel-steps.false _ c.block_of-block.ensures c.block_at.ensures c.in-Some.is c.set_start.ensures c.in-Ok.is c.first-end.ensures)

pub returns-in-Err : goal.returns-in-Err
returns-in-Err c = rw c.requires.1 (last_stands c.requires.0 _ _ c.if-fuel-steps.false _ c.block_of-block.ensures c.block_at.ensures c.in-Some.is c.set_start.ensures c.in-Err.is)
