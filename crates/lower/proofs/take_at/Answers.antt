use mathlib.Core.Path.{sym}
use Rattle.rules.specs.Lower.{take_run}
use Rattle.lower.proofs.Tables.{step_told, step_changed}
use Rattle.lower.proofs.take_at.Goals as goal

pub returns-in_err-bit : goal.returns-in_err-bit
returns-in_err-bit c = rw c.from_residual.ensures (step_told (take_run _) _ _ (sym c.in_err-bit.ensures))

pub returns : goal.returns
returns c = step_changed (take_run _) _ _ (sym c.in_ok-bit.ensures)
