use native.Mathlib.Omega.{arith}
use Rattle.requests.specs.Lines.{value_after}
use Rattle.requests.proofs.value_after.Goals as goal

pub returns : goal.returns
unfolding value_after
returns c = omega arith
