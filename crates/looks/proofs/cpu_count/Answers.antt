use native.Mathlib.Omega.{arith}
use Rattle.std.proofs.lemmas.Grind.{common_steps}
use Rattle.laws.specs.Tests.{pick}
use Rattle.looks.proofs.cpu_count.Goals as goal

pub returns-in-Ok-Holds : goal.returns-in-Ok-Holds
unfolding pick
returns-in-Ok-Holds c = grind (arith, common_steps)

pub returns-in-Ok : goal.returns-in-Ok
unfolding pick
returns-in-Ok c = grind (arith, common_steps)
