use mathlib.Core.Path.{◌≡◌}
use Prim.Native.Nat.{◌<◌}
use Rattle.opening.proofs.Recounts.{at_child_lem}
use Rattle.opening.proofs.recount_on.Given as goal

abbrev pub invariant-loop-steps : goal.invariant-loop-steps
invariant-loop-steps l = (l.at < l.huge) × (at_child_lem l.header l.words l.trees l.cpus l.fuel l.children l.at l.steps ≡ at_child_lem l.header l.words l.trees l.cpus l.fuel l.initial.children l.initial.at 0)
