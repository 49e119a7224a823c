use native.Mathlib.Nat.{le-max_left}
use native.Mathlib.Omega.{arith}
use Rattle.std.proofs.Common.{of_calls}
use Rattle.calls.proofs.Runs.{call_goes, call_ends}
use Rattle.calls.proofs.follow.Goals as goal

pub returns-in_default : goal.returns-in_default
returns-in_default g c = c.loop-steps.invariant.2 _ _ (call_ends _ _ _ _ _ c.in_default.not-UnderWay)

pub loop-steps-preserved : goal.loop-steps-preserved
loop-steps-preserved g c = (search of_calls, omega (arith, le-max_left c.args.fuel c.args.made), λ e m x. c.loop-steps.invariant.2 e m (call_goes _ _ _ _ c.loop-steps-test.true c.in-UnderWay.is c.step-answer.ensures e m x))
