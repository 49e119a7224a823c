use Prim.Native.Nat.{◌-◌, ◌≤◌, max}
use Rattle.calls.specs.Types.{Ended}
use Rattle.calls.specs.Runs.{Runs}
use Rattle.calls.proofs.follow.Given as goal

abbrev pub invariant-loop-steps : goal.invariant-loop-steps
invariant-loop-steps g l =
    goal.F-IsAlwaysCallable g l.step
    × (l.steps ≤ max l.fuel l.made)
    × ((e : Ended) (m : _) → Runs (λ f r a h. goal.F-step g f r a h) (l.fuel - l.steps) l.steps l.answer l.step e m → Runs (λ f r a h. goal.F-step g f r a h) (l.fuel - l.made) l.made l.initial.answer l.initial.step e m)
