use mathlib.Core.Path.{◌≡◌}
use Prim.Native.Nat.{◌-◌, ◌≤◌}
use lib.ListN.{length}
use Rattle.laws.specs.Tests.{Passes}
use Rattle.rules.specs.Ranges.{taking_in}
use Rattle.rules.specs.Step.{step, follow}
use Rattle.places.specs.Shapes.{shape_of}
use Rattle.calls.specs.Results.{zone}
use Rattle.get_runs.specs.Types.{Place, Taking, Record, Answer}
use Rattle.get_runs.proofs.child_on.Given as goal

abbrev pub invariant-loop-steps : goal.invariant-loop-steps
invariant-loop-steps l = (length l.words ≡ length l.initial.words) × (length l.children ≡ length l.initial.children) × Passes (taking_in (shape_of l.shape) l.cpu (Taking.Child l.order (Place.Own l.tree) l.start l.child)) × (l.fuel ≤ l.made → l.steps ≡ l.made) × (follow step (l.fuel - l.steps) l.steps (Answer.UnderWay (Record.Get l.cpu (Taking.Child l.order (Place.Own l.tree) l.start l.child))) (zone l.header l.words l.children l.trees l.cpus) ≡ follow step (l.fuel - l.made) l.made (Answer.UnderWay (Record.Get l.cpu (Taking.Child l.order (Place.Own l.tree) l.start l.start))) (zone l.header l.initial.words l.initial.children l.trees l.cpus))
