use mathlib.Core.Path.{◌≡◌}
use Prim.Native.Nat.{◌-◌}
use lib.ListN.{length}
use Rattle.rules.specs.Step.{step, follow}
use Rattle.calls.specs.Results.{zone}
use Rattle.get_runs.specs.Types.{Place, Taking, Record, Answer}
use Rattle.get_runs.proofs.Search.{word_at}
use Rattle.get_runs.proofs.word_on.Given as goal

abbrev pub invariant-loop-word : goal.invariant-loop-word
invariant-loop-word l = (length l.words ≡ length l.initial.words) × (follow step (l.fuel - l.steps) l.steps (Answer.UnderWay (Record.Get l.cpu (word_at l.run l.tree l.start l.child l.word))) (zone l.header l.words l.children l.trees l.cpus) ≡ follow step (l.fuel - l.made) l.made (Answer.UnderWay (Record.Get l.cpu (Taking.Word l.run (Place.Own l.tree) l.start l.child 0))) (zone l.header l.initial.words l.children l.trees l.cpus))
