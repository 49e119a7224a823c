use mathlib.Core.Path.{refl, ap}
use Rattle.records.specs.Types.{Found}
use Rattle.records.specs.Decoding.{found_at}
use Rattle.records.proofs.Picks.{same, other}
use Rattle.records.proofs.found_at.Goals as goal

pub returns-then-kind-eq6 : goal.returns-then-kind-eq6
unfolding found_at
returns-then-kind-eq6 c = same _ c.if-kind-eq6.true refl

pub returns : goal.returns
unfolding found_at
returns c = other _ c.if-kind-eq6.false (ap Found.Pass c.pass_at.ensures)
