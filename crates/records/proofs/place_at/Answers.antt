use mathlib.Core.Path.{refl, ap}
use Rattle.records.specs.Types.{Place}
use Rattle.records.specs.Decoding.{place_at}
use Rattle.records.proofs.Picks.{same, other}
use Rattle.records.proofs.place_at.Goals as goal

pub returns-then-kind-eq1 : goal.returns-then-kind-eq1
unfolding place_at
returns-then-kind-eq1 c = same _ c.if-kind-eq1.true refl

pub returns : goal.returns
unfolding place_at
returns c = other _ c.if-kind-eq1.false (ap Place.Found c.found_at.ensures)
