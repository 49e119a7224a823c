-- The classes of the passes, by computation.
use mathlib.Core.Path.{refl}
use Rattle.rules.specs.Fresh.{fresh, listed}
use Rattle.rules.specs.Worked.{session}
use Rattle.rules.specs.Classes.{spent, back, Classes}
use Rattle.rules.proofs.Computed.{by_computation}

pub classes : Classes
unfolding by_computation session fresh listed spent back
classes = record {
  spends = refl;
  partial_first = refl;
  free_first = refl;
  near_partial = refl;
  near_allocated = refl;
  partial_twice = refl;
}
