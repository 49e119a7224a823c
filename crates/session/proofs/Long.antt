-- The long session, by computation.
use mathlib.Core.Path.{refl}
use Rattle.rules.specs.Fresh.{fresh, listed}
use Rattle.rules.specs.Worked.{session}
use Rattle.rules.proofs.Computed.{by_computation}
use Rattle.session.specs.Long.{from, answers_of, frames_of, lines, Long}

pub long : Long
unfolding by_computation session fresh listed from answers_of frames_of lines
long = record { done = refl; frames = refl; rest = refl }
