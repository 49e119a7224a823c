-- Runs, by computation.
use mathlib.Core.Path.{refl}
use Rattle.rules.specs.Fresh.{fresh, listed}
use Rattle.rules.specs.Worked.{session}
use Rattle.rules.proofs.Computed.{by_computation}
use Rattle.session.specs.Long.{answers_of, frames_of}
use Rattle.session.specs.Runs.{each, put_each, whole_lines, half_lines, Runs}

pub runs : Runs
unfolding by_computation session fresh listed answers_of frames_of each put_each whole_lines half_lines
runs = record { done = refl; frames = refl; halves = refl; second = refl }
