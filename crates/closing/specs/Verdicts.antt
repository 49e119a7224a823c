-- What close finds before its store.
use Rattle.std.specs.Prelude.{Bool, ◌&&◌, List, [], ℕ, length, Result, Ok, Err}
use Rattle.laws.specs.Tests.{pick}
use Rattle.rules.specs.Numbers.{Shape as Rules}
use Rattle.rules.specs.Zone.{Zone}
use Rattle.rules.specs.Create.{done}
use Rattle.rules.specs.Open.{children_formed, flags_empty, trees_formed, cpus_formed, settled}
use Rattle.places.specs.Shapes.{shape_of}
use Rattle.calls.specs.Results.{zone, checked}
use Rattle.closing.specs.Types.{Fault, Answer, Shape}

-- close's 12: children, fields, trees, CPUs
abbrev pub sound_in : Rules → Zone → Bool
sound_in g z = children_formed g z && (flags_empty g z && (trees_formed g z && cpus_formed g z))

-- words w, children c, trees t, CPUs p
unfoldable pub verdict_as : Result Shape Answer → List ℕ → List ℕ → List ℕ → List ℕ → Result Shape Answer
verdict_as (Err a) w c t p = Err a
verdict_as (Ok s) w c t p =
    pick (sound_in (shape_of s) (zone [] w c t p)) (pick (settled (shape_of s) (zone [] w c t p)) (Ok s) (Err Answer.NotSettled)) (Err Answer.Damaged)

abbrev pub verdict_in : List ℕ → List ℕ → List ℕ → List ℕ → List ℕ → Result Shape Answer
verdict_in h w c t p = verdict_as (checked h (length w) (length c) (length t) (length p)) w c t p

-- the answer by what the header's store said
abbrev pub closed_as : Result Unit Fault → Answer
closed_as (Ok tt) = done
closed_as (Err f) = Answer.BadBuffers
