use mathlib.Core.Path.{refl}
use Rattle.calls.specs.Results.{went_to}
use Rattle.get_runs.proofs.Search.{as_claimed}
use Rattle.places.specs.Shapes.{shape_of}
use Rattle.get_runs.proofs.taken_on.Goals as goal

pub word_on-requires : goal.word_on-requires
word_on-requires c = (c.requires.0, rw c.in-Run.is at c.requires.1)

pub returns-in-Run : goal.returns-in-Run
returns-in-Run c = as_claimed (shape_of c.args.shape) _ _ _ _ _ _ _ c.in-Run.is c.word_on.ensures

pub returns-in-Nine : goal.returns-in-Nine
unfolding went_to
returns-in-Nine c = simp c.taken.ensures (as_claimed (shape_of c.args.shape) _ _ _ _ _ _ _ c.in-Nine.is (rw c.in-Nine.is refl))
