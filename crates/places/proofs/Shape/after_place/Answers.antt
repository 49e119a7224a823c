use mathlib.Core.Path.{◌∙◌}
use Rattle.rules.specs.Places.{after_place}
use Rattle.places.proofs.Next.{near_first}
use Rattle.places.proofs.Shape.after_place.Goals as goal

pub returns-in-Own : goal.returns-in-Own
returns-in-Own c = rw c.in-Own.is (c.near_from.ensures ∙ near_first _ _ _ _ c.skip.ensures)

pub returns-in-Pass : goal.returns-in-Pass
unfolding after_place
returns-in-Pass c = rw (c.in-Found.is, c.in-Pass.is) c.after_pass.ensures

pub returns-in-Steal : goal.returns-in-Steal
unfolding after_place
returns-in-Steal c = rw (c.in-Found.is, c.in-Steal.is) c.after_steal.ensures
