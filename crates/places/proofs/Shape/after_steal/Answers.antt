use mathlib.Core.Path.{◌∙◌}
use Rattle.places.proofs.Next.{steal_next}
use Rattle.places.proofs.Shape.after_steal.Goals as goal

pub returns : goal.returns
returns c = c.steal_from.ensures ∙ steal_next _ _ _ _ c.skip.ensures
