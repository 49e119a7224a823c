use mathlib.Core.Path.{ap, ◌∙◌}
use Rattle.rules.specs.Places.{after_pass, steal_from}
use Rattle.places.specs.Types.{Pass}
use Rattle.places.specs.Shapes.{shape_of}
use Rattle.places.proofs.Next.{near_next, try_next, try_last, try_either}
use Rattle.places.proofs.Shape.after_pass.Goals as goal

pub returns-in-Near : goal.returns-in-Near
returns-in-Near c = rw c.in-Near.is (c.near_from.ensures ∙ near_next _ _ _ _ _ c.skip.ensures)

pub returns-in-Partial : goal.returns-in-Partial
unfolding after_pass
returns-in-Partial c = rw c.in-Partial.is (try_either _ _ Pass.Partial _ c.tree_after.ensures _ c.map_or.ensures)

pub returns-in-Free : goal.returns-in-Free
unfolding after_pass
returns-in-Free c = rw c.in-Free.is (try_either _ _ Pass.Free _ c.tree_after-in-Free.ensures _ c.map_or-in-Free.ensures)

pub returns-in-Some : goal.returns-in-Some
unfolding after_pass
returns-in-Some c = rw c.in-Any.is (try_next _ _ Pass.Any _ c.tree_after-in-Any.ensures _ c.in-Some.is)

pub returns-in-None : goal.returns-in-None
unfolding after_pass
returns-in-None c = rw c.in-Any.is (c.steal_from.ensures ∙ ap (steal_from (shape_of c.args.self) c.args.cpu c.args.order) c.skip-in-None.ensures ∙ try_last _ _ Pass.Any _ c.tree_after-in-Any.ensures _ c.in-None.is)
