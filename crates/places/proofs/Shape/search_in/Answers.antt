use mathlib.Core.Path.{◌≡◌, ◌∙◌}
use mathlib.Core.List.{◌++◌}
use Rattle.laws.specs.Tests.{passes}
use Rattle.rules.specs.Ranges.{place_in, child_in}
use Rattle.rules.specs.Places.{place_tree}
use Rattle.places.specs.Shapes.{shape_of}
use Rattle.places.proofs.Ranges.{then_tells, then_fails, third_tells, third_fails}
use Rattle.places.proofs.Shape.search_in.Goals.{Joined-place_in, then-place_in, else-place_in}
use Rattle.places.proofs.Shape.search_in.Goals as goal

-- the place and the start child
two : (c : Joined-place_in) → c.if-place_in.value ≡ passes (place_in (shape_of c.args.self) c.args.cpu c.args.place ++ child_in (shape_of c.args.self) (place_tree c.args.place) c.args.start)
two c = elim c.if-place_in.branch [
  | then-place_in w ↦ w.value-is ∙ then_tells _ _ c.place_in.ensures w.if-place_in.true (rw c.tree-tree.ensures at w.child_in.ensures)
  | else-place_in w ↦ w.value-is ∙ then_fails _ _ c.place_in.ensures w.if-place_in.false
]

pub returns-then-child_in : goal.returns-then-child_in
returns-then-child_in c = third_tells (place_in _ _ _) _ _ (two (goal.at.returns-then-child_in c).Joined-place_in) c.if-child_in.true (rw c.tree-tree.ensures at c.child_in-then-child_in.ensures)

pub returns-else-child_in : goal.returns-else-child_in
returns-else-child_in c = third_fails (place_in _ _ _) _ _ (two (goal.at.returns-else-child_in c).Joined-place_in) c.if-child_in.false
