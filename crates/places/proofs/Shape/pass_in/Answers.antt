use mathlib.Core.Path.{◌≡◌, ◌∙◌}
use mathlib.Core.Logic.{inl, inr}
use mathlib.Core.List.{[], ◌∷◌, ◌++◌}
use Rattle.laws.specs.Tests.{passes, ◌isnt◌}
use Rattle.rules.specs.Ranges.{tree_in, pass_in}
use Rattle.places.specs.Shapes.{shape_of}
use Rattle.places.proofs.Ranges.{one_check, then_tells, then_fails}
use Rattle.places.proofs.Shape.pass_in.Goals.{Joined-tree_in, Joined-tree_in-2, then-tree_in, else-tree_in, then-tree_in-2, else-tree_in-2}
use Rattle.places.proofs.Shape.pass_in.Goals as goal

-- both trees are the zone's
two : (c : Joined-tree_in) → c.if-tree_in.value ≡ passes (tree_in (shape_of c.args.self) c.in-Near.tree ++ tree_in (shape_of c.args.self) c.in-Near.base)
two c = elim c.if-tree_in.branch [
  | then-tree_in w ↦ w.value-is ∙ then_tells _ _ c.tree_in.ensures w.if-tree_in.true w.tree_in-then-tree_in.ensures
  | else-tree_in w ↦ w.value-is ∙ then_fails _ _ c.tree_in.ensures w.if-tree_in.false
]

-- and they are two
three : (c : Joined-tree_in-2) → c.if-tree_in.value ≡ passes (tree_in (shape_of c.args.self) c.in-Near.tree ++ tree_in (shape_of c.args.self) c.in-Near.base) → c.if-tree_in-2.value ≡ passes (tree_in (shape_of c.args.self) c.in-Near.tree ++ (tree_in (shape_of c.args.self) c.in-Near.base ++ (c.in-Near.tree.0 isnt c.in-Near.base.0 ∷ [])))
three c h = elim c.if-tree_in-2.branch [
  | then-tree_in-2 w ↦ w.value-is ∙ then_tells (_ ∷ _ ∷ []) (_ ∷ []) h w.if-tree_in-2.true (w.ne.ensures ∙ one_check _)
  | else-tree_in-2 w ↦ w.value-is ∙ then_fails (_ ∷ _ ∷ []) (_ ∷ []) h w.if-tree_in-2.false
]

pub returns-then-ne : goal.returns-then-ne
unfolding pass_in
returns-then-ne c = rw c.in-Near.is (then_tells (_ ∷ _ ∷ _ ∷ []) _ (three (goal.at.returns-then-ne c).Joined-tree_in-2 (two (goal.at.returns-then-ne c).Joined-tree_in)) c.if-ne.true (one_check _))

pub returns-else-ne : goal.returns-else-ne
unfolding pass_in
returns-else-ne c = rw c.in-Near.is (then_fails (_ ∷ _ ∷ _ ∷ []) _ (three (goal.at.returns-else-ne c).Joined-tree_in-2 (two (goal.at.returns-else-ne c).Joined-tree_in)) c.if-ne.false)

pub returns-in-Partial : goal.returns-in-Partial
unfolding pass_in
returns-in-Partial c = elim c.in-Partial.is [
  | inl e ↦ rw e c.tree_in-in-Partial.ensures
  | inr (inl e) ↦ rw e c.tree_in-in-Partial.ensures
  | inr (inr e) ↦ rw e c.tree_in-in-Partial.ensures
]
