use Rattle.places.specs.Shapes.{shape_of}
use mathlib.Core.Path.{ap, ◌∙◌}
use Prim.Native.Nat.{◌%◌}
use native.Mathlib.Omega.{arith}
use lib.Dec.{eqb}
use Rattle.rules.specs.Ranges.{frame_in}
use Rattle.rules.proofs.Sizes.{run_some}
use Rattle.places.proofs.Ranges.{one_check, then_tells, then_fails}
use Rattle.places.proofs.Shape.run_in.Goals as goal

pub nonzero_rem-result : goal.nonzero_rem-result
nonzero_rem-result c = omega (arith, c.frames.ensures, run_some c.args.run)

pub returns-then-frame_in : goal.returns-then-frame_in
returns-then-frame_in c = then_tells (frame_in (shape_of c.args.self) _) _ c.frame_in.ensures c.if-frame_in.true (ap (λ y. eqb (c.args.first.0 % y) 0) c.frames.ensures ∙ one_check _)

pub returns-else-frame_in : goal.returns-else-frame_in
returns-else-frame_in c = then_fails (frame_in (shape_of c.args.self) _) _ c.frame_in.ensures c.if-frame_in.false
