use mathlib.Core.Path.{sym, ap, ◌∙◌}
use Prim.Native.Nat.{◌/◌, ◌%◌}
use native.Mathlib.Omega.{arith}
use Rattle.std.specs.Prelude.{Some}
use Rattle.laws.proofs.Tests.{all_passed, pick_yes, pick_no}
use Rattle.places.specs.Shapes.{block_at_in}
use Rattle.places.specs.Types.{BlockAt}
use Rattle.places.proofs.Next.{huge_in_lem}
use Rattle.places.proofs.Shape.block_at.Goals as goal

pub huge_number-huge-requires : goal.huge_number-huge-requires
huge_number-huge-requires c = all_passed _ (sym c.block_in.ensures ∙ c.if-not-block_in.false)

pub overflow_cast-result : goal.overflow_cast-result
overflow_cast-result c = omega (arith, huge_in_lem c.args.self c.args.block (all_passed _ (sym c.block_in.ensures ∙ c.if-not-block_in.false)))

pub returns-then-not-block_in : goal.returns-then-not-block_in
unfolding block_at_in
returns-then-not-block_in c = sym (pick_no _ _ _ (sym c.block_in.ensures ∙ c.if-not-block_in.true))

pub returns : goal.returns
unfolding block_at_in
returns c = ap (λ h. let at : BlockAt = record { tree = record { 0 = h / 32 }; child = h % 32 } in Some at) c.huge_number-huge.ensures ∙ sym (pick_yes _ _ _ (sym c.block_in.ensures ∙ c.if-not-block_in.false))
