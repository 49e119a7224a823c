use mathlib.Core.Path.{◌≡◌, refl, ap, ◌∙◌}
use native.Mathlib.Omega.{arith}
use Rattle.calls.specs.Results.{went_to}
use Rattle.opening.proofs.Recounts.{at_child_lem, fails_ends, goes_on_lem, goes_to_trees}
use Rattle.opening.proofs.recount_on.Goals as goal

pub loop-steps-init : goal.loop-steps-init
loop-steps-init c = (omega arith, refl)

pub returns-in-Err : goal.returns-in-Err
returns-in-Err c = fails_ends _ _ _ _ _ _ _ _ _ _ _ c.requires.0 c.loop-steps.auto.children c.huge_frames-huge.ensures c.loop-steps.invariant.0 c.loop-steps-test.true c.store_recount.ensures c.in-Err.is c.from.ensures c.way_of.ensures ∙ c.loop-steps.invariant.1

pub returns-then-at-huge : goal.returns-then-at-huge
unfolding went_to
returns-then-at-huge c = goes_to_trees _ _ _ _ _ _ _ _ _ _ _ c.requires.0 c.loop-steps.auto.children c.huge_frames-huge.ensures c.loop-steps.invariant.0 c.loop-steps-test.true c.store_recount.ensures c.in_default.is (omega arith) ∙ c.loop-steps.invariant.1

pub loop-steps-preserved : goal.loop-steps-preserved
loop-steps-preserved c = (omega arith, goes_on_lem _ _ _ _ _ _ _ _ _ _ _ c.requires.0 c.loop-steps.auto.children c.huge_frames-huge.ensures c.loop-steps.invariant.0 c.loop-steps-test.true c.store_recount.ensures c.in_default.is (omega arith) ∙ c.loop-steps.invariant.1)

pub returns : goal.returns
unfolding went_to
returns c = let e : c.args.fuel ≡ c.loop-steps.steps = omega arith in ap (at_child_lem _ _ _ _ c.args.fuel c.loop-steps.children c.loop-steps.at) e ∙ c.loop-steps.invariant.1
