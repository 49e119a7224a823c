use mathlib.Core.Path.{refl, ap, ◌∙◌}
use native.Mathlib.Omega.{arith}
use Rattle.calls.specs.Results.{went_to}
use Rattle.upper.proofs.Runs.{still_open}
use Rattle.std.specs.Prelude.{Ok}
use Rattle.get_runs.proofs.Steps.{counted_to}
use Rattle.get_runs.proofs.Search.{Turned, kids_few, child_few, turned_round, turned_on, child_taken, child_stands, search_fails, search_goes}
use borrow.Author.Rules.{rules}
use Rattle.get_runs.proofs.child_on.Goals as goal
use Rattle.get_runs.proofs.child_on.Goals.{then-child-width, else-child-width}

pub overflow_cast-width : goal.overflow_cast-width
overflow_cast-width c = let l = kids_few c.args.shape _ c.children_of-width.ensures in omega arith

pub loop-steps-init : goal.loop-steps-init
loop-steps-init c = (refl, refl, c.requires.1, (λ l. refl), refl)

pub taken_on-requires : goal.taken_on-requires
taken_on-requires c = (still_open c.requires.0 c.loop-steps.invariant.0 (search rules) refl refl, c.loop-steps.invariant.2)

pub returns-in-Ok-Taken : goal.returns-in-Ok-Taken
returns-in-Ok-Taken c = child_taken _ _ _ _ _ _ c.loop-steps.invariant.2 (still_open c.requires.0 c.loop-steps.invariant.0 c.loop-steps.invariant.1 refl refl) _ _ c.loop-steps-test.true c.claim.ensures (c.in-Ok-Taken.is ∙ ap Ok c.in-Ok-Taken.field-0-is) c.taken_on.ensures ∙ c.loop-steps.invariant.4

pub returns-in-Err : goal.returns-in-Err
returns-in-Err c = simp c.stands.ensures (child_stands _ _ _ _ _ _ c.loop-steps.invariant.2 (still_open c.requires.0 c.loop-steps.invariant.0 c.loop-steps.invariant.1 refl refl) _ _ c.loop-steps-test.true c.claim.ensures c.in-Err.is ∙ c.loop-steps.invariant.4)

pub overflow_add-child : goal.overflow_add-child
overflow_add-child c = let l = child_few _ _ _ _ _ _ c.loop-steps.invariant.2 in omega arith

pub returns-then-child-start : goal.returns-then-child-start
returns-then-child-start c =
    let f : Turned c.args.shape c.args.cpu c.args.order c.args.tree c.args.start c.loop-steps.child c.loop-steps.invariant.2 c.if-child-width.child =
    elim c.if-child-width.branch [
      | then-child-width w ↦ turned_round _ _ _ _ _ _ c.loop-steps.invariant.2 c.children_of-width.ensures w.if-child-width.true w.child-is
      | else-child-width w ↦ turned_on _ _ _ _ _ _ c.loop-steps.invariant.2 c.children_of-width.ensures w.if-child-width.false w.child-is
    ] in
    simp c.stands-then-child-start.ensures (search_fails _ _ _ _ _ _ c.loop-steps.invariant.2 (still_open c.requires.0 c.loop-steps.invariant.0 c.loop-steps.invariant.1 refl refl) _ _ c.loop-steps-test.true c.claim.ensures (c.in-Ok-Passed.is ∙ ap Ok c.in-Ok-Passed.field-0-is) f c.if-child-start.true ∙ c.loop-steps.invariant.4)

pub loop-steps-preserved : goal.loop-steps-preserved
loop-steps-preserved c =
    let f : Turned c.args.shape c.args.cpu c.args.order c.args.tree c.args.start c.loop-steps.child c.loop-steps.invariant.2 c.if-child-width.child =
    elim c.if-child-width.branch [
      | then-child-width w ↦ turned_round _ _ _ _ _ _ c.loop-steps.invariant.2 c.children_of-width.ensures w.if-child-width.true w.child-is
      | else-child-width w ↦ turned_on _ _ _ _ _ _ c.loop-steps.invariant.2 c.children_of-width.ensures w.if-child-width.false w.child-is
    ] in
    let l = c.loop-steps.auto.steps in
    let k = c.loop-steps-test.true in
    (search rules, search rules, f.inside, (λ m. omega arith), search_goes _ _ _ _ _ _ c.loop-steps.invariant.2 (still_open c.requires.0 c.loop-steps.invariant.0 c.loop-steps.invariant.1 refl refl) _ _ c.loop-steps-test.true c.claim.ensures (c.in-Ok-Passed.is ∙ ap Ok c.in-Ok-Passed.field-0-is) f c.if-child-start.false ∙ c.loop-steps.invariant.4)

pub returns : goal.returns
unfolding went_to
returns c =
    let e = c.max.ensures ∙ counted_to _ _ _ c.loop-steps.auto.steps-end c.loop-steps.invariant.3 c.loop-steps-test.false in
    simp (c.stands-2.ensures, e) c.loop-steps.invariant.4
