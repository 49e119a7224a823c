use Rattle.std.specs.Prelude.{Ok}
use Rattle.std.proofs.lemmas.Result.{err_from_is_err_and}
use mathlib.Core.Path.{◌≡◌, refl, ap, ◌∙◌}
use native.Mathlib.Omega.{arith}
use lib.ListN.{length}
use Rattle.rules.specs.Lower.{take_run}
use Rattle.lower.specs.Search.{next_of}
use Rattle.lower.proofs.Tables.{step_length}
use Rattle.lower.proofs.Searches.{search_too_many, search_no_child, search_no_field, next_wraps, next_follows, words_start, words_full, turns_start, turns_end, turns_refused, turns_passed, turns_found, turns_given}
use Rattle.lower.proofs.search.Goals as goal
use Rattle.lower.proofs.search.Goals.{then-child-n, else-child-n, in-Taken+else-loop-word-test, in-Passed}

pub returns-then-n-gt-MOST_CHILDREN : goal.returns-then-n-gt-MOST_CHILDREN
returns-then-n-gt-MOST_CHILDREN c = search_too_many _ _ _ _ c.if-n-gt-MOST_CHILDREN.true

pub returns-then-n-start : goal.returns-then-n-start
returns-then-n-start c = search_no_child _ _ _ _ c.if-n-gt-MOST_CHILDREN.false c.if-n-start.true

pub returns-then-words-n : goal.returns-then-words-n
returns-then-words-n c = search_no_field _ _ _ _ c.if-n-gt-MOST_CHILDREN.false c.if-n-start.false c.if-words-n.true

pub children-init : goal.children-init
children-init c = turns_start _ _ _ _ c.if-n-gt-MOST_CHILDREN.false c.if-n-start.false c.if-words-n.false

pub loop-word-init : goal.loop-word-init
loop-word-init c = words_start _ _ _ _ _

pub take_at-requires : goal.take_at-requires
take_at-requires c = omega (arith, ap length c.loop-word.invariant.same_words)

pub loop-word-preserved : goal.loop-word-preserved
loop-word-preserved c =
    words_full c.loop-word.invariant c.loop-word-test.true c.take_at.ensures c.in_default.is

pub children-preserved : goal.children-preserved
children-preserved c =
    let i = c.children.invariant in
    let h = c.children-test.true in
    let q = c.frames-size.ensures in
    let e = c.in_ok-claim.ensures in
    let t : c.if-child-n.child ≡ next_of (length c.args.children.now) c.children.child =
    elim c.if-child-n.branch [ then-child-n w ↦ next_wraps _ _ _ w.if-child-n.true w.child-is | else-child-n w ↦ next_follows _ _ _ w.if-child-n.false w.child-is ] in
    rw t (elim c.match-branch-2.branch [
      | in-Taken+else-loop-word-test w ↦ rw (w.children-is, w.words-is, w.found-is) (turns_given i h q e (ap Ok w.in-Taken.is) w.loop-word.invariant w.loop-word-test.false w.give_count.ensures)
      | in-Passed w ↦ rw (w.children-is, w.words-is, w.found-is) (turns_passed i h q e (ap Ok w.in-Passed.is))
    ])

pub shape_of-children-after-children : goal.shape_of-children-after-children
shape_of-children-after-children c = c.children.invariant.all

pub shape_of-words-after-children : goal.shape_of-words-after-children
shape_of-words-after-children c = c.children.invariant.words_all

pub returns-after-children : goal.returns-after-children
returns-after-children c = turns_end c.children.invariant c.children-test.false

pub shape_of-children-in-Some : goal.shape_of-children-in-Some
shape_of-children-in-Some c =
    c.claim.auto.children ∙ c.children.invariant.all

pub shape_of-words-in-Some : goal.shape_of-words-in-Some
shape_of-words-in-Some c =
    step_length (take_run _) _ _ c.take_at.ensures ∙ ap length c.loop-word.invariant.same_words ∙ c.children.invariant.words_all

pub returns-in-Some : goal.returns-in-Some
returns-in-Some c =
    turns_found c.children.invariant c.children-test.true c.frames-size.ensures c.in_ok-claim.ensures (ap Ok c.in-Taken.is)
    c.loop-word.invariant c.loop-word-test.true c.take_at.ensures _ c.in-Some.is c.frame_at.ensures

pub returns-in_err-claim : goal.returns-in_err-claim
returns-in_err-claim c =
    let p = err_from_is_err_and c.from_residual.result c.from_residual.ensures.1 in
    rw (p.1, p.2) (turns_refused c.children.invariant c.children-test.true c.frames-size.ensures c.in_err-claim.ensures refl)
