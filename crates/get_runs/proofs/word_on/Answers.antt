use mathlib.Core.Path.{refl, ◌∙◌}
use Rattle.laws.specs.Tests.{pick}
use Rattle.calls.specs.Results.{went_to}
use Rattle.upper.proofs.Runs.{still_open}
use Rattle.get_runs.proofs.Search.{word_stays, words_done, word_found, word_next, word_stands}
use borrow.Author.Rules.{rules}
use Rattle.get_runs.proofs.word_on.Goals as goal

pub loop-word-init : goal.loop-word-init
unfolding pick
loop-word-init c = (refl, refl)

pub returns-then-fuel-steps : goal.returns-then-fuel-steps
returns-then-fuel-steps c = simp c.at_word.ensures (word_stays _ _ _ _ _ _ _ _ _ c.loop-word.invariant.1 c.loop-word-test.true)

pub returns-in-Ok-Some : goal.returns-in-Ok-Some
unfolding went_to
returns-in-Ok-Some c = simp c.taken.ensures (word_found _ _ _ _ _ _ _ (still_open c.requires.0 c.loop-word.invariant.0 refl refl refl) c.requires.1 _ _ c.if-fuel-steps.false c.loop-word-test.true c.take_run.ensures _ c.in-Ok-Some.is c.in-Ok-Some.field-0-is c.frame_at-first.ensures refl ∙ c.loop-word.invariant.1)

pub returns-in-Err : goal.returns-in-Err
returns-in-Err c = simp c.at_word-in-Err.ensures (word_stands _ _ _ _ _ _ _ (still_open c.requires.0 c.loop-word.invariant.0 refl refl refl) c.requires.1 _ _ c.if-fuel-steps.false c.loop-word-test.true c.take_run.ensures c.in-Err.is ∙ c.loop-word.invariant.1)

pub loop-word-preserved : goal.loop-word-preserved
loop-word-preserved c = (search rules, word_next _ _ _ _ _ _ _ (still_open c.requires.0 c.loop-word.invariant.0 refl refl refl) c.requires.1 _ _ c.if-fuel-steps.false c.loop-word-test.true c.take_run.ensures c.in-Ok-None.is c.in-Ok-None.field-0-is ∙ c.loop-word.invariant.1)

pub returns : goal.returns
returns c = simp c.stands.ensures (words_done _ _ _ _ _ _ _ _ _ c.loop-word.invariant.1 c.loop-word-test.false)
