use mathlib.Core.Path.{ap, ◌∙◌}
use Rattle.std.specs.Prelude.{Err}
use Rattle.std.proofs.lemmas.Result.{err_from_is_err_and}
use Rattle.closing.proofs.Judged.{found_refused, found_fits, found_damaged, found_unsettled, found_settled}
use Rattle.closing.proofs.judge.Goals as goal

pub returns-in_err-shape : goal.returns-in_err-shape
returns-in_err-shape c = let p = err_from_is_err_and c.from_residual.result c.from_residual.ensures.1 in p.1 ∙ ap Err p.2 ∙ found_refused _ _ _ _ _ c.check.ensures c.in_err-shape.was

pub sound-requires : goal.sound-requires
sound-requires c = found_fits _ _ _ _ _ c.check.ensures c.in_ok-shape.was

pub returns-then-not-sound : goal.returns-then-not-sound
returns-then-not-sound c = found_damaged _ _ _ _ _ c.check.ensures c.in_ok-shape.was c.sound.ensures c.if-not-sound.true

pub all_settled-requires : goal.all_settled-requires
all_settled-requires c = found_fits _ _ _ _ _ c.check.ensures c.in_ok-shape.was

pub returns-then-not-all_settled : goal.returns-then-not-all_settled
returns-then-not-all_settled c = found_unsettled _ _ _ _ _ c.check.ensures c.in_ok-shape.was c.sound.ensures c.if-not-sound.false c.all_settled.ensures c.if-not-all_settled.true

pub returns : goal.returns
returns c = found_settled _ _ _ _ _ c.check.ensures c.in_ok-shape.was c.sound.ensures c.if-not-sound.false c.all_settled.ensures c.if-not-all_settled.false
