use mathlib.Core.Path.{sym, ◌∙◌}
use Rattle.rules.specs.Ranges.{open_range}
use Rattle.calls.proofs.Stored.{never_passes}
use Rattle.opening.proofs.Steps.{stage_ready, step_refused, step_out, step_acts}
use Rattle.opening.proofs.open_step.Goals as goal

pub open_stage-requires : goal.open_stage-requires
open_stage-requires c = stage_ready _ _ _ _ _ (sym c.check.ensures ∙ c.in-Ok.is) _ c.opening_in.ensures c.if-opening_in.true

pub returns-then-opening_in : goal.returns-then-opening_in
returns-then-opening_in c = step_acts _ _ _ _ _ _ (sym c.check.ensures ∙ c.in-Ok.is) c.in-Open.is c.opening_in.ensures c.if-opening_in.true c.open_stage.ensures

pub returns-in-Err : goal.returns-in-Err
returns-in-Err c = step_refused _ _ _ _ _ _ (sym c.check.ensures ∙ c.in-Err.is)

pub returns-in-Finished : goal.returns-in-Finished
unfolding open_range
returns-in-Finished c = step_out _ _ _ _ _ _ (sym c.check.ensures ∙ c.in-Ok.is) c.in-Finished.is never_passes

pub returns-in-Get : goal.returns-in-Get
unfolding open_range
returns-in-Get c = step_out _ _ _ _ _ _ (sym c.check.ensures ∙ c.in-Ok.is) c.in-Get.is never_passes

pub returns-in-Put : goal.returns-in-Put
unfolding open_range
returns-in-Put c = step_out _ _ _ _ _ _ (sym c.check.ensures ∙ c.in-Ok.is) c.in-Put.is never_passes

pub returns-in-Create : goal.returns-in-Create
unfolding open_range
returns-in-Create c = step_out _ _ _ _ _ _ (sym c.check.ensures ∙ c.in-Ok.is) c.in-Create.is never_passes

pub returns-else-opening_in : goal.returns-else-opening_in
unfolding open_range
returns-else-opening_in c = step_out _ _ _ _ _ _ (sym c.check.ensures ∙ c.in-Ok.is) c.in-Open.is (sym c.opening_in.ensures ∙ c.if-opening_in.false)
