use mathlib.Core.Path.{sym, ◌∙◌}
use Rattle.laws.proofs.Tests.{all_passed}
use Rattle.rules.specs.Ranges.{create_range}
use Rattle.rules.specs.Create.{create_act}
use Rattle.calls.proofs.Stored.{never_passes}
use Rattle.creating.proofs.Steps.{stage_ready, step_refused, step_out, step_acts}
use Rattle.creating.proofs.create_step.Goals as goal

pub create_stage-requires : goal.create_stage-requires
create_stage-requires c = stage_ready _ _ _ _ _ _ (sym c.creatable.ensures ∙ c.in-Ok.is) _ c.creating_in.ensures c.if-creating_in.true

pub returns-then-creating_in : goal.returns-then-creating_in
unfolding create_range create_act
returns-then-creating_in c = step_acts _ _ _ _ _ _ _ (sym c.creatable.ensures ∙ c.in-Ok.is) c.in-Create.is (all_passed _ (sym c.creating_in.ensures ∙ c.if-creating_in.true)) c.create_stage.ensures

pub returns-in-Err : goal.returns-in-Err
returns-in-Err c = step_refused _ _ _ _ _ _ _ (sym c.creatable.ensures ∙ c.in-Err.is)

pub returns-in-Finished : goal.returns-in-Finished
unfolding create_range
returns-in-Finished c = step_out _ _ _ _ _ _ _ (sym c.creatable.ensures ∙ c.in-Ok.is) c.in-Finished.is never_passes

pub returns-in-Get : goal.returns-in-Get
unfolding create_range
returns-in-Get c = step_out _ _ _ _ _ _ _ (sym c.creatable.ensures ∙ c.in-Ok.is) c.in-Get.is never_passes

pub returns-in-Put : goal.returns-in-Put
unfolding create_range
returns-in-Put c = step_out _ _ _ _ _ _ _ (sym c.creatable.ensures ∙ c.in-Ok.is) c.in-Put.is never_passes

pub returns-else-creating_in : goal.returns-else-creating_in
unfolding create_range
returns-else-creating_in c = step_out _ _ _ _ _ _ _ (sym c.creatable.ensures ∙ c.in-Ok.is) c.in-Create.is (sym c.creating_in.ensures ∙ c.if-creating_in.false)

pub returns-in-Open : goal.returns-in-Open
unfolding create_range
returns-in-Open c = step_out _ _ _ _ _ _ _ (sym c.creatable.ensures ∙ c.in-Ok.is) c.in-Open.is never_passes
