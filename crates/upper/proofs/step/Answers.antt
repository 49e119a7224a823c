use mathlib.Core.Path.{sym, ◌∙◌}
use Rattle.rules.specs.Ranges.{step_range}
use Rattle.rules.specs.Step.{act}
use Rattle.calls.proofs.Opened.{checked_open}
use Rattle.calls.proofs.Stored.{never_passes}
use Rattle.upper.proofs.Stepped.{step_refused, step_out, step_acts, cpu_out, stage_out, all_in}
use Rattle.upper.proofs.step.Goals as goal

pub returns-then-shape-cpu : goal.returns-then-shape-cpu
unfolding step_range
returns-then-shape-cpu c = step_out _ _ _ _ _ _ (sym c.check.ensures ∙ c.in-Ok.is) c.in-Get.is (cpu_out _ _ _ c.if-shape-cpu.true)

pub get_step-requires : goal.get_step-requires
get_step-requires c = ((checked_open _ _ _ _ _ (sym c.check.ensures ∙ c.in-Ok.is)).2, all_in _ _ _ c.if-shape-cpu.false c.taking_in.ensures c.if-taking_in.true)

pub returns-then-taking_in : goal.returns-then-taking_in
unfolding step_range act
returns-then-taking_in c = step_acts _ _ _ _ _ _ (sym c.check.ensures ∙ c.in-Ok.is) c.in-Get.is (all_in _ _ _ c.if-shape-cpu.false c.taking_in.ensures c.if-taking_in.true) c.get_step.ensures

pub returns-then-shape-cpu-2 : goal.returns-then-shape-cpu-2
unfolding step_range
returns-then-shape-cpu-2 c = step_out _ _ _ _ _ _ (sym c.check.ensures ∙ c.in-Ok.is) c.in-Put.is (cpu_out _ _ _ c.if-shape-cpu-2.true)

pub put_step-requires : goal.put_step-requires
put_step-requires c = ((checked_open _ _ _ _ _ (sym c.check.ensures ∙ c.in-Ok.is)).2, all_in _ _ _ c.if-shape-cpu-2.false c.giving_in.ensures c.if-giving_in.true)

pub returns-then-giving_in : goal.returns-then-giving_in
unfolding step_range act
returns-then-giving_in c = step_acts _ _ _ _ _ _ (sym c.check.ensures ∙ c.in-Ok.is) c.in-Put.is (all_in _ _ _ c.if-shape-cpu-2.false c.giving_in.ensures c.if-giving_in.true) c.put_step.ensures

pub returns-in-Err : goal.returns-in-Err
returns-in-Err c = step_refused _ _ _ _ _ _ (sym c.check.ensures ∙ c.in-Err.is)

pub returns-in-Finished : goal.returns-in-Finished
unfolding step_range
returns-in-Finished c = step_out _ _ _ _ _ _ (sym c.check.ensures ∙ c.in-Ok.is) c.in-Finished.is never_passes

pub returns-else-taking_in : goal.returns-else-taking_in
unfolding step_range
returns-else-taking_in c = step_out _ _ _ _ _ _ (sym c.check.ensures ∙ c.in-Ok.is) c.in-Get.is (stage_out _ _ _ c.taking_in.ensures c.if-taking_in.false)

pub returns-else-giving_in : goal.returns-else-giving_in
unfolding step_range
returns-else-giving_in c = step_out _ _ _ _ _ _ (sym c.check.ensures ∙ c.in-Ok.is) c.in-Put.is (stage_out _ _ _ c.giving_in.ensures c.if-giving_in.false)

pub returns-in-Create : goal.returns-in-Create
unfolding step_range
returns-in-Create c = step_out _ _ _ _ _ _ (sym c.check.ensures ∙ c.in-Ok.is) c.in-Create.is never_passes

pub returns-in-Open : goal.returns-in-Open
unfolding step_range
returns-in-Open c = step_out _ _ _ _ _ _ (sym c.check.ensures ∙ c.in-Ok.is) c.in-Open.is never_passes
