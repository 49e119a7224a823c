use mathlib.Core.Path.{refl, ◌∙◌}
use Rattle.runs.proofs.Went.{way_ended, way_stepped}
use Rattle.capi.proofs.Calls.{followed_not, followed_so, followed_on}
use Rattle.capi.proofs.lovarntek_get_run.Goals as goal

pub returns-then-rec-ne-RECORD : goal.returns-then-rec-ne-RECORD
returns-then-rec-ne-RECORD c = followed_not _ _ _ _ c.if-rec-ne-RECORD.true c.no_record.ensures c.told_run.ensures

pub returns-in-Ends : goal.returns-in-Ends
returns-in-Ends c = followed_so _ _ _ _ c.if-rec-ne-RECORD.false (way_ended _ _ c.in-Ends.is ∙ c.get_run.ensures) c.told_run-in-Ends.ensures

pub returns-in-Goes : goal.returns-in-Goes
returns-in-Goes c = followed_on _ _ _ _ _ c.if-rec-ne-RECORD.false (way_stepped _ _ c.in-Goes.is refl ∙ c.get_run.ensures) c.told_steps.ensures
