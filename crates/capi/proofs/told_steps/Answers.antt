use Rattle.capi.proofs.Calls.{followed_so}
use Rattle.capi.proofs.told_steps.Goals as goal

pub returns : goal.returns
returns c = followed_so _ _ _ _ c.requires c.step_on-ended.ensures c.told_run.ensures
