use Rattle.cpu_stages.proofs.Rules.{again_rule}
use Rattle.cpu_stages.proofs.look_again.Goals as goal

pub returns : goal.returns
returns c = again_rule _ _ _ _ _ _ c.frames.ensures c.claim_or_release-said.ensures c.again_answer.ensures
