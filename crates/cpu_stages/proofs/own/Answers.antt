use Rattle.cpu_stages.proofs.Rules.{own_rule}
use Rattle.cpu_stages.proofs.own.Goals as goal

pub returns : goal.returns
returns c = own_rule _ _ _ _ _ c.frames.ensures c.claim_own-said.ensures c.own_answer.ensures
