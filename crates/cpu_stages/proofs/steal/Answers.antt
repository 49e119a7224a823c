use Rattle.cpu_stages.proofs.Rules.{steal_rule}
use Rattle.cpu_stages.proofs.steal.Goals as goal

pub returns : goal.returns
returns c = steal_rule _ _ _ _ _ c.steal-said.ensures c.steal_answer.ensures
