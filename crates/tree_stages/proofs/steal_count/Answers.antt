use Rattle.tree_stages.proofs.Rules.{steal_count_rule}
use Rattle.tree_stages.proofs.steal_count.Goals as goal

pub returns : goal.returns
returns c = steal_count_rule _ _ _ _ _ _ _ c.take_with-said.ensures c.steal_count_answer.ensures
