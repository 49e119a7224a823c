use Rattle.tree_stages.proofs.Rules.{take_count_rule}
use Rattle.tree_stages.proofs.take_count.Goals as goal

pub returns : goal.returns
returns c = take_count_rule _ _ _ _ _ c.take_count-said.ensures c.take_count_answer.ensures
