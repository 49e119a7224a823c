use Rattle.tree_stages.proofs.Rules.{try_rule}
use Rattle.tree_stages.proofs.try_tree.Goals as goal

pub returns : goal.returns
returns c = try_rule _ _ _ _ _ _ c.frames.ensures c.reserve-said.ensures c.try_answer.ensures
