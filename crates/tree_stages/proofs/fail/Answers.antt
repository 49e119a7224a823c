use Rattle.tree_stages.proofs.Rules.{fail_rule}
use Rattle.tree_stages.proofs.fail.Goals as goal

pub returns : goal.returns
returns c = fail_rule _ _ _ _ _ _ _ c.frames.ensures c.tree.ensures c.get.ensures c.add_count-said.ensures c.given_answer.ensures
