use Rattle.tree_stages.proofs.Rules.{return_rule}
use Rattle.tree_stages.proofs.return_hand.Goals as goal

pub returns : goal.returns
returns c = return_rule _ _ _ _ _ _ c.get.ensures c.add_count-said.ensures c.given_answer.ensures
