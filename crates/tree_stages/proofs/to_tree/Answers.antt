use Rattle.places.proofs.Blocks.{block_out}
use Rattle.tree_stages.proofs.Rules.{to_tree_rule}
use Rattle.tree_stages.proofs.to_tree.Goals as goal

pub returns-in-None : goal.returns-in-None
returns-in-None c = block_out _ _ _ _ c.block_at.ensures c.in-None.is

pub returns-in-Some : goal.returns-in-Some
returns-in-Some c = to_tree_rule _ _ _ _ c.block_at.ensures c.in-Some.is c.first.ensures c.frames.ensures c.add_count-said.ensures c.given_answer.ensures
