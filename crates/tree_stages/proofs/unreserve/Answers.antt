use Rattle.calls.proofs.Answered.{goes_on_lem}
use Rattle.tree_stages.proofs.Rules.{unreserve_rule}
use Rattle.tree_stages.proofs.unreserve.Goals as goal

pub returns : goal.returns
returns c = unreserve_rule _ _ _ _ _ _ _ c.tree.ensures (goes_on_lem c.get.ensures c.after_place.ensures) c.unreserve-said.ensures c.given_answer.ensures
