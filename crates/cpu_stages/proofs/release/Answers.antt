use Rattle.cpu_stages.proofs.Rules.{release_rule}
use Rattle.cpu_stages.proofs.release.Goals as goal

pub returns : goal.returns
returns c = release_rule _ _ _ _ _ _ c.tree.ensures c.release-said.ensures c.release_answer.ensures
