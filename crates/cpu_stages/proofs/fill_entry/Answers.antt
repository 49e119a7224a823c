use Rattle.cpu_stages.proofs.Rules.{fill_rule}
use Rattle.cpu_stages.proofs.fill_entry.Goals as goal

pub returns : goal.returns
returns c = fill_rule _ _ _ _ _ _ c.get.ensures c.get-2.ensures c.add_own-said.ensures c.held_answer.ensures
