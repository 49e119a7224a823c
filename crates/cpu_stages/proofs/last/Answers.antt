use Rattle.places.proofs.Blocks.{block_out}
use Rattle.cpu_stages.proofs.Rules.{last_rule}
use Rattle.cpu_stages.proofs.last.Goals as goal

pub returns-in-None : goal.returns-in-None
returns-in-None c = block_out _ _ _ _ c.block_at.ensures c.in-None.is

pub returns-in-Some : goal.returns-in-Some
returns-in-Some c = last_rule _ _ _ _ c.block_at.ensures c.in-Some.is c.first.ensures c.set_start-said.ensures c.held_answer.ensures
