use Rattle.places.proofs.Blocks.{block_out}
use Rattle.cpu_stages.proofs.Rules.{to_entry_rule}
use Rattle.cpu_stages.proofs.to_entry.Goals as goal

pub returns-in-None : goal.returns-in-None
returns-in-None c = block_out _ _ _ _ c.block_at.ensures c.in-None.is

pub returns-in-Some : goal.returns-in-Some
returns-in-Some c = to_entry_rule _ _ _ _ c.block_at.ensures c.in-Some.is c.first.ensures c.frames.ensures c.put.ensures c.add_own-said.ensures c.held_answer.ensures
