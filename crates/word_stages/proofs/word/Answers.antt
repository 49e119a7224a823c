use Rattle.word_stages.proofs.Rules.{word_made}
use Rattle.word_stages.proofs.word.Goals as goal

pub returns : goal.returns
returns c = word_made _ _ _ _ _ _ _ _ (rw c.tree.ensures at c.take_run-said.ensures) c.word_answer.ensures
