use Rattle.rules.specs.Blocks.{run_size}
use mathlib.Core.Path.{refl}
use native.Mathlib.Omega.{arith}
use Rattle.rules.specs.Give.{clear, give}
use Rattle.rules.specs.Plan.{clears}
use Rattle.word_stages.specs.Tables.{in_words}
use Rattle.places.proofs.Blocks.{block_out}
use Rattle.word_stages.proofs.Rules.{cleared_there, run_fits}
use Rattle.word_stages.proofs.clear.Goals as goal

pub returns-in-None : goal.returns-in-None
returns-in-None c = block_out _ _ _ _ c.block_at.ensures c.in-None.is

pub returns-in-Some : goal.returns-in-Some
unfolding give clear in_words
returns-in-Some c = cleared_there _ _ _ _ c.block_at.ensures c.in-Some.is _ (clears _) (rw c.put.ensures at c.given_answer.ensures) (run_size _) _ (omega arith) (run_fits _ _ _ c.block_at.ensures c.in-Some.is) c.clear_run-said.ensures refl
