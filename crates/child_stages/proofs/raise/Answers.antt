use mathlib.Core.Path.{refl}
use Rattle.rules.specs.Give.{give}
use Rattle.rules.specs.Lower.{give_count}
use Rattle.rules.specs.Plan.{plain}
use Rattle.child_stages.specs.Tables.{in_children}
use Rattle.places.proofs.Blocks.{block_out}
use Rattle.child_stages.proofs.Rules.{given_there}
use Rattle.lending.proofs.Lending.{count_same}
use Rattle.rules.specs.Blocks.{run_size}
use Rattle.child_stages.proofs.raise.Goals as goal

pub returns-in-None : goal.returns-in-None
returns-in-None c = block_out _ _ _ _ c.block_at.ensures c.in-None.is

pub returns-in-Some : goal.returns-in-Some
unfolding give in_children
returns-in-Some c = given_there _ _ _ _ c.block_at.ensures c.in-Some.is _ plain (rw c.put.ensures at c.given_answer.ensures) (give_count (run_size c.args.run)) (count_same _ plain _) (rw c.frames.ensures at c.give_count-said.ensures) refl
