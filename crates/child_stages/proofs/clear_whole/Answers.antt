use mathlib.Core.Path.{refl}
use Rattle.rules.specs.Give.{clear, give}
use Rattle.rules.specs.Lower.{clear_huge}
use Rattle.rules.specs.Plan.{clears}
use Rattle.child_stages.specs.Tables.{in_children}
use Rattle.places.proofs.Blocks.{block_out}
use Rattle.child_stages.proofs.Rules.{given_there}
use Rattle.lending.proofs.Lending.{huge_same}
use Rattle.child_stages.proofs.clear_whole.Goals as goal

pub returns-in-None : goal.returns-in-None
returns-in-None c = block_out _ _ _ _ c.block_at.ensures c.in-None.is

pub returns-in-Some : goal.returns-in-Some
unfolding give clear in_children
returns-in-Some c = given_there _ _ _ _ c.block_at.ensures c.in-Some.is _ (clears _) (rw c.put.ensures at c.given_answer.ensures) clear_huge (huge_same _ (clears _)) c.clear_huge-said.ensures refl
