use Rattle.rules.specs.Ranges.{giving_in}
use Rattle.places.proofs.Shape.giving_in.Goals as goal

pub returns-in-Clear : goal.returns-in-Clear
unfolding giving_in
returns-in-Clear c = rw c.in-Clear.is c.block_in.ensures

pub returns-in-Raise : goal.returns-in-Raise
unfolding giving_in
returns-in-Raise c = rw c.in-Raise.is c.run_in.ensures

pub returns-in-ToEntry : goal.returns-in-ToEntry
unfolding giving_in
returns-in-ToEntry c = rw c.in-ToEntry.is c.block_in-in-ToEntry.ensures

pub returns-in-ToTree : goal.returns-in-ToTree
unfolding giving_in
returns-in-ToTree c = rw c.in-ToTree.is c.block_in-in-ToTree.ensures
