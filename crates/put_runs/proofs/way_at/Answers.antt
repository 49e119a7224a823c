use mathlib.Core.Path.{refl, ◌∙◌}
use native.Mathlib.Omega.{arith}
use Rattle.put_runs.proofs.Steps.{steps_few}
use Rattle.put_runs.proofs.way_at.Goals as goal

pub overflow_add-entry : goal.overflow_add-entry
overflow_add-entry c = let l = steps_few c.args.block c.steps_to_entry-entry.ensures in omega arith

pub overflow_add-entry-in-InEntry : goal.overflow_add-entry-in-InEntry
overflow_add-entry-in-InEntry c = let l = steps_few c.args.block c.steps_to_entry-entry.ensures in omega arith

pub overflow_add-entry-in-InTree : goal.overflow_add-entry-in-InTree
overflow_add-entry-in-InTree c = let l = steps_few c.args.block c.steps_to_entry-entry.ensures in omega arith

pub returns-in-Clear : goal.returns-in-Clear
returns-in-Clear c = rw c.in-Clear.is c.goes.ensures

pub returns-in-Run : goal.returns-in-Run
returns-in-Run c = rw (c.in-Raise.is, c.in-Run.is) c.goes-in-Run.ensures

pub returns-in-Whole : goal.returns-in-Whole
returns-in-Whole c = rw c.in-Raise.is (c.goes-in-Whole.ensures ∙ (rw c.in-Whole.is refl))

pub returns-in-ToEntry : goal.returns-in-ToEntry
returns-in-ToEntry c = rw c.in-ToEntry.is (rw c.steps_to_entry-entry.ensures at c.goes-in-ToEntry.ensures)

pub returns-in-ToTree : goal.returns-in-ToTree
returns-in-ToTree c = rw c.in-ToTree.is (rw c.steps_to_entry-entry.ensures at c.goes-in-ToTree.ensures)

pub returns-in-InEntry : goal.returns-in-InEntry
returns-in-InEntry c = rw c.in-InEntry.is (rw c.steps_to_entry-entry.ensures at c.ends.ensures)

pub returns-in-InTree : goal.returns-in-InTree
returns-in-InTree c = rw c.in-InTree.is (rw c.steps_to_entry-entry.ensures at c.ends-in-InTree.ensures)
