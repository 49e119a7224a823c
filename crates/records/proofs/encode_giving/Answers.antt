use Rattle.records.specs.Encoding.{fields_of, giving_fields}
use Rattle.records.proofs.encode_giving.Goals as goal

pub returns-in-Clear : goal.returns-in-Clear
unfolding fields_of giving_fields
returns-in-Clear c = rw c.in-Clear.is c.blocked.ensures

pub returns-in-Raise : goal.returns-in-Raise
unfolding fields_of giving_fields
returns-in-Raise c = rw c.in-Raise.is c.blocked-in-Raise.ensures

pub returns-in-ToEntry : goal.returns-in-ToEntry
unfolding fields_of giving_fields
returns-in-ToEntry c = rw c.in-ToEntry.is c.blocked-in-ToEntry.ensures

pub returns-in-ToTree : goal.returns-in-ToTree
unfolding fields_of giving_fields
returns-in-ToTree c = rw c.in-ToTree.is c.blocked-in-ToTree.ensures
