use Rattle.records.specs.Encoding.{fields_of, creating_fields}
use Rattle.records.proofs.encode_creating.Goals as goal

pub returns-in-Words : goal.returns-in-Words
unfolding fields_of creating_fields
returns-in-Words c = rw c.in-Words.is c.numbered.ensures

pub returns-in-Children : goal.returns-in-Children
unfolding fields_of creating_fields
returns-in-Children c = rw c.in-Children.is c.numbered-in-Children.ensures

pub returns-in-Trees : goal.returns-in-Trees
unfolding fields_of creating_fields
returns-in-Trees c = rw c.in-Trees.is (rw c.tree_spot.ensures at c.held.ensures)

pub returns-in-Cpus : goal.returns-in-Cpus
unfolding fields_of creating_fields
returns-in-Cpus c = rw c.in-Cpus.is c.held-in-Cpus.ensures

pub returns-in-Header : goal.returns-in-Header
unfolding fields_of creating_fields
returns-in-Header c = rw c.in-Header.is c.held-in-Header.ensures
