use Rattle.put_runs.proofs.cleared_on.Goals as goal

pub clear_on-requires : goal.clear_on-requires
clear_on-requires c = (c.requires.0, c.requires.1, rw c.in-Run.is at c.requires.2)

pub whole_on-requires : goal.whole_on-requires
whole_on-requires c = (c.requires.0, c.requires.1, rw c.in-Whole.is at c.requires.2)

pub returns-in-Run : goal.returns-in-Run
returns-in-Run c = rw c.in-Run.is c.clear_on.ensures

pub returns-in-Whole : goal.returns-in-Whole
returns-in-Whole c = rw c.in-Whole.is c.whole_on.ensures
