use Rattle.rules.specs.Lower.{by_child, count_in}
use Rattle.lower.proofs.count_of.Goals as goal

pub returns-in-Some-Counts : goal.returns-in-Some-Counts
unfolding count_in by_child
returns-in-Some-Counts c = rw (← c.in-Some-Counts.ensures, c.in-Some-Counts.field-0-is)

pub returns-in-Some-Flagged : goal.returns-in-Some-Flagged
unfolding count_in by_child
returns-in-Some-Flagged c = rw (← c.in-Some-Flagged.ensures, c.in-Some-Flagged.field-0-is)

pub returns-in-None : goal.returns-in-None
unfolding count_in by_child
returns-in-None c = rw (← c.in-None.ensures)
