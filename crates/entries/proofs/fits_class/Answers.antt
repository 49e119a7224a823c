use Rattle.entries.proofs.Trees.{near_fits, partial_low, partial_fits, free_fits, any_fits}
use Rattle.entries.proofs.fits_class.Goals as goal

pub returns-then-count-lt-LOW_EDGE : goal.returns-then-count-lt-LOW_EDGE
returns-then-count-lt-LOW_EDGE c = partial_low _ c.in-Partial.is c.if-count-lt-LOW_EDGE.true

pub returns-in-Near : goal.returns-in-Near
returns-in-Near c = near_fits _ c.in-Near.is

pub returns-else-count-lt-LOW_EDGE : goal.returns-else-count-lt-LOW_EDGE
returns-else-count-lt-LOW_EDGE c = partial_fits _ c.in-Partial.is c.if-count-lt-LOW_EDGE.false

pub returns-in-Free : goal.returns-in-Free
returns-in-Free c = free_fits _ c.in-Free.is

pub returns-in-Any : goal.returns-in-Any
returns-in-Any c = any_fits _ c.in-Any.is
