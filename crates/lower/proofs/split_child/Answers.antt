use Rattle.lower.proofs.Entries.{child_split}
use Rattle.lower.proofs.split_child.Goals as goal

pub returns : goal.returns
returns c = child_split c.args.entry c.ranges.entry.fits
