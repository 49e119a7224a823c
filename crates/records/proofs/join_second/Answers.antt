use Rattle.records.proofs.Packed.{second_join}
use Rattle.records.proofs.join_second.Goals as goal

pub returns : goal.returns
returns c = second_join c.args.tree c.args.base c.args.hand c.args.from c.ranges.tree.fits c.ranges.base.fits c.ranges.hand.fits c.ranges.from.fits
