use Rattle.records.proofs.Packed.{first_join}
use Rattle.records.proofs.join_first.Goals as goal

pub returns : goal.returns
returns c = first_join c.args.stage c.args.cpu c.args.order c.args.kind c.args.start c.args.child c.args.word c.ranges.stage.fits c.ranges.cpu.fits c.ranges.order.fits c.ranges.kind.fits c.ranges.start.fits c.ranges.child.fits c.ranges.word.fits
