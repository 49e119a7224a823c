use Rattle.entries.proofs.Headers.{header_split}
use Rattle.entries.proofs.split_header.Goals as goal

pub returns : goal.returns
returns c = header_split c.args.word c.ranges.word.fits
