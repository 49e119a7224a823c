use Rattle.entries.proofs.Trees.{tree_split}
use Rattle.entries.proofs.split_tree.Goals as goal

pub returns : goal.returns
returns c = tree_split c.args.word c.ranges.word.fits
