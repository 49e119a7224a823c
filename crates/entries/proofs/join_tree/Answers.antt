use Rattle.entries.proofs.Trees.{tree_join}
use Rattle.entries.proofs.join_tree.Goals as goal

pub returns : goal.returns
returns c = tree_join c.args.reserved c.args.count c.requires.0 c.requires.1
