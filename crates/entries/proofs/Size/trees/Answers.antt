use Rattle.entries.proofs.Sizes.{trees_code}
use Rattle.entries.proofs.Size.trees.Goals as goal

pub returns : goal.returns
returns c = trees_code c.args.self
