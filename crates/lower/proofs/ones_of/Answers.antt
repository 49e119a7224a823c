use Rattle.lower.proofs.Leaf.{ones_low}
use Rattle.lower.proofs.ones_of.Goals as goal

pub returns : goal.returns
returns c = ones_low _ c.requires.1
