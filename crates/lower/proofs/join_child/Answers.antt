use Rattle.lower.proofs.Entries.{child_join}
use Rattle.lower.proofs.join_child.Goals as goal

pub returns : goal.returns
returns c = child_join c.args.a c.args.count c.requires.0 c.requires.1
