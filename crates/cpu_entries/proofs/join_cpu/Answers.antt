use Rattle.cpu_entries.proofs.Cpus.{cpu_join}
use Rattle.cpu_entries.proofs.join_cpu.Goals as goal

pub returns : goal.returns
returns c = cpu_join c.args.tree.0 c.args.start c.args.count c.requires.0 c.requires.1 c.requires.2
