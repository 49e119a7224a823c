use Rattle.cpu_stages.proofs.Rules.{write_rule, write_short, write_none}
use Rattle.cpu_stages.proofs.write.Goals as goal

pub returns-then-cpus-cpu : goal.returns-then-cpus-cpu
returns-then-cpus-cpu c = write_none _ _ _ _ _ _ c.if-cpus-cpu.true

pub returns-then-hand-frames : goal.returns-then-hand-frames
returns-then-hand-frames c = write_short _ _ _ _ _ _ _ c.frames-frames.ensures c.if-hand-frames.true c.if-cpus-cpu.false

pub returns : goal.returns
returns c = write_rule _ _ _ _ _ _ _ _ c.frames-frames.ensures c.tree.ensures c.if-hand-frames.false c.write-said.ensures c.write_answer.ensures
