use Rattle.tree_stages.proofs.Rules.{steal_enough, steal_short}
use Rattle.tree_stages.proofs.steal_count_answer.Goals as goal

pub returns-then-hand-frames : goal.returns-then-hand-frames
returns-then-hand-frames c = rw c.in-Ok.is (steal_short _ _ _ _ _ _ _ c.frames.ensures c.if-hand-frames.true c.get.ensures)

pub returns-else-hand-frames : goal.returns-else-hand-frames
returns-else-hand-frames c = rw c.in-Ok.is (steal_enough _ _ _ _ _ _ _ c.frames.ensures c.if-hand-frames.false c.get-in-Ok.ensures)
