use native.Mathlib.Omega.{arith}
use Rattle.creating.proofs.Stages.{child_none, child_next, child_last}
use Rattle.creating.proofs.fresh_child.Goals as goal

pub returns-then-huge-huge_frames : goal.returns-then-huge-huge_frames
returns-then-huge-huge_frames c = child_next _ _ _ _ (omega (arith, c.requires)) c.store_fresh_child.ensures c.huge_frames.ensures c.if-huge-huge_frames.true c.creating.ensures

pub returns-else-huge-huge_frames : goal.returns-else-huge-huge_frames
returns-else-huge-huge_frames c = child_last _ _ _ _ (omega (arith, c.requires)) c.store_fresh_child.ensures c.huge_frames.ensures c.if-huge-huge_frames.false c.creating-in-Ok.ensures

pub returns-in-Err : goal.returns-in-Err
returns-in-Err c = child_none _ _ _ _ (omega (arith, c.requires)) c.store_fresh_child.ensures c.in-Err.is
