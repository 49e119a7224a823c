use Rattle.opening.proofs.Stages.{child_fails, child_next, child_last}
use Rattle.opening.proofs.recount.Goals as goal

pub returns-then-huge-huge_frames : goal.returns-then-huge-huge_frames
returns-then-huge-huge_frames c = child_next _ _ _ _ _ c.requires c.store_recount.ensures c.in-Ok.is c.huge_frames.ensures c.if-huge-huge_frames.true c.opening.ensures

pub returns-else-huge-huge_frames : goal.returns-else-huge-huge_frames
returns-else-huge-huge_frames c = child_last _ _ _ _ _ c.requires c.store_recount.ensures c.in-Ok.is c.huge_frames.ensures c.if-huge-huge_frames.false c.opening-in-Ok.ensures

pub returns-in-Err : goal.returns-in-Err
returns-in-Err c = child_fails _ _ _ _ _ c.requires c.store_recount.ensures c.in-Err.is c.from.ensures
