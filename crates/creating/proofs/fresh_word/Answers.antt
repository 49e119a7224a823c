use native.Mathlib.Omega.{arith}
use Rattle.creating.proofs.Stages.{word_none, word_next, word_last}
use Rattle.creating.proofs.fresh_word.Goals as goal

pub returns-then-at-huge_frames : goal.returns-then-at-huge_frames
returns-then-at-huge_frames c = word_next _ _ _ _ (omega (arith, c.requires)) c.store_fresh_word.ensures c.huge_frames.ensures c.if-at-huge_frames.true c.creating.ensures

pub returns-else-at-huge_frames : goal.returns-else-at-huge_frames
returns-else-at-huge_frames c = word_last _ _ _ _ (omega (arith, c.requires)) c.store_fresh_word.ensures c.huge_frames.ensures c.if-at-huge_frames.false c.creating-in-Ok.ensures

pub returns-in-Err : goal.returns-in-Err
returns-in-Err c = word_none _ _ _ _ (omega (arith, c.requires)) c.store_fresh_word.ensures c.in-Err.is
