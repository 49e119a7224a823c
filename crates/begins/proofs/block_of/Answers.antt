use native.Mathlib.Omega.{arith}
use Rattle.rules.proofs.Sizes.{size_some}
use Rattle.begins.proofs.Begun.{block_wrong, block_run, block_nine}
use Rattle.begins.proofs.block_of.Goals as goal

pub nonzero_rem-frame : goal.nonzero_rem-frame
nonzero_rem-frame c = omega (arith, c.frames.ensures, size_some c.args.order)

pub returns-then-frame-frames-ne0 : goal.returns-then-frame-frames-ne0
returns-then-frame-frames-ne0 c = block_wrong _ _ c.frames.ensures c.if-frame-frames-ne0.true

pub returns-in-Run : goal.returns-in-Run
returns-in-Run c = block_run _ _ c.frames.ensures c.if-frame-frames-ne0.false c.in-Run.is

pub returns-in-Nine : goal.returns-in-Nine
returns-in-Nine c = block_nine _ _ c.frames.ensures c.if-frame-frames-ne0.false c.in-Nine.is
