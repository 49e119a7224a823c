use native.Mathlib.Omega.{arith}
use Rattle.lower.proofs.Leaf.{passed_start, passed_all, passed_found, passed_more}
use Rattle.lower.proofs.take_low.Goals as goal

pub ones_of-ones-requires : goal.ones_of-ones-requires
ones_of-ones-requires c = (c.size_of-size.ensures.1, c.size_of-size.ensures.2)

pub loop-bit-init : goal.loop-bit-init
loop-bit-init c = passed_start _ _ c.ranges.word.fits c.size_of-size.ensures.0 c.ones_of-ones.ensures

pub returns-then-word-mask-eq0 : goal.returns-then-word-mask-eq0
returns-then-word-mask-eq0 c = passed_found _ _ c.ranges.word.fits c.size_of-size.ensures.0 c.ones_of-ones.ensures c.loop-bit.invariant c.loop-bit-test.true c.if-word-mask-eq0.true

pub loop-bit-preserved : goal.loop-bit-preserved
loop-bit-preserved c = passed_more _ _ c.ranges.word.fits c.size_of-size.ensures.0 c.ones_of-ones.ensures c.loop-bit.invariant c.loop-bit-test.true c.if-word-mask-eq0.false

pub returns : goal.returns
returns c = passed_all _ _ c.ranges.word.fits c.size_of-size.ensures.0 c.ones_of-ones.ensures c.loop-bit.invariant c.loop-bit-test.false

pub returns-else-word-mask-eq0 : goal.returns-else-word-mask-eq0
returns-else-word-mask-eq0 c =
    let p = passed_more _ _ c.ranges.word.fits c.size_of-size.ensures.0 c.ones_of-ones.ensures c.loop-bit.invariant c.loop-bit-test.true c.if-word-mask-eq0.false in
    passed_all _ _ c.ranges.word.fits c.size_of-size.ensures.0 c.ones_of-ones.ensures p (omega arith)
