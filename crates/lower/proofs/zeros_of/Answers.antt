use native.Mathlib.Omega.{arith}
use lib.Count.{ones-le}
use Rattle.laws.proofs.Words.{zeros_ones}
use Rattle.lower.proofs.zeros_of.Goals as goal

pub overflow_sub-result : goal.overflow_sub-result
overflow_sub-result c = ones-le 64 c.args.word c.ranges.word.fits

pub returns : goal.returns
returns c = omega (arith, zeros_ones 64 c.args.word c.ranges.word.fits)
