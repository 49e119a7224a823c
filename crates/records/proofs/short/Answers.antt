use native.Mathlib.Omega.{arith}
use lib.Bits.{mask_lt, and_mask}
use Rattle.records.proofs.short.Goals as goal

pub overflow_cast-result : goal.overflow_cast-result
overflow_cast-result c = omega (arith, mask_lt c.args.second 32)

pub returns : goal.returns
returns c = and_mask c.args.second 32
