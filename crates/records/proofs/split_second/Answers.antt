use Prim.Native.Nat.{◌/◌, ◌^◌}
use native.Mathlib.Omega.{arith}
use lib.Bits.{mask_lt}
use Rattle.records.proofs.Packed.{second_split}
use Rattle.records.proofs.split_second.Goals as goal

pub overflow_cast-result-2 : goal.overflow_cast-result-2
overflow_cast-result-2 c = omega (arith, mask_lt (c.args.second / 2 ^ 32) 16)

pub overflow_cast-result-3 : goal.overflow_cast-result-3
overflow_cast-result-3 c = omega (arith, mask_lt (c.args.second / 2 ^ 16) 16)

pub overflow_cast-result-4 : goal.overflow_cast-result-4
overflow_cast-result-4 c = omega (arith, mask_lt (c.args.second / 2 ^ 8) 8)

pub returns : goal.returns
returns c = second_split c.args.second c.ranges.second.fits
