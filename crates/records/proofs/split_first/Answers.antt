use Prim.Native.Nat.{◌/◌, ◌^◌}
use native.Mathlib.Omega.{arith}
use lib.Bits.{mask_lt}
use Rattle.records.proofs.Packed.{first_split}
use Rattle.records.proofs.split_first.Goals as goal

pub overflow_cast-result-2 : goal.overflow_cast-result-2
overflow_cast-result-2 c = omega (arith, mask_lt (c.args.first / 2 ^ 48) 8)

pub overflow_cast-result-3 : goal.overflow_cast-result-3
overflow_cast-result-3 c = omega (arith, mask_lt (c.args.first / 2 ^ 40) 8)

pub overflow_cast-result-4 : goal.overflow_cast-result-4
overflow_cast-result-4 c = omega (arith, mask_lt (c.args.first / 2 ^ 32) 8)

pub overflow_cast-result-5 : goal.overflow_cast-result-5
overflow_cast-result-5 c = omega (arith, mask_lt (c.args.first / 2 ^ 24) 8)

pub overflow_cast-result-6 : goal.overflow_cast-result-6
overflow_cast-result-6 c = omega (arith, mask_lt (c.args.first / 2 ^ 16) 8)

pub overflow_cast-result-7 : goal.overflow_cast-result-7
overflow_cast-result-7 c = omega (arith, mask_lt (c.args.first / 2 ^ 8) 8)

pub returns : goal.returns
returns c = first_split c.args.first c.ranges.first.fits
