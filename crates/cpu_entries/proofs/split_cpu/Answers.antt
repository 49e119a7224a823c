use Prim.Native.Nat.{◌/◌, ◌^◌}
use native.Mathlib.Omega.{arith}
use lib.Bits.{mask_lt}
use Rattle.cpu_entries.proofs.Cpus.{cpu_split}
use Rattle.cpu_entries.proofs.split_cpu.Goals as goal

pub overflow_cast-result : goal.overflow_cast-result
overflow_cast-result c = omega (arith, mask_lt (c.args.word / 2 ^ 52) 11)

pub overflow_cast-result-2 : goal.overflow_cast-result-2
overflow_cast-result-2 c = omega (arith, mask_lt (c.args.word / 2 ^ 47) 5)

pub overflow_cast-result-3 : goal.overflow_cast-result-3
overflow_cast-result-3 c = omega (arith, mask_lt (c.args.word / 2 ^ 32) 15)

pub returns : goal.returns
returns c = cpu_split c.args.word c.ranges.word.fits
