use native.Mathlib.Omega.{arith}
use Rattle.entries.proofs.Sizes.{capacity_most}
use Rattle.entries.proofs.Size.capacity_of.Goals as goal

pub overflow_mul-result : goal.overflow_mul-result
overflow_mul-result c = omega (arith, capacity_most c.args.self c.args.tree.0)
