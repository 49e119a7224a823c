use mathlib.Core.Path.{sym, ap}
use native.Mathlib.Omega.{arith}
use Rattle.rules.specs.Blocks.{huge_of_block}
use Rattle.places.proofs.Next.{huge_in_lem}
use Rattle.places.proofs.Shape.huge_number.Goals as goal

pub overflow_cast-result : goal.overflow_cast-result
overflow_cast-result c = omega (arith, huge_in_lem c.args.self c.args.block c.requires, ap (λ b. (huge_of_block b).0) c.in-Run.is)

pub returns-in-Run : goal.returns-in-Run
returns-in-Run c = sym (ap (λ b. (huge_of_block b).0) c.in-Run.is)
