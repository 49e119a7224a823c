use native.Mathlib.Omega.{arith}
use Rattle.opening.proofs.Stages.{cpu_none, cpu_next, cpu_last}
use Rattle.opening.proofs.forget.Goals as goal

pub returns-then-cpu-shape : goal.returns-then-cpu-shape
returns-then-cpu-shape c = cpu_next _ _ _ _ (omega (arith, c.requires)) c.store_absent.ensures c.if-cpu-shape.true c.opening.ensures

pub returns-else-cpu-shape : goal.returns-else-cpu-shape
returns-else-cpu-shape c = cpu_last _ _ _ _ (omega (arith, c.requires)) c.store_absent.ensures c.if-cpu-shape.false

pub returns-in-Err : goal.returns-in-Err
returns-in-Err c = cpu_none _ _ _ _ (omega (arith, c.requires)) c.store_absent.ensures c.in-Err.is
