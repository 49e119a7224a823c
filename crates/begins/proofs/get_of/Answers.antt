use mathlib.Core.Path.{sym, ◌∙◌}
use native.Mathlib.Omega.{arith}
use Rattle.std.proofs.lemmas.Result.{err_from_is_err_and}
use Rattle.begins.proofs.Begun.{order_refused, get_refused, get_bad_cpu, get_bad_order, get_begun}
use Rattle.begins.proofs.get_of.Goals as goal

pub returns-in_err-shape : goal.returns-in_err-shape
returns-in_err-shape c = let p = err_from_is_err_and c.from_residual.result c.from_residual.ensures.1 in rw (p.1, p.2) (record { come = get_refused _ _ _ _ _ _ _ (sym c.check.ensures ∙ c.in_err-shape.was) })

pub returns-then-shape-cpu : goal.returns-then-shape-cpu
returns-then-shape-cpu c = record { come = (omega arith, get_bad_cpu _ _ _ _ _ _ _ (sym c.check.ensures ∙ c.in_ok-shape.was) c.if-shape-cpu.true) }

pub returns-in_err-order : goal.returns-in_err-order
returns-in_err-order c =
    let p = err_from_is_err_and c.from_residual-in_err-order.result c.from_residual-in_err-order.ensures.1 in
    let q = order_refused _ c.order_at.ensures c.in_err-order.ensures.value in
    rw (p.1, p.2, q.1) (record { come = (omega arith, get_bad_order _ _ _ _ _ _ _ (sym c.check.ensures ∙ c.in_ok-shape.was) c.if-shape-cpu.false q.0) })

pub returns : goal.returns
returns c = record { come = (record { checks = sym c.check.ensures ∙ c.in_ok-shape.was; cpu_is_in = c.if-shape-cpu.false }, get_begun _ _ _ _ _ _ _ (sym c.check.ensures ∙ c.in_ok-shape.was) c.if-shape-cpu.false (sym c.order_at.ensures ∙ c.in_ok-order.ensures.ok_part)) }
