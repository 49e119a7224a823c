use mathlib.Core.Path.{sym, ◌∙◌}
use native.Mathlib.Omega.{arith}
use Rattle.std.proofs.lemmas.Result.{err_from_is_err_and}
use Rattle.begins.proofs.Begun.{order_refused, put_refused, put_bad_cpu, put_bad_order, put_bad_frame, put_misaligned, put_begun}
use Rattle.begins.proofs.put_of.Goals as goal

pub returns-in_err-shape : goal.returns-in_err-shape
returns-in_err-shape c = let p = err_from_is_err_and c.from_residual.result c.from_residual.ensures.1 in rw (p.1, p.2) (record { come = put_refused _ _ _ _ _ _ _ _ (sym c.check.ensures ∙ c.in_err-shape.was) })

pub returns-then-shape-cpu : goal.returns-then-shape-cpu
returns-then-shape-cpu c = record { come = (omega arith, put_bad_cpu _ _ _ _ _ _ _ (sym c.check.ensures ∙ c.in_ok-shape.was) _ c.if-shape-cpu.true) }

pub returns-in_err-order : goal.returns-in_err-order
returns-in_err-order c =
    let p = err_from_is_err_and c.from_residual-in_err-order.result c.from_residual-in_err-order.ensures.1 in
    let q = order_refused _ c.order_at.ensures c.in_err-order.ensures.value in
    rw (p.1, p.2, q.1) (record { come = (omega arith, put_bad_order _ _ _ _ _ _ _ (sym c.check.ensures ∙ c.in_ok-shape.was) _ c.if-shape-cpu.false q.0) })

pub returns-then-huge_frames-frame : goal.returns-then-huge_frames-frame
returns-then-huge_frames-frame c = record { come = (omega arith, put_bad_frame _ _ _ _ _ _ _ (sym c.check.ensures ∙ c.in_ok-shape.was) _ c.if-shape-cpu.false (sym c.order_at.ensures ∙ c.in_ok-order.ensures.ok_part) c.huge_frames.ensures c.if-huge_frames-frame.true) }

pub returns-in_err-block : goal.returns-in_err-block
returns-in_err-block c =
    let p = err_from_is_err_and c.from_residual-in_err-block.result c.from_residual-in_err-block.ensures.1 in
    rw (p.1, p.2) (record { come = put_misaligned _ _ _ _ _ _ _ (sym c.check.ensures ∙ c.in_ok-shape.was) _ c.if-shape-cpu.false (sym c.order_at.ensures ∙ c.in_ok-order.ensures.ok_part) c.huge_frames.ensures c.if-huge_frames-frame.false (sym c.block_of.ensures ∙ c.in_err-block.was) })

pub returns : goal.returns
returns c = record { come = (record { checks = sym c.check.ensures ∙ c.in_ok-shape.was; cpu_is_in = c.if-shape-cpu.false }, put_begun _ _ _ _ _ _ _ (sym c.check.ensures ∙ c.in_ok-shape.was) _ c.if-shape-cpu.false (sym c.order_at.ensures ∙ c.in_ok-order.ensures.ok_part) c.huge_frames.ensures c.if-huge_frames-frame.false (sym c.block_of.ensures ∙ c.in_ok-block.was)) }
