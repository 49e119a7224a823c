use Rattle.std.proofs.Common.{rules}
use native.Mathlib.Omega.{arith}
use borrow.Author.Tests.{lt-leb, le-leb}
use Rattle.laws.proofs.Tests.{pick_yes, pick_no}
use Rattle.cpu_entries.proofs.Cpus.{less_laid, fields_fit, absent_packed, holds_packed, stored, held_read, held_refused, held_missed, held_turned}
use Rattle.cpu_entries.proofs.claim_or_release.Goals as goal

pub returns-in_err-start : goal.returns-in_err-start
returns-in_err-start c = held_refused _ _ _ _ _ _ c.from_residual.ensures.1 c.in_err-start.ensures

pub returns-in_default : goal.returns-in_default
returns-in_default c = held_missed _ _ _ _ _ _ c.in_ok-start.ensures c.in_default.is

pub offset_bounds-cpus-cpu : goal.offset_bounds-cpus-cpu
offset_bounds-cpus-cpu c = let h = (held_read _ _ _ _ c.in_ok-start.ensures c.in-Some.is).there in search rules

pub bounds-cpus-cpu : goal.bounds-cpus-cpu
bounds-cpus-cpu c = (held_read _ _ _ _ c.in_ok-start.ensures c.in-Some.is).there

pub returns-then-count-frames : goal.returns-then-count-frames
returns-then-count-frames c = held_turned _ _ _ _ _ _ (held_read _ _ _ _ c.in_ok-start.ensures c.in-Some.is) (stored (pick_no _ _ _ (lt-leb _ _ c.if-count-frames.true)) absent_packed)

pub join_cpu-requires : goal.join_cpu-requires
join_cpu-requires c = fields_fit c.args.size _ _ _ (omega arith) (less_laid _ _ (held_read _ _ _ _ c.in_ok-start.ensures c.in-Some.is).told _)

pub offset_bounds-cpus-cpu-2 : goal.offset_bounds-cpus-cpu-2
offset_bounds-cpus-cpu-2 c = let h = (held_read _ _ _ _ c.in_ok-start.ensures c.in-Some.is).there in search rules

pub bounds-cpus-cpu-2 : goal.bounds-cpus-cpu-2
bounds-cpus-cpu-2 c = (held_read _ _ _ _ c.in_ok-start.ensures c.in-Some.is).there

pub returns : goal.returns
returns c = let r = (held_read _ _ _ _ c.in_ok-start.ensures c.in-Some.is) in held_turned _ _ _ _ _ _ r (stored (pick_yes _ _ _ (le-leb _ _ c.if-count-frames.false)) (holds_packed (less_laid _ _ r.told _) c.join_cpu.ensures))
