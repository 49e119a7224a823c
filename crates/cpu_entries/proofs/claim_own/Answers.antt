use Rattle.std.proofs.Common.{rules}
use mathlib.Core.Path.{refl}
use native.Mathlib.Omega.{arith}
use borrow.Author.Tests.{lt-leb, le-leb}
use Rattle.laws.proofs.Tests.{pick_yes, pick_no}
use Rattle.cpu_entries.proofs.Cpus.{fields_fit, less_laid, holds_packed, kept, stored, cpu_read, cpu_refused, cpu_absent, cpu_holds}
use Rattle.cpu_entries.proofs.claim_own.Goals as goal

pub returns-in_err-entry : goal.returns-in_err-entry
returns-in_err-entry c = cpu_refused _ _ _ _ _ c.from_residual.ensures.1 c.in_err-entry.ensures

pub returns-then-count-frames : goal.returns-then-count-frames
returns-then-count-frames c = cpu_holds _ _ _ _ _ (cpu_read _ _ _ c.in_ok-entry.ensures c.in-Holds.is) (kept (pick_no _ _ _ (lt-leb _ _ c.if-count-frames.true)))

pub join_cpu-requires : goal.join_cpu-requires
join_cpu-requires c = fields_fit c.args.size _ _ _ (omega arith) (less_laid _ _ (cpu_read _ _ _ c.in_ok-entry.ensures c.in-Holds.is).told _)

pub offset_bounds-cpus-cpu : goal.offset_bounds-cpus-cpu
offset_bounds-cpus-cpu c = let h = (cpu_read _ _ _ c.in_ok-entry.ensures c.in-Holds.is).there in search rules

pub bounds-cpus-cpu : goal.bounds-cpus-cpu
bounds-cpus-cpu c = (cpu_read _ _ _ c.in_ok-entry.ensures c.in-Holds.is).there

pub returns-in-Absent : goal.returns-in-Absent
returns-in-Absent c = cpu_absent _ _ _ _ _ (cpu_read _ _ _ c.in_ok-entry.ensures c.in-Absent.is) (kept refl)

pub returns-else-count-frames : goal.returns-else-count-frames
returns-else-count-frames c = let r = (cpu_read _ _ _ c.in_ok-entry.ensures c.in-Holds.is) in cpu_holds _ _ _ _ _ r (stored (pick_yes _ _ _ (le-leb _ _ c.if-count-frames.false)) (holds_packed (less_laid _ _ r.told _) c.join_cpu.ensures))
