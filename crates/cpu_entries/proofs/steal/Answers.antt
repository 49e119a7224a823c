use Rattle.std.proofs.Common.{rules}
use mathlib.Core.Path.{refl}
use Rattle.cpu_entries.proofs.Cpus.{absent_packed, kept, stored, cpu_read, cpu_refused, cpu_absent, cpu_holds}
use Rattle.cpu_entries.proofs.steal.Goals as goal

pub returns-in_err-entry : goal.returns-in_err-entry
returns-in_err-entry c = cpu_refused _ _ _ _ _ c.from_residual.ensures.1 c.in_err-entry.ensures

pub offset_bounds-cpus-cpu : goal.offset_bounds-cpus-cpu
offset_bounds-cpus-cpu c = let h = (cpu_read _ _ _ c.in_ok-entry.ensures c.in-Holds.is).there in search rules

pub bounds-cpus-cpu : goal.bounds-cpus-cpu
bounds-cpus-cpu c = (cpu_read _ _ _ c.in_ok-entry.ensures c.in-Holds.is).there

pub returns-in-Absent : goal.returns-in-Absent
returns-in-Absent c = cpu_absent _ _ _ _ _ (cpu_read _ _ _ c.in_ok-entry.ensures c.in-Absent.is) (kept refl)

pub returns-in-Holds : goal.returns-in-Holds
returns-in-Holds c = cpu_holds _ _ _ _ _ (cpu_read _ _ _ c.in_ok-entry.ensures c.in-Holds.is) (stored refl absent_packed)
