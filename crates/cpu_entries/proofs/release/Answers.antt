use Rattle.std.proofs.Common.{rules}
use mathlib.Core.Path.{refl}
use Rattle.cpu_entries.proofs.Cpus.{absent_packed, stored, held_read, held_refused, held_missed, held_turned}
use Rattle.cpu_entries.proofs.release.Goals as goal

pub returns-in_err-count : goal.returns-in_err-count
returns-in_err-count c = held_refused _ _ _ _ _ _ c.from_residual.ensures.1 c.in_err-count.ensures

pub returns-in_default : goal.returns-in_default
returns-in_default c = held_missed _ _ _ _ _ _ c.in_ok-count.ensures c.in_default.is

pub offset_bounds-cpus-cpu : goal.offset_bounds-cpus-cpu
offset_bounds-cpus-cpu c = let h = (held_read _ _ _ _ c.in_ok-count.ensures c.in-Some.is).there in search rules

pub bounds-cpus-cpu : goal.bounds-cpus-cpu
bounds-cpus-cpu c = (held_read _ _ _ _ c.in_ok-count.ensures c.in-Some.is).there

pub returns : goal.returns
returns c = held_turned _ _ _ _ _ _ (held_read _ _ _ _ c.in_ok-count.ensures c.in-Some.is) (stored refl absent_packed)
