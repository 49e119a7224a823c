use Rattle.std.proofs.Common.{rules}
use mathlib.Core.Path.{refl}
use native.Mathlib.Omega.{arith}
use Rattle.entries.proofs.Turns.{count_past, count_within}
use Rattle.cpu_entries.proofs.Cpus.{more_laid, fields_fit, holds_packed, not_laid, stored, broken, held_read, held_refused, held_missed, held_turned}
use Rattle.cpu_entries.proofs.add_own.Goals as goal

pub returns-in_err-start : goal.returns-in_err-start
returns-in_err-start c = held_refused _ _ _ _ _ _ c.from_residual.ensures.1 c.in_err-start.ensures

pub returns-in_default : goal.returns-in_default
returns-in_default c = held_missed _ _ _ _ _ _ c.in_ok-start.ensures c.in_default.is

pub returns-in_err-sum : goal.returns-in_err-sum
returns-in_err-sum c = let q = count_past _ _ _ c.from_residual-in_err-sum.ensures.1 c.in_err-sum.ensures in rw q.0 (held_turned _ _ _ _ _ _ (held_read _ _ _ _ c.in_ok-start.ensures c.in-Some.is) (broken refl (not_laid _ _ _ _ (λ p. omega (arith, q.1, p.1.1.0)))))

pub join_cpu-requires : goal.join_cpu-requires
join_cpu-requires c = let q = count_within _ _ _ c.in_ok-sum.ensures in rw q.0 (fields_fit c.args.size _ _ _ (omega arith) (more_laid _ _ (held_read _ _ _ _ c.in_ok-start.ensures c.in-Some.is).told _ q.1))

pub offset_bounds-cpus-cpu : goal.offset_bounds-cpus-cpu
offset_bounds-cpus-cpu c = let h = (held_read _ _ _ _ c.in_ok-start.ensures c.in-Some.is).there in search rules

pub bounds-cpus-cpu : goal.bounds-cpus-cpu
bounds-cpus-cpu c = (held_read _ _ _ _ c.in_ok-start.ensures c.in-Some.is).there

pub returns : goal.returns
returns c = let r = (held_read _ _ _ _ c.in_ok-start.ensures c.in-Some.is) in let q = count_within _ _ _ c.in_ok-sum.ensures in held_turned _ _ _ _ _ _ r (stored refl (holds_packed (more_laid _ _ r.told _ q.1) (rw (← q.0) c.join_cpu.ensures)))
