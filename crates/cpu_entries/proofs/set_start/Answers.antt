use Rattle.std.proofs.Common.{rules}
use mathlib.Core.Path.{refl}
use native.Mathlib.Omega.{arith}
use Rattle.cpu_entries.proofs.Cpus.{start_laid, fields_fit, holds_packed, not_laid, stored, broken, held_read, held_refused, held_missed, held_turned}
use Rattle.cpu_entries.proofs.set_start.Goals as goal

pub returns-in_err-count : goal.returns-in_err-count
returns-in_err-count c = held_refused _ _ _ _ _ _ c.from_residual.ensures.1 c.in_err-count.ensures

pub returns-in_default : goal.returns-in_default
returns-in_default c = held_missed _ _ _ _ _ _ c.in_ok-count.ensures c.in_default.is

pub returns-then-children_of-child : goal.returns-then-children_of-child
returns-then-children_of-child c = held_turned _ _ _ _ _ _ (held_read _ _ _ _ c.in_ok-count.ensures c.in-Some.is) (broken refl (not_laid _ _ _ _ (λ p. omega (arith, c.if-children_of-child.true, c.children_of.ensures, p.1.0))))

pub join_cpu-requires : goal.join_cpu-requires
join_cpu-requires c = fields_fit c.args.size _ _ _ (omega arith) (start_laid _ _ (held_read _ _ _ _ c.in_ok-count.ensures c.in-Some.is).told _ (omega (arith, c.if-children_of-child.false, c.children_of.ensures)))

pub offset_bounds-cpus-cpu : goal.offset_bounds-cpus-cpu
offset_bounds-cpus-cpu c = let h = (held_read _ _ _ _ c.in_ok-count.ensures c.in-Some.is).there in search rules

pub bounds-cpus-cpu : goal.bounds-cpus-cpu
bounds-cpus-cpu c = (held_read _ _ _ _ c.in_ok-count.ensures c.in-Some.is).there

pub returns : goal.returns
returns c = let r = (held_read _ _ _ _ c.in_ok-count.ensures c.in-Some.is) in held_turned _ _ _ _ _ _ r (stored refl (holds_packed (start_laid _ _ r.told _ (omega (arith, c.if-children_of-child.false, c.children_of.ensures))) c.join_cpu.ensures))
