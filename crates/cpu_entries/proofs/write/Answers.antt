use Rattle.std.proofs.Common.{rules}
use mathlib.Core.Path.{refl}
use native.Mathlib.Omega.{arith}
use Rattle.entries.proofs.Turns.{count_past, count_within}
use Rattle.cpu_entries.proofs.Cpus.{anew_laid, fields_fit, holds_packed, not_laid, stored, broken, cpu_read, cpu_refused, cpu_sound}
use Rattle.cpu_entries.proofs.write.Goals as goal

pub returns-in_err-look_cpu : goal.returns-in_err-look_cpu
returns-in_err-look_cpu c = cpu_refused _ _ _ _ _ c.from_residual.ensures.1 c.in_err-look_cpu.ensures

pub returns-then-trees-tree : goal.returns-then-trees-tree
returns-then-trees-tree c = cpu_sound _ _ _ _ _ (cpu_read _ _ _ c.in_ok-look_cpu.ensures refl) (broken refl (not_laid _ _ _ _ (λ p. omega (arith, c.if-trees-tree.true, c.trees.ensures, p.0))))

pub returns-in_err-count : goal.returns-in_err-count
returns-in_err-count c = let q = count_past _ _ _ c.from_residual-in_err-count.ensures.1 c.in_err-count.ensures in rw q.0 (cpu_sound _ _ _ _ _ (cpu_read _ _ _ c.in_ok-look_cpu.ensures refl) (broken refl (not_laid _ _ _ _ (λ p. omega (arith, q.1, p.1.1.0)))))

pub join_cpu-requires : goal.join_cpu-requires
join_cpu-requires c = let q = count_within _ _ _ c.in_ok-count.ensures in fields_fit c.args.size _ _ _ (omega arith) (anew_laid _ _ _ (omega (arith, c.if-trees-tree.false, c.trees.ensures)) (omega (arith, q.0, q.1)))

pub offset_bounds-cpus-cpu : goal.offset_bounds-cpus-cpu
offset_bounds-cpus-cpu c = let h = (cpu_read _ _ _ c.in_ok-look_cpu.ensures refl).there in search rules

pub bounds-cpus-cpu : goal.bounds-cpus-cpu
bounds-cpus-cpu c = (cpu_read _ _ _ c.in_ok-look_cpu.ensures refl).there

pub returns : goal.returns
returns c = let q = count_within _ _ _ c.in_ok-count.ensures in cpu_sound _ _ _ _ _ (cpu_read _ _ _ c.in_ok-look_cpu.ensures refl) (stored refl (holds_packed (anew_laid _ _ _ (omega (arith, c.if-trees-tree.false, c.trees.ensures)) q.1) (rw (← q.0) c.join_cpu.ensures)))
