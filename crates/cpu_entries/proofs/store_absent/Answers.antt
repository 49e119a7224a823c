use mathlib.Core.Path.{refl}
use Rattle.entries.specs.Steps.{stored_in}
use Rattle.entries.proofs.Turns.{stored_out, stored_in_lem}
use Rattle.cpu_entries.proofs.store_absent.Goals as goal

pub returns-then-cpus-cpu : goal.returns-then-cpus-cpu
unfolding stored_in
returns-then-cpus-cpu c = stored_out _ _ _ c.if-cpus-cpu.true

pub returns : goal.returns
unfolding stored_in
returns c = stored_in_lem _ _ _ c.if-cpus-cpu.false refl
