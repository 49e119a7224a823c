use mathlib.Core.Path.{sym, ap, ◌∙◌}
use borrow.Author.Tests.{lt-ltb, le-ltb}
use Rattle.std.specs.Prelude.{ok_or}
use Rattle.laws.proofs.Tests.{pick_yes, pick_no}
use Rattle.cpu_entries.specs.Types.{Fault}
use Rattle.cpu_entries.specs.Steps.{look_cpu_in}
use Rattle.cpu_entries.proofs.look_cpu.Goals as goal

pub returns-then-cpus-cpu : goal.returns-then-cpus-cpu
unfolding look_cpu_in
returns-then-cpus-cpu c = sym (pick_no _ _ _ (le-ltb _ _ c.if-cpus-cpu.true))

pub returns : goal.returns
unfolding look_cpu_in
returns c = c.ok_or.ensures.value ∙ ap (λ o. ok_or o Fault.Damaged) c.cpu_says.ensures ∙ sym (pick_yes _ _ _ (lt-ltb _ _ c.if-cpus-cpu.false))
