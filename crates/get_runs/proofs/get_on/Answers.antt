use mathlib.Core.Path.{refl, sym, ◌∙◌}
use Rattle.rules.specs.Ranges.{step_range}
use Rattle.calls.specs.Results.{went_to}
use Rattle.upper.proofs.Stepped.{step_refused, step_out, cpu_out}
use Rattle.upper.proofs.Runs.{went}
use Rattle.get_runs.proofs.Steps.{some_fuel}
use Rattle.get_runs.proofs.get_on.Goals as goal

pub returns-then-fuel-eq0 : goal.returns-then-fuel-eq0
unfolding went_to
returns-then-fuel-eq0 c = refl

pub returns-then-shape-cpu : goal.returns-then-shape-cpu
unfolding step_range
returns-then-shape-cpu c = went _ _ _ _ (step_out _ _ _ _ _ _ (sym c.check.ensures ∙ c.in-Ok.is) refl (cpu_out _ _ _ c.if-shape-cpu.true)) (some_fuel c.if-fuel-eq0.false) c.way_of-then-shape-cpu.ensures

pub own_on-left-requires : goal.own_on-left-requires
own_on-left-requires c = record { checks = sym c.check.ensures ∙ c.in-Ok.is; cpu_is_in = c.if-shape-cpu.false }

pub returns-in-Err : goal.returns-in-Err
returns-in-Err c = went _ _ _ _ (step_refused _ _ _ _ _ _ (sym c.check.ensures ∙ c.in-Err.is)) (some_fuel c.if-fuel-eq0.false) c.way_of.ensures

pub returns-else-shape-cpu : goal.returns-else-shape-cpu
returns-else-shape-cpu c = rw c.way_left.ensures c.own_on-left.ensures
