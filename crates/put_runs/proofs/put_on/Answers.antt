use mathlib.Core.Path.{refl, sym, ◌∙◌}
use Rattle.calls.specs.Results.{went_to}
use Rattle.put_runs.proofs.Steps.{refused, no_cpu, run_answers}
use borrow.Author.Rules.{rules}
use Rattle.put_runs.proofs.put_on.Goals as goal

pub returns-then-fuel-eq0 : goal.returns-then-fuel-eq0
unfolding went_to
returns-then-fuel-eq0 c = refl

pub returns-then-shape-cpu : goal.returns-then-shape-cpu
returns-then-shape-cpu c = run_answers (search rules) (no_cpu (sym c.check.ensures ∙ c.in-Ok.is) c.if-shape-cpu.true) c.way_of-then-shape-cpu.ensures

pub block_on-at-requires : goal.block_on-at-requires
block_on-at-requires c = record { checks = sym c.check.ensures ∙ c.in-Ok.is; cpu_is_in = c.if-shape-cpu.false }

pub returns-in-Err : goal.returns-in-Err
returns-in-Err c = run_answers (search rules) (refused (sym c.check.ensures ∙ c.in-Err.is)) c.way_of.ensures

pub returns-else-shape-cpu : goal.returns-else-shape-cpu
returns-else-shape-cpu c = rw c.way_at.ensures c.block_on-at.ensures
