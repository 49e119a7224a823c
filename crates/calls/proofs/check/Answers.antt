use mathlib.Core.Path.{sym, ap, ◌∙◌}
use native.Mathlib.Omega.{arith}
use Rattle.std.specs.Prelude.{Ok, Err}
use Rattle.std.proofs.lemmas.Result.{err_from_is_err_and}
use Rattle.laws.proofs.Tests.{pick_yes, pick_no}
use Rattle.calls.specs.Results.{checked_as}
use Rattle.calls.proofs.Opened.{told, few_cpus}
use Rattle.calls.proofs.check.Goals as goal

pub returns-in_err-size : goal.returns-in_err-size
unfolding checked_as
returns-in_err-size c = let p = err_from_is_err_and c.from_residual.result c.from_residual.ensures.1 in p.1 ∙ ap Err p.2 ∙ told checked_as _ _ _ _ _ c.zone_says.ensures c.in_err-size.was

pub returns-in_default : goal.returns-in_default
unfolding checked_as
returns-in_default c = told checked_as _ _ _ _ _ c.zone_says.ensures (c.in_ok-size.was ∙ ap Ok c.in_default.is)

pub returns-then-not-lengths_fit : goal.returns-then-not-lengths_fit
unfolding checked_as
returns-then-not-lengths_fit c = sym (pick_no _ _ _ (sym c.lengths_fit.ensures ∙ c.if-not-lengths_fit.true)) ∙ told checked_as _ _ _ _ _ c.zone_says.ensures (c.in_ok-size.was ∙ ap Ok c.in-Running.is)

pub overflow_cast-result : goal.overflow_cast-result
overflow_cast-result c = omega (arith, few_cpus c.in-Running.size c.args.words c.args.children c.args.trees c.args.cpus (sym c.lengths_fit.ensures ∙ c.if-not-lengths_fit.false))

pub returns : goal.returns
unfolding checked_as
returns c = sym (pick_yes _ _ _ (sym c.lengths_fit.ensures ∙ c.if-not-lengths_fit.false)) ∙ told checked_as _ _ _ _ _ c.zone_says.ensures (c.in_ok-size.was ∙ ap Ok c.in-Running.is)
