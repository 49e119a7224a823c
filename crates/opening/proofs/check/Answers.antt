use mathlib.Core.Path.{sym, ap, ◌∙◌}
use Rattle.std.specs.Prelude.{Ok, Err}
use Rattle.std.proofs.lemmas.Result.{err_from_is_err_and}
use Rattle.laws.proofs.Tests.{pick_yes, pick_no}
use Rattle.calls.proofs.Opened.{told}
use Rattle.opening.specs.Opens.{openable_as}
use Rattle.opening.proofs.check.Goals as goal
use Rattle.opening.proofs.check.Goals.{in-Running, in-Clean}

pub returns-in_err-zoned : goal.returns-in_err-zoned
unfolding openable_as
returns-in_err-zoned c = let p = err_from_is_err_and c.from_residual.result c.from_residual.ensures.1 in p.1 ∙ ap Err p.2 ∙ told openable_as _ _ _ _ _ c.zone_says.ensures c.in_err-zoned.was

pub returns-then-lengths_fit : goal.returns-then-lengths_fit
unfolding openable_as
returns-then-lengths_fit c =
    let fit = sym c.lengths_fit.ensures ∙ c.if-lengths_fit.true in
    elim c.match-zoned.branch [
      | in-Running w ↦ ap Ok w.zoned-is ∙ sym (pick_yes _ _ _ (rw w.size-is at fit)) ∙ told openable_as _ _ _ _ _ c.zone_says.ensures (c.in_ok-zoned.was ∙ ap Ok w.in-Running.is)
      | in-Clean w ↦ ap Ok w.zoned-is ∙ sym (pick_yes _ _ _ (rw w.size-is at fit)) ∙ told openable_as _ _ _ _ _ c.zone_says.ensures (c.in_ok-zoned.was ∙ ap Ok w.in-Clean.is)
    ]

pub returns : goal.returns
unfolding openable_as
returns c =
    let fit = sym c.lengths_fit.ensures ∙ c.if-lengths_fit.false in
    elim c.match-zoned.branch [
      | in-Running w ↦ sym (pick_no _ _ _ (rw w.size-is at fit)) ∙ told openable_as _ _ _ _ _ c.zone_says.ensures (c.in_ok-zoned.was ∙ ap Ok w.in-Running.is)
      | in-Clean w ↦ sym (pick_no _ _ _ (rw w.size-is at fit)) ∙ told openable_as _ _ _ _ _ c.zone_says.ensures (c.in_ok-zoned.was ∙ ap Ok w.in-Clean.is)
    ]
