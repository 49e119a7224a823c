use Rattle.std.specs.Prelude.{Ok}
use Rattle.std.proofs.lemmas.Result.{err_from_is_err_and}
use mathlib.Core.Path.{sym, ap, ◌∙◌}
use native.Mathlib.Omega.{arith}
use Rattle.rules.proofs.Fields.{count_fits}
use Rattle.std.proofs.Common.{rules, ◌<◌, length}
use Rattle.lower.proofs.Children.{look_there, claim_refused, claim_flagged, claim_short, claim_taken}
use Rattle.lower.proofs.claim.Goals as goal

pub returns-in_err-count : goal.returns-in_err-count
returns-in_err-count c = let p = err_from_is_err_and c.from_residual.result c.from_residual.ensures.1 in rw (p.1, p.2) (claim_refused _ _ _ (sym c.in_err-count.ensures))

pub join_child-requires : goal.join_child-requires
join_child-requires c = (omega arith, omega (arith, count_fits _ _ (look_there _ _ (sym c.in_ok-count.ensures ∙ ap Ok c.in-Counts.is)).1))

pub bounds-children-child : goal.bounds-children-child
bounds-children-child c = (look_there _ _ (sym c.in_ok-count.ensures ∙ ap Ok c.in-Counts.is)).0

pub returns-in-Counts : goal.returns-in-Counts
returns-in-Counts c = claim_taken _ _ _ _ _ (sym c.in_ok-count.ensures ∙ ap Ok c.in-Counts.is) c.if-size-count.true c.join_child.ensures

pub returns-in_default : goal.returns-in_default
returns-in_default c = claim_short _ _ _ _ (sym c.in_ok-count.ensures ∙ ap Ok c.in-Counts.is) c.if-size-count.false

pub returns-in_default-2 : goal.returns-in_default-2
returns-in_default-2 c = claim_flagged _ _ _ (sym c.in_ok-count.ensures ∙ ap Ok c.in_default.is)

pub offset_bounds-children-child : goal.offset_bounds-children-child
offset_bounds-children-child c = let h : c.args.child < length c.args.children.now = (look_there _ _ (sym c.in_ok-count.ensures ∙ ap Ok c.in-Counts.is)).0 in search rules
