use Rattle.std.specs.Prelude.{Ok}
use Rattle.std.proofs.lemmas.Result.{err_from_is_err_and}
use mathlib.Core.Path.{sym, ap, ◌∙◌}
use native.Mathlib.Omega.{arith}
use Rattle.std.proofs.Common.{rules, ◌<◌, length}
use Rattle.rules.proofs.Fields.{count_fits}
use Rattle.lower.proofs.Children.{look_there, give_refused, give_flagged, give_past, give_given}
use Rattle.lower.proofs.give_count.Goals as goal

pub returns-in_err-count : goal.returns-in_err-count
returns-in_err-count c = let p = err_from_is_err_and c.from_residual.result c.from_residual.ensures.1 in rw (p.1, p.2) (give_refused _ _ _ (sym c.in_err-count.ensures))

pub overflow_sub-count : goal.overflow_sub-count
overflow_sub-count c = omega (arith, count_fits _ _ (look_there _ _ (sym c.in_ok-count.ensures ∙ ap Ok c.in-Counts.is)).1)

pub overflow_add-count : goal.overflow_add-count
overflow_add-count c = omega (arith, count_fits _ _ (look_there _ _ (sym c.in_ok-count.ensures ∙ ap Ok c.in-Counts.is)).1)

pub join_child-requires : goal.join_child-requires
join_child-requires c = (omega arith, omega (arith, count_fits _ _ (look_there _ _ (sym c.in_ok-count.ensures ∙ ap Ok c.in-Counts.is)).1))

pub offset_bounds-children-child : goal.offset_bounds-children-child
offset_bounds-children-child c = let h : c.args.child < length c.args.children.now = (look_there _ _ (sym c.in_ok-count.ensures ∙ ap Ok c.in-Counts.is)).0 in search rules

pub bounds-children-child : goal.bounds-children-child
bounds-children-child c = (look_there _ _ (sym c.in_ok-count.ensures ∙ ap Ok c.in-Counts.is)).0

pub returns-in-Counts : goal.returns-in-Counts
returns-in-Counts c = give_given _ _ _ _ _ (sym c.in_ok-count.ensures ∙ ap Ok c.in-Counts.is) (omega (arith, count_fits _ _ (look_there _ _ (sym c.in_ok-count.ensures ∙ ap Ok c.in-Counts.is)).1)) c.join_child.ensures

pub returns-in-Counts-2 : goal.returns-in-Counts-2
returns-in-Counts-2 c = give_past _ _ _ _ (sym c.in_ok-count.ensures ∙ ap Ok c.in-Counts.is) (omega (arith, count_fits _ _ (look_there _ _ (sym c.in_ok-count.ensures ∙ ap Ok c.in-Counts.is)).1))

pub returns-in-Flagged : goal.returns-in-Flagged
returns-in-Flagged c = give_flagged _ _ _ (sym c.in_ok-count.ensures ∙ ap Ok c.in-Flagged.is)
