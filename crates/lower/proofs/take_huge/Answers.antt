use Rattle.std.specs.Prelude.{Ok}
use Rattle.std.proofs.lemmas.Result.{err_from_is_err_and}
use mathlib.Core.Path.{sym, ap, ◌∙◌}
use native.Mathlib.Omega.{arith}
use Rattle.std.proofs.Common.{rules, ◌<◌, length}
use Rattle.lower.proofs.Children.{look_there, huge_refused, huge_flagged, huge_short, huge_taken}
use Rattle.lower.proofs.take_huge.Goals as goal

pub returns-in_err-count : goal.returns-in_err-count
returns-in_err-count c = let p = err_from_is_err_and c.from_residual.result c.from_residual.ensures.1 in rw (p.1, p.2) (huge_refused _ _ (sym c.in_err-count.ensures))

pub offset_bounds-children-child : goal.offset_bounds-children-child
offset_bounds-children-child c = let h : c.args.child < length c.args.children.now = (look_there _ _ (sym c.in_ok-count.ensures ∙ ap Ok c.in-Counts.is)).0 in search rules

pub bounds-children-child : goal.bounds-children-child
bounds-children-child c = (look_there _ _ (sym c.in_ok-count.ensures ∙ ap Ok c.in-Counts.is)).0

pub returns-in-Counts : goal.returns-in-Counts
returns-in-Counts c = huge_taken _ _ _ _ (sym c.in_ok-count.ensures ∙ ap Ok c.in-Counts.is) (omega arith) c.join_child.ensures

pub returns-in_default : goal.returns-in_default
returns-in_default c = huge_short _ _ _ (sym c.in_ok-count.ensures ∙ ap Ok c.in-Counts.is) (λ q. omega arith)

pub returns-in_default-2 : goal.returns-in_default-2
returns-in_default-2 c = huge_flagged _ _ (sym c.in_ok-count.ensures ∙ ap Ok c.in_default.is)
