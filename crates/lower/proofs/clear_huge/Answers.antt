use Rattle.std.specs.Prelude.{Ok}
use Rattle.std.proofs.lemmas.Result.{err_from_is_err_and}
use mathlib.Core.Path.{sym, ap, ◌∙◌}
use Rattle.std.proofs.Common.{rules, ◌<◌, length}
use Rattle.lower.proofs.Children.{look_there, clear_refused, clear_counts, clear_flagged}
use Rattle.lower.proofs.clear_huge.Goals as goal

pub returns-in_err-look : goal.returns-in_err-look
returns-in_err-look c = let p = err_from_is_err_and c.from_residual.result c.from_residual.ensures.1 in rw (p.1, p.2) (clear_refused _ _ (sym c.in_err-look.ensures))

pub offset_bounds-children-child : goal.offset_bounds-children-child
offset_bounds-children-child c = let h : c.args.child < length c.args.children.now = (look_there _ _ (sym c.in_ok-look.ensures ∙ ap Ok c.in-Flagged.is)).0 in search rules

pub bounds-children-child : goal.bounds-children-child
bounds-children-child c = (look_there _ _ (sym c.in_ok-look.ensures ∙ ap Ok c.in-Flagged.is)).0

pub returns-in-Counts : goal.returns-in-Counts
returns-in-Counts c = clear_counts _ _ _ (sym c.in_ok-look.ensures ∙ ap Ok c.in-Counts.is)

pub returns-in-Flagged : goal.returns-in-Flagged
returns-in-Flagged c = clear_flagged _ _ _ (sym c.in_ok-look.ensures ∙ ap Ok c.in-Flagged.is) c.join_child.ensures
