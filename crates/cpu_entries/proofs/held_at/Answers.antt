use mathlib.Core.Path.{sym, ap, ◌∙◌}
use Rattle.std.specs.Prelude.{Ok}
use borrow.Author.Tests.{not-true, not-false}
use Rattle.laws.proofs.Tests.{pick_yes, pick_no}
use Rattle.entries.proofs.Turns.{passed_up}
use Rattle.cpu_entries.specs.Steps.{held_as, held_in}
use Rattle.cpu_entries.proofs.held_at.Goals as goal

pub returns-in_err-entry : goal.returns-in_err-entry
unfolding held_in
returns-in_err-entry c = passed_up c.from_residual.ensures.1 ∙ ap (held_as c.args.tree) c.in_err-entry.ensures

pub returns-then-ne : goal.returns-then-ne
unfolding held_in
returns-then-ne c = ap Ok (sym (pick_no _ _ _ (not-true _ (sym c.if-ne.ensures)))) ∙ ap (held_as c.args.tree) (ap Ok (sym c.in-Holds.is) ∙ c.in_ok-entry.ensures)

pub returns-in-Absent : goal.returns-in-Absent
unfolding held_in
returns-in-Absent c = ap (held_as c.args.tree) (ap Ok (sym c.in-Absent.is) ∙ c.in_ok-entry.ensures)

pub returns-else-ne : goal.returns-else-ne
unfolding held_in
returns-else-ne c = ap Ok (sym (pick_yes _ _ _ (not-false _ (sym c.if-ne.ensures)))) ∙ ap (held_as c.args.tree) (ap Ok (sym c.in-Holds.is) ∙ c.in_ok-entry.ensures)
