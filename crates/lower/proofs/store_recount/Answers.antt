use Rattle.std.specs.Prelude.{Ok, Err}
use Rattle.std.proofs.lemmas.Result.{err_from_is_err_and}
use mathlib.Core.Path.{sym, ap, ◌∙◌}
use mathlib.Core.List.{[], ◌∷◌}
use native.Mathlib.Omega.{arith}
use borrow.Author.Tests.{lt-ltb, le-ltb}
use Rattle.laws.specs.Tables.{outcome}
use Rattle.laws.specs.Fields.{join}
use Rattle.laws.proofs.Tests.{pick_yes, pick_no}
use Rattle.rules.specs.Lower.{child_layout}
use Rattle.rules.proofs.Fields.{zero_bits_lem}
use Rattle.lower.specs.Steps.{recount_in}
use Rattle.lower.proofs.Children.{said_some, said_none, recount_damaged, recount_counts, recount_flagged}
use Rattle.lower.proofs.store_recount.Goals as goal

pub returns-then-children-child : goal.returns-then-children-child
unfolding recount_in
returns-then-children-child c = sym (pick_no _ _ _ (le-ltb _ _ c.if-children-child.true))

pub returns-then-words-child : goal.returns-then-words-child
unfolding recount_in
returns-then-words-child c = sym (pick_yes _ _ _ (lt-ltb _ _ c.if-children-child.false) ∙ pick_no _ _ _ (le-ltb _ _ c.if-words-child.true))

pub join_child-requires : goal.join_child-requires
join_child-requires c = (omega arith, omega (arith, c.zeros_at.ensures, zero_bits_lem c.args.words.now c.args.child))

pub returns-in_err-ok_or : goal.returns-in_err-ok_or
unfolding recount_in
returns-in_err-ok_or c =
    let p = err_from_is_err_and c.from_residual.result c.from_residual.ensures.1 in
    let n = said_none _ (sym c.in_err-ok_or.ensures.value) in
    rw (p.1, p.2) (ap (λ f. outcome (Err f) c.args.children.now) n.1 ∙ recount_damaged _ _ _ (sym c.says.ensures ∙ n.0) ∙ sym (pick_yes _ _ _ (lt-ltb _ _ c.if-children-child.false) ∙ pick_yes _ _ _ (lt-ltb _ _ c.if-words-child.false)))

pub returns-in-Counts : goal.returns-in-Counts
unfolding recount_in
returns-in-Counts c = recount_counts _ _ _ _ _ (sym c.says.ensures ∙ said_some _ (sym c.in_ok-ok_or.ensures.value ∙ ap Ok c.in-Counts.is)) (c.join_child.ensures ∙ ap (λ z. join child_layout (0 ∷ 0 ∷ z ∷ [])) c.zeros_at.ensures) ∙ sym (pick_yes _ _ _ (lt-ltb _ _ c.if-children-child.false) ∙ pick_yes _ _ _ (lt-ltb _ _ c.if-words-child.false))

pub returns-in-Flagged : goal.returns-in-Flagged
unfolding recount_in
returns-in-Flagged c = recount_flagged _ _ _ (sym c.says.ensures ∙ said_some _ (sym c.in_ok-ok_or.ensures.value ∙ ap Ok c.in-Flagged.is)) ∙ sym (pick_yes _ _ _ (lt-ltb _ _ c.if-children-child.false) ∙ pick_yes _ _ _ (lt-ltb _ _ c.if-words-child.false))
