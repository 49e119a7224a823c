use mathlib.Core.Path.{sym, ◌∙◌}
use borrow.Author.Tests.{eq-eqb, ne_eqb}
use Rattle.laws.proofs.Tests.{pick_yes, pick_no}
use Rattle.child_stages.proofs.Rules.{kids_same, next_round, next_on}
use Rattle.child_stages.proofs.next_child.Goals as goal

pub returns-then-start-eq0 : goal.returns-then-start-eq0
returns-then-start-eq0 c = c.get.ensures ∙ sym (next_round _ _ _ _ _ _ (kids_same c.args.shape c.children_of.ensures c.tree.ensures) c.if-next-children_of.true ∙ pick_yes _ _ _ (eq-eqb _ _ (sym c.if-start-eq0.true)))

pub returns-then-next-children_of : goal.returns-then-next-children_of
returns-then-next-children_of c = c.get-then-next-children_of.ensures ∙ sym (next_round _ _ _ _ _ _ (kids_same c.args.shape c.children_of.ensures c.tree.ensures) c.if-next-children_of.true ∙ pick_no _ _ _ (ne_eqb _ _ (λ e. c.if-start-eq0.false (sym e))))

pub returns-then-next-start : goal.returns-then-next-start
returns-then-next-start c = c.get-then-next-start.ensures ∙ sym (next_on _ _ _ _ _ _ (kids_same c.args.shape c.children_of.ensures c.tree.ensures) c.if-next-children_of.false ∙ pick_yes _ _ _ (eq-eqb _ _ c.if-next-start.true))

pub returns : goal.returns
returns c = c.get-2.ensures ∙ sym (next_on _ _ _ _ _ _ (kids_same c.args.shape c.children_of.ensures c.tree.ensures) c.if-next-children_of.false ∙ pick_no _ _ _ (ne_eqb _ _ c.if-next-start.false))
