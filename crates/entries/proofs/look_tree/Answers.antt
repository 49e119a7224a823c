use mathlib.Core.Path.{sym, ap, ◌∙◌}
use borrow.Author.Tests.{lt-ltb, le-ltb}
use Rattle.std.specs.Prelude.{ok_or}
use Rattle.laws.proofs.Tests.{pick_yes, pick_no}
use Rattle.entries.specs.Types.{Fault}
use Rattle.entries.specs.Steps.{look_tree_in}
use Rattle.entries.proofs.look_tree.Goals as goal

pub returns-then-trees-at : goal.returns-then-trees-at
unfolding look_tree_in
returns-then-trees-at c = sym (pick_no _ _ _ (le-ltb _ _ c.if-trees-at.true))

pub returns : goal.returns
unfolding look_tree_in
returns c = c.ok_or.ensures.value ∙ ap (λ o. ok_or o Fault.Damaged) c.tree_says.ensures ∙ sym (pick_yes _ _ _ (lt-ltb _ _ c.if-trees-at.false))
