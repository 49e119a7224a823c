use Rattle.std.specs.Prelude.{ok_or}
use mathlib.Core.Path.{sym, ap, ◌∙◌}
use borrow.Author.Tests.{lt-ltb, le-ltb}
use Rattle.laws.proofs.Tests.{pick_yes, pick_no}
use Rattle.lower.specs.Types.{Fault}
use Rattle.lower.specs.Steps.{look_in}
use Rattle.lower.proofs.look.Goals as goal

pub returns-then-children-child : goal.returns-then-children-child
unfolding look_in
returns-then-children-child c = sym (pick_no _ _ _ (le-ltb _ _ c.if-children-child.true))

pub returns : goal.returns
unfolding look_in
returns c = c.ok_or.ensures.value ∙ ap (λ o. ok_or o Fault.Damaged) c.says.ensures ∙ sym (pick_yes _ _ _ (lt-ltb _ _ c.if-children-child.false))
