use mathlib.Core.Path.{sym, ◌∙◌}
use borrow.Author.Tests.{eq-eqb, ne_eqb}
use Rattle.laws.proofs.Tests.{pick_yes, pick_no}
use Rattle.entries.specs.Sizes.{zoned_in}
use Rattle.entries.proofs.zone_says.Goals as goal

pub returns-then-header-ne1 : goal.returns-then-header-ne1
unfolding zoned_in
returns-then-header-ne1 c = sym (pick_no _ _ _ (ne_eqb _ _ c.if-header-ne1.true))

pub returns : goal.returns
unfolding zoned_in
returns c = c.header_says.ensures ∙ sym (pick_yes _ _ _ (eq-eqb _ _ c.if-header-ne1.false))
