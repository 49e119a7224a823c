use mathlib.Core.Path.{sym, ◌∙◌}
use native.Mathlib.Numerals.{add-one}
use borrow.Author.Tests.{eq-eqb, ne_eqb}
use Rattle.laws.proofs.Tests.{pick_yes, pick_no}
use Rattle.places.proofs.skip.Goals as goal

pub returns-then-i-x : goal.returns-then-i-x
returns-then-i-x c = add-one _ ∙ sym (pick_yes _ _ _ (eq-eqb _ _ c.if-i-x.true))

pub returns-else-i-x : goal.returns-else-i-x
returns-else-i-x c = sym (pick_no _ _ _ (ne_eqb _ _ c.if-i-x.false))
