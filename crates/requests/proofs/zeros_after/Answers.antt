use mathlib.Core.Path.{sym, ◌∙◌}
use mathlib.Core.Logic.{inl, inr}
use native.Mathlib.Omega.{arith}
use borrow.Author.Tests.{eq-eqb, ne_eqb}
use Rattle.laws.proofs.Tests.{pick_yes, pick_no}
use Rattle.requests.proofs.Scans.{another_zero}
use Rattle.requests.specs.Lines.{zeros_after}
use Rattle.requests.proofs.zeros_after.Goals as goal

pub returns-then-number-ne0 : goal.returns-then-number-ne0
unfolding zeros_after
returns-then-number-ne0 c =
    elim c.then-number-ne0.either [
      | inl n ↦ sym (pick_no _ _ _ (ne_eqb _ _ n))
      | inr p ↦ sym (pick_yes _ _ _ (eq-eqb _ _ p.0) ∙ pick_no _ _ _ (ne_eqb _ _ p.1))
    ]

pub returns : goal.returns
returns c = another_zero _ _ c.if-number-ne0.false c.if-digit-ne0.false (omega arith)
