use mathlib.Core.Path.{sym, ◌∙◌}
use native.Mathlib.Omega.{arith}
use borrow.Author.Tests.{ne_eqb}
use Rattle.laws.specs.Tests.{pick}
use Rattle.laws.proofs.Tests.{pick_no}
use Rattle.requests.specs.Lines.{digits_read}
use Rattle.requests.proofs.digits_read.Goals as goal

pub returns-in-32 : goal.returns-in-32
unfolding digits_read pick
returns-in-32 c = rw c.in-32.is c.space_after.ensures

pub returns-in-10 : goal.returns-in-10
unfolding digits_read pick
returns-in-10 c = rw c.in-10.is c.whole_of.ensures

pub returns-in_default : goal.returns-in_default
unfolding digits_read
returns-in_default c = c.digit_read.ensures ∙ sym (pick_no _ _ _ (ne_eqb _ _ (λ e. omega arith)) ∙ pick_no _ _ _ (ne_eqb _ _ (λ e. omega arith)))
