use mathlib.Core.Path.{sym, ◌∙◌}
use native.Mathlib.Omega.{arith}
use borrow.Author.Tests.{ne_eqb}
use Rattle.laws.specs.Tests.{pick}
use Rattle.laws.proofs.Tests.{pick_no}
use Rattle.requests.specs.Lines.{letter_of}
use Rattle.requests.proofs.letter_of.Goals as goal

pub returns-in-122 : goal.returns-in-122
unfolding letter_of pick
returns-in-122 c = rw c.in-122.is

pub returns-in-103 : goal.returns-in-103
unfolding letter_of pick
returns-in-103 c = rw c.in-103.is

pub returns-in-112 : goal.returns-in-112
unfolding letter_of pick
returns-in-112 c = rw c.in-112.is

pub returns-in_default : goal.returns-in_default
unfolding letter_of
returns-in_default c = sym (pick_no _ _ _ (ne_eqb _ _ (λ e. omega arith)) ∙ pick_no _ _ _ (ne_eqb _ _ (λ e. omega arith)) ∙ pick_no _ _ _ (ne_eqb _ _ (λ e. omega arith)))
