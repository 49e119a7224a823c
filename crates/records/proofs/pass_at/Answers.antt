use mathlib.Core.Path.{refl}
use native.Mathlib.Omega.{arith}
use Rattle.laws.specs.Tests.{pick}
use Rattle.records.specs.Decoding.{pass_at}
use Rattle.records.proofs.Picks.{other}
use Rattle.records.proofs.pass_at.Goals as goal

pub returns-in-2 : goal.returns-in-2
unfolding pass_at pick
returns-in-2 c = rw c.in-2.is refl

pub returns-in-3 : goal.returns-in-3
unfolding pass_at pick
returns-in-3 c = rw c.in-3.is refl

pub returns-in-4 : goal.returns-in-4
unfolding pass_at pick
returns-in-4 c = rw c.in-4.is refl

pub returns-in_default : goal.returns-in_default
unfolding pass_at
returns-in_default c = other _ (λ e. omega arith) (other _ (λ e. omega arith) (other _ (λ e. omega arith) refl))
