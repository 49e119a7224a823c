use mathlib.Core.Path.{refl}
use native.Mathlib.Omega.{arith}
use Rattle.laws.specs.Tests.{pick}
use Rattle.records.specs.Decoding.{creating_at}
use Rattle.records.proofs.Picks.{other}
use Rattle.records.proofs.creating_at.Goals as goal

pub returns-in-22 : goal.returns-in-22
unfolding creating_at pick
returns-in-22 c = rw (c.in-22.is, c.short.ensures) refl

pub returns-in-23 : goal.returns-in-23
unfolding creating_at pick
returns-in-23 c = rw (c.in-23.is, c.short-in-23.ensures) refl

pub returns-in-24 : goal.returns-in-24
unfolding creating_at pick
returns-in-24 c = rw (c.in-24.is, c.split_second.ensures) refl

pub returns-in-25 : goal.returns-in-25
unfolding creating_at pick
returns-in-25 c = rw c.in-25.is refl

pub returns-in_default : goal.returns-in_default
unfolding creating_at
returns-in_default c = other _ (λ e. omega arith) (other _ (λ e. omega arith) (other _ (λ e. omega arith) (other _ (λ e. omega arith) refl)))
