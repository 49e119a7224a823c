use mathlib.Core.Path.{refl}
use native.Mathlib.Omega.{arith}
use Rattle.laws.specs.Tests.{pick}
use Rattle.records.specs.Decoding.{opening_at}
use Rattle.records.proofs.Picks.{other}
use Rattle.records.proofs.opening_at.Goals as goal

pub returns-in-27 : goal.returns-in-27
unfolding opening_at pick
returns-in-27 c = rw (c.in-27.is, c.short.ensures) refl

pub returns-in-28 : goal.returns-in-28
unfolding opening_at pick
returns-in-28 c = rw (c.in-28.is, c.split_second.ensures) refl

pub returns-in_default : goal.returns-in_default
unfolding opening_at
returns-in_default c = other _ (λ e. omega arith) (other _ (λ e. omega arith) refl)
