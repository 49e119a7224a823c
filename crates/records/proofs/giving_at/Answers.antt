use mathlib.Core.Path.{refl, ap}
use native.Mathlib.Omega.{arith}
use Rattle.laws.specs.Tests.{pick}
use Rattle.records.specs.Types.{Giving}
use Rattle.records.specs.Decoding.{giving_at}
use Rattle.records.proofs.Picks.{other}
use Rattle.records.proofs.giving_at.Goals as goal

pub returns-in-18 : goal.returns-in-18
unfolding giving_at pick
returns-in-18 c = rw (c.in-18.is, c.block_at.ensures) refl

pub returns-in-19 : goal.returns-in-19
unfolding giving_at pick
returns-in-19 c = rw (c.in-19.is, c.run_of.ensures) refl

pub returns-in-20 : goal.returns-in-20
unfolding giving_at pick
returns-in-20 c = rw (c.in-20.is, c.block_at-in-20.ensures) refl

pub returns-in_default : goal.returns-in_default
unfolding giving_at
returns-in_default c = other _ (λ e. omega arith) (other _ (λ e. omega arith) (other _ (λ e. omega arith) (ap Giving.ToTree c.block_at-in_default.ensures)))
