use native.Mathlib.Omega.{arith}
use Rattle.laws.specs.Tests.{pick}
use Rattle.records.specs.Encoding.{fields_of, giving_fields}
use Rattle.records.specs.Decoding.{giving_at}
use Rattle.records.proofs.Returns.{last_given}
use Rattle.records.proofs.again_giving.Goals as goal

pub returns-in-18 : goal.returns-in-18
unfolding giving_at pick fields_of giving_fields
returns-in-18 c = rw c.in-18.is (rw c.block_at.ensures at c.blocked.ensures)

pub returns-in-19 : goal.returns-in-19
unfolding giving_at pick fields_of giving_fields
returns-in-19 c = rw c.in-19.is (rw c.run_of.ensures at c.blocked-in-19.ensures)

pub returns-in-20 : goal.returns-in-20
unfolding giving_at pick fields_of giving_fields
returns-in-20 c = rw c.in-20.is (rw c.block_at-in-20.ensures at c.blocked-in-20.ensures)

pub returns-in_default : goal.returns-in_default
unfolding fields_of giving_fields
returns-in_default c = last_given _ _ (λ e. omega arith) (λ e. omega arith) (λ e. omega arith) (rw c.block_at-in_default.ensures at c.blocked-in_default.ensures)
