use Rattle.laws.specs.Tests.{pick}
use Rattle.records.specs.Encoding.{fields_of, taking_fields}
use Rattle.records.specs.Decoding.{taking_at}
use Rattle.records.proofs.Returns.{last_again}
use Rattle.records.proofs.again_taking.Goals as goal

pub returns-in-1 : goal.returns-in-1
unfolding taking_at pick fields_of taking_fields
returns-in-1 c = rw c.in-1.is (rw c.order_at-order.ensures at c.held.ensures)

pub returns-in-2 : goal.returns-in-2
unfolding taking_at pick fields_of taking_fields
returns-in-2 c = rw c.in-2.is (rw (c.tree_spot.ensures, c.split_second-tail.ensures, c.order_at-order.ensures) at c.held-in-2.ensures)

pub returns-in-3 : goal.returns-in-3
unfolding taking_at pick fields_of taking_fields
returns-in-3 c = rw c.in-3.is (rw (c.tree_spot-in-3.ensures, c.split_second-tail.ensures, c.order_at-order.ensures) at c.held-in-3.ensures)

pub returns-in-4 : goal.returns-in-4
unfolding taking_at pick fields_of taking_fields
returns-in-4 c = rw c.in-4.is (rw (c.tree_spot-in-4.ensures, c.split_second-tail.ensures, c.order_at-order.ensures) at c.held-in-4.ensures)

pub returns-in-5 : goal.returns-in-5
unfolding taking_at pick fields_of taking_fields
returns-in-5 c = rw c.in-5.is (rw (c.tree_spot-in-5.ensures, c.split_second-tail.ensures, c.order_at-order.ensures) at c.held-in-5.ensures)

pub returns-in-6 : goal.returns-in-6
unfolding taking_at pick fields_of taking_fields
returns-in-6 c = rw c.in-6.is (rw (c.from.ensures, c.place_at.ensures, c.split_second-tail.ensures, c.order_at-order.ensures) at c.held-in-6.ensures)

pub returns-in-7 : goal.returns-in-7
unfolding taking_at pick fields_of taking_fields
returns-in-7 c = rw c.in-7.is (rw (c.from-in-7.ensures, c.place_at-in-7.ensures, c.split_second-tail.ensures, c.order_at-order.ensures) at c.held-in-7.ensures)

pub returns-in-8 : goal.returns-in-8
unfolding taking_at pick fields_of taking_fields
returns-in-8 c = rw c.in-8.is (rw (c.from-in-8.ensures, c.pass_at.ensures, c.split_second-tail.ensures, c.order_at-order.ensures) at c.held-in-8.ensures)

pub returns-in-9 : goal.returns-in-9
unfolding taking_at pick fields_of taking_fields
returns-in-9 c = rw c.in-9.is (rw (c.from-in-9.ensures, c.found_at.ensures, c.split_second-tail.ensures, c.order_at-order.ensures) at c.held-in-9.ensures)

pub returns-in-10 : goal.returns-in-10
unfolding taking_at pick fields_of taking_fields
returns-in-10 c = rw c.in-10.is (rw (c.from_spot.ensures, c.split_second-tail.ensures, c.order_at-order.ensures) at c.held-in-10.ensures)

pub returns-in-11 : goal.returns-in-11
unfolding taking_at pick fields_of taking_fields
returns-in-11 c = rw c.in-11.is (rw (c.from-in-11.ensures, c.split_second-tail.ensures, c.order_at-order.ensures) at c.held-in-11.ensures)

pub returns-in-12 : goal.returns-in-12
unfolding taking_at pick fields_of taking_fields
returns-in-12 c = rw c.in-12.is (rw (c.place_at-in-12.ensures, c.split_second-tail.ensures, c.order_at-order.ensures) at c.searched.ensures)

pub returns-in-13 : goal.returns-in-13
unfolding taking_at pick fields_of taking_fields
returns-in-13 c = rw c.in-13.is (rw (c.place_at-in-13.ensures, c.run_of.ensures, c.split_second-tail.ensures) at c.searched-in-13.ensures)

pub returns-in-14 : goal.returns-in-14
unfolding taking_at pick fields_of taking_fields
returns-in-14 c = rw c.in-14.is (rw (c.place_at-in-14.ensures, c.run_of-in-14.ensures, c.split_second-tail.ensures) at c.searched-in-14.ensures)

pub returns-in-15 : goal.returns-in-15
unfolding taking_at pick fields_of taking_fields
returns-in-15 c = rw c.in-15.is (rw c.block_at.ensures at c.blocked.ensures)

pub returns-in-16 : goal.returns-in-16
unfolding taking_at pick fields_of taking_fields
returns-in-16 c = rw c.in-16.is (rw (c.from-in-16.ensures, c.place_at-in-16.ensures, c.split_second-tail.ensures, c.order_at-order.ensures) at c.held-in-16.ensures)

pub returns-in_default : goal.returns-in_default
unfolding fields_of taking_fields
returns-in_default c = last_again _ _ _ c.in_default.in_default-own.rest c.held-in_default.ensures
