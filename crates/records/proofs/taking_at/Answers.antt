use mathlib.Core.Path.{refl}
use Rattle.laws.specs.Tests.{pick}
use Rattle.records.specs.Decoding.{taking_at}
use Rattle.records.proofs.Returns.{last_taking}
use Rattle.records.proofs.taking_at.Goals as goal

pub returns-in-1 : goal.returns-in-1
unfolding taking_at pick
returns-in-1 c = rw (c.in-1.is, c.order_at-order.ensures) refl

pub returns-in-2 : goal.returns-in-2
unfolding taking_at pick
returns-in-2 c = rw (c.in-2.is, c.split_second-tail.ensures, c.order_at-order.ensures) refl

pub returns-in-3 : goal.returns-in-3
unfolding taking_at pick
returns-in-3 c = rw (c.in-3.is, c.split_second-tail.ensures, c.order_at-order.ensures) refl

pub returns-in-4 : goal.returns-in-4
unfolding taking_at pick
returns-in-4 c = rw (c.in-4.is, c.split_second-tail.ensures, c.order_at-order.ensures) refl

pub returns-in-5 : goal.returns-in-5
unfolding taking_at pick
returns-in-5 c = rw (c.in-5.is, c.split_second-tail.ensures, c.order_at-order.ensures) refl

pub returns-in-6 : goal.returns-in-6
unfolding taking_at pick
returns-in-6 c = rw (c.in-6.is, c.place_at.ensures, c.split_second-tail.ensures, c.order_at-order.ensures) refl

pub returns-in-7 : goal.returns-in-7
unfolding taking_at pick
returns-in-7 c = rw (c.in-7.is, c.place_at-in-7.ensures, c.split_second-tail.ensures, c.order_at-order.ensures) refl

pub returns-in-8 : goal.returns-in-8
unfolding taking_at pick
returns-in-8 c = rw (c.in-8.is, c.pass_at.ensures, c.split_second-tail.ensures, c.order_at-order.ensures) refl

pub returns-in-9 : goal.returns-in-9
unfolding taking_at pick
returns-in-9 c = rw (c.in-9.is, c.found_at.ensures, c.split_second-tail.ensures, c.order_at-order.ensures) refl

pub returns-in-10 : goal.returns-in-10
unfolding taking_at pick
returns-in-10 c = rw (c.in-10.is, c.split_second-tail.ensures, c.order_at-order.ensures) refl

pub returns-in-11 : goal.returns-in-11
unfolding taking_at pick
returns-in-11 c = rw (c.in-11.is, c.split_second-tail.ensures, c.order_at-order.ensures) refl

pub returns-in-12 : goal.returns-in-12
unfolding taking_at pick
returns-in-12 c = rw (c.in-12.is, c.place_at-in-12.ensures, c.split_second-tail.ensures, c.order_at-order.ensures) refl

pub returns-in-13 : goal.returns-in-13
unfolding taking_at pick
returns-in-13 c = rw (c.in-13.is, c.run_of.ensures, c.place_at-in-13.ensures, c.split_second-tail.ensures) refl

pub returns-in-14 : goal.returns-in-14
unfolding taking_at pick
returns-in-14 c = rw (c.in-14.is, c.run_of-in-14.ensures, c.place_at-in-14.ensures, c.split_second-tail.ensures) refl

pub returns-in-15 : goal.returns-in-15
unfolding taking_at pick
returns-in-15 c = rw (c.in-15.is, c.block_at.ensures) refl

pub returns-in-16 : goal.returns-in-16
unfolding taking_at pick
returns-in-16 c = rw (c.in-16.is, c.place_at-in-16.ensures, c.split_second-tail.ensures, c.order_at-order.ensures) refl

pub returns-in_default : goal.returns-in_default
returns-in_default c = last_taking _ _ _ c.in_default.in_default-own.rest
