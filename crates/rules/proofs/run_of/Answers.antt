use mathlib.Core.Path.{refl}
use borrow.Author.Tests.{ne_eqb}
use Rattle.laws.specs.Tests.{pick}
use Rattle.rules.specs.Begin.{run_of}
use Rattle.rules.proofs.run_of.Goals as goal

pub returns-in-0 : goal.returns-in-0
unfolding run_of pick
returns-in-0 c = rw c.in-0.is refl

pub returns-in-1 : goal.returns-in-1
unfolding run_of pick
returns-in-1 c = rw c.in-1.is refl

pub returns-in-2 : goal.returns-in-2
unfolding run_of pick
returns-in-2 c = rw c.in-2.is refl

pub returns-in-3 : goal.returns-in-3
unfolding run_of pick
returns-in-3 c = rw c.in-3.is refl

pub returns-in-4 : goal.returns-in-4
unfolding run_of pick
returns-in-4 c = rw c.in-4.is refl

pub returns-in-5 : goal.returns-in-5
unfolding run_of pick
returns-in-5 c = rw c.in-5.is refl

pub returns-in_default : goal.returns-in_default
unfolding run_of pick
returns-in_default c = let m = c.in_default.in_default-own.rest in rw (ne_eqb _ 0 m.0.0.0.0.0.1, ne_eqb _ 1 m.0.0.0.0.1, ne_eqb _ 2 m.0.0.0.1, ne_eqb _ 3 m.0.0.1, ne_eqb _ 4 m.0.1, ne_eqb _ 5 m.1) refl
