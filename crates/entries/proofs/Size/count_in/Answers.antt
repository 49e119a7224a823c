use mathlib.Core.Path.{sym}
use native.Mathlib.Omega.{arith}
use borrow.Author.Tests.{lt-leb, le-leb}
use Rattle.laws.proofs.Tests.{pick_yes, pick_no}
use Rattle.entries.specs.Steps.{count_in}
use Rattle.entries.proofs.Size.count_in.Goals as goal

pub returns-then-capacity_of-count : goal.returns-then-capacity_of-count
unfolding count_in
returns-then-capacity_of-count c = sym (pick_no _ _ _ (lt-leb _ _ (omega (arith, c.if-capacity_of-count.true, c.capacity_of.ensures))))

pub returns : goal.returns
unfolding count_in
returns c = sym (pick_yes _ _ _ (le-leb _ _ (omega (arith, c.if-capacity_of-count.false, c.capacity_of.ensures))))
