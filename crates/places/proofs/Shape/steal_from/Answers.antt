use mathlib.Core.Path.{sym}
use borrow.Author.Tests.{lt-ltb, le-ltb}
use Rattle.laws.proofs.Tests.{pick_yes, pick_no}
use Rattle.places.proofs.Shape.steal_from.Goals as goal

pub returns-then-from-self : goal.returns-then-from-self
returns-then-from-self c = sym (pick_yes _ _ _ (lt-ltb _ _ c.if-from-self.true))

pub returns : goal.returns
returns c = sym (pick_no _ _ _ (le-ltb _ _ c.if-from-self.false))
