use mathlib.Core.Path.{refl}
use mathlib.Core.List.{[], ◌∷◌}
use Rattle.laws.specs.Tests.{◌below◌}
use borrow.Author.Tests.{lt-ltb, le-ltb}
use Rattle.places.proofs.Ranges.{one_check, below_check, then_tells, then_fails}
use Rattle.places.proofs.Shape.steal_in.Goals as goal

pub returns-then-from-self : goal.returns-then-from-self
returns-then-from-self c = then_tells (c.args.from below c.args.self.cpus ∷ []) _ (below_check _ refl) (lt-ltb _ _ c.if-from-self.true) (one_check _)

pub returns-else-from-self : goal.returns-else-from-self
returns-else-from-self c = then_fails (c.args.from below c.args.self.cpus ∷ []) _ (below_check _ refl) (le-ltb _ _ c.if-from-self.false)
