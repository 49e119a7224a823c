-- A run from a record that is known, and what its way makes of it.
use mathlib.Core.Path.{◌≡◌, refl, ◌∙◌}
use Prim.Native.Nat.{ℕ, ◌-◌}
use native.Mathlib.Nat.{sub-zero}
use Rattle.rules.specs.declared.Answer.{Answer}
use Rattle.rules.specs.declared.Taking.{Taking}
use Rattle.rules.specs.declared.Giving.{Giving}
use Rattle.rules.specs.declared.Record.{Record}
use Rattle.rules.specs.Zone.{Zone}
use Rattle.rules.specs.Step.{Ran, step, follow, runs}
use Rattle.calls.specs.declared.Ended.{Ended}
use Rattle.calls.specs.declared.Way.{Way}
use Rattle.calls.specs.Results.{ran_to, went_to, WentOn}

-- a get's or put's record, its stage known
pub at_taking : {r : Record} {cpu : ℕ} {s x : Taking} → r ≡ Record.Get cpu s → s ≡ x → r ≡ Record.Get cpu x
at_taking e q = rw q at e

pub at_giving : {r : Record} {cpu : ℕ} {s x : Giving} → r ≡ Record.Put cpu s → s ≡ x → r ≡ Record.Put cpu x
at_giving e q = rw q at e

-- a record that is known: it went on so, or it is left as it stands
module _ (fuel : ℕ) (z : Zone) {r x : Record} (e : r ≡ x) where
  pub went_as : (y : Way) (z' : Zone) → WentOn step fuel 0 x y z' z → WentOn step fuel 0 r y z' z
  went_as y z' w = rw e w

  pub left_as : WentOn step fuel 0 r (Way.Goes x 0) z z
  unfolding went_to
  left_as = rw e refl

-- the end of a way
module _ (fuel : ℕ) (z : Zone) {y : Way} where
  pub way_ended : {e : Ended} → y ≡ Way.Ends e → ran_to e z ≡ went_to step fuel y z
  unfolding went_to
  way_ended q = rw q refl

  pub way_stepped : {r : Record} {k : ℕ} {o : Ran} → y ≡ Way.Goes r k → o ≡ follow step (fuel - k) k (Answer.UnderWay r) z → o ≡ went_to step fuel y z
  unfolding went_to
  way_stepped q s = rw q s

-- a run from its first step on, of n steps at most
pub from_none : (fuel : ℕ) (y : Way) (z' z : Zone) (r : Record) {n : ℕ} {o : Ran} → fuel ≡ n → o ≡ went_to step fuel y z' → WentOn step fuel 0 r y z' z → o ≡ runs n z r
from_none fuel y z' z r e q w = rw (← e) (q ∙ (rw sub-zero at w))
