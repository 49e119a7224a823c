-- A run that follows a beginning: the refusal ends it, and the record under way goes on.
use mathlib.Core.Path.{◌≡◌, ap, ◌∙◌}
use Prim.Native.Nat.{ℕ}
use native.Mathlib.Nat.{sub-zero}
use Rattle.rules.specs.Zone.{Zone}
use Rattle.rules.specs.Plan.{Plan}
use Rattle.rules.specs.Step.{follow}
use Rattle.calls.specs.declared.Way.{Way}
use Rattle.calls.specs.Results.{Result, result_of, done, way_of, went_to, WentOn}
use Rattle.calls.proofs.Runs.{way_goes}
use Rattle.begins.specs.Types.{Record, Answer}

module _ (f : Zone → Record → Plan) (fuel : ℕ) (z : Zone) (p : Plan) where
  follows : {a : Answer} → result_of a z ≡ done z p → follow f fuel 0 a z ≡ follow f fuel 0 p.answer z
  follows e = ap (λ (o : Result). follow f fuel 0 o.answer z) e

  pub way_refused : (a : Answer) {y : Way} → result_of a z ≡ done z p → y ≡ way_of a 0 → went_to f fuel y z ≡ follow f fuel 0 p.answer z
  way_refused a e q = ap (λ y. went_to f fuel y z) q ∙ (rw sub-zero at (way_goes f fuel 0 a z)) ∙ follows e

  pub way_begun : (r : Record) (y : Way) (z' : Zone) → result_of (Answer.UnderWay r) z ≡ done z p → WentOn f fuel 0 r y z' z → went_to f fuel y z' ≡ follow f fuel 0 p.answer z
  way_begun r y z' e w = (rw sub-zero at w) ∙ follows e
