-- A contract that gives a call's result, or where a run ends, leaves one only.
use mathlib.Core.Path.{◌≡◌, sym, ap, ◌∙◌}
use Rattle.rules.specs.Zone.{Zone}
use Rattle.rules.specs.Step.{Ran}
use Rattle.calls.specs.Types.{Answer, Ended}
use Rattle.calls.specs.Results.{Result, result_of, ran_to}

-- two results that a call's contract permits are equal: the answers and the tables
pub same_result : (o : Result) (a b : Answer) (z y : Zone) → result_of a z ≡ o → result_of b y ≡ o → (a ≡ b) × (z ≡ y)
same_result o a b z y p q = (ap (λ (x : Result). x.answer) (p ∙ sym q), ap (λ (x : Result). x.zone) (p ∙ sym q))

-- two ends that a run's contract permits are equal: the answers and the steps, and the tables
pub same_run : (o : Ran) (r s : Ended) (z y : Zone) → ran_to r z ≡ o → ran_to s y ≡ o → (r ≡ s) × (z ≡ y)
same_run o r s z y p q = (ap (λ (x : Ran). record { answer = x.answer; steps = x.steps }) (p ∙ sym q), ap (λ (x : Ran). x.zone) (p ∙ sym q))
