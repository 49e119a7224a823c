use mathlib.Core.Path.{ap₂}
use Rattle.requests.proofs.number_after.Goals as goal

pub returns : goal.returns
returns c = ap₂ (λ z v. record { zeros = z; value = v }) c.zeros_after.ensures c.value_after.ensures
