use mathlib.Core.Path.{ap}
use Rattle.calls.specs.Results.{Result}
use Rattle.std.specs.Prelude.{Some}
use Rattle.frames.proofs.begin.Goals as goal

pub returns-in-Get : goal.returns-in-Get
returns-in-Get c = rw c.in-Get.is (ap (λ (o : Result). Some o.answer) c.begin_get.ensures)

pub returns-in-Put : goal.returns-in-Put
returns-in-Put c = rw c.in-Put.is (ap (λ (o : Result). Some o.answer) c.begin_put.ensures)
