use mathlib.Core.Path.{refl}
use Rattle.calls.specs.Results.{went_to}
use Rattle.runs.proofs.Went.{at_taking, at_giving, went_as, left_as}
use Rattle.runs.proofs.first_way.Goals as goal

pub returns-in-Own : goal.returns-in-Own
returns-in-Own c = went_as _ _ (at_taking c.in-Get.is c.in-Own.is) _ _ c.get_on.ensures

pub returns-in-Clear : goal.returns-in-Clear
returns-in-Clear c = went_as _ _ (at_giving c.in-Put.is c.in-Clear.is) _ _ c.put_on.ensures

pub returns-in_default : goal.returns-in_default
unfolding went_to
returns-in_default c = refl

pub returns-in_default-stage : goal.returns-in_default-stage
returns-in_default-stage c = left_as _ _ c.in-Get.is

pub returns-in_default-stage-2 : goal.returns-in_default-stage-2
returns-in_default-stage-2 c = left_as _ _ c.in-Put.is
