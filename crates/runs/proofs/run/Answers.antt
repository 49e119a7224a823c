use Rattle.runs.proofs.Went.{way_ended, way_stepped, from_none}
use Rattle.runs.proofs.run.Goals as goal

pub returns-in-Ends : goal.returns-in-Ends
returns-in-Ends c = from_none _ _ _ _ _ c.at_least_one-most.ensures (way_ended _ _ c.in-Ends.is) c.first_way.ensures

pub returns-in-Goes : goal.returns-in-Goes
returns-in-Goes c = from_none _ _ _ _ _ c.at_least_one-most.ensures (way_stepped _ _ c.in-Goes.is c.step_on.ensures) c.first_way.ensures
