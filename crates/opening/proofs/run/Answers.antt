use Rattle.opening.proofs.Recounts.{run_ended, run_went_on}
use Rattle.opening.proofs.run.Goals as goal

pub returns-in-Ends : goal.returns-in-Ends
returns-in-Ends c = run_ended _ _ _ _ _ c.at_least_one-most.ensures c.way.ensures c.in-Ends.is

pub returns-in-Goes : goal.returns-in-Goes
returns-in-Goes c = run_went_on _ _ _ _ _ c.at_least_one-most.ensures c.way.ensures c.in-Goes.is c.step_on.ensures
