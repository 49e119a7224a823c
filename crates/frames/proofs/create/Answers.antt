use Rattle.rules.specs.Create.{create_step}
use Rattle.frames.specs.Requests.{fuel}
use Rattle.frames.proofs.Runs.{goes_on_lem, ends_at_once}
use Rattle.frames.proofs.create.Goals as goal

pub returns-in-Some : goal.returns-in-Some
returns-in-Some c = goes_on_lem (create_step _) fuel c.create-answer.ensures c.next_of.ensures c.in-Some.is c.run.ensures

pub returns-in-None : goal.returns-in-None
returns-in-None c = ends_at_once (create_step _) fuel c.create-answer.ensures c.next_of.ensures c.in-None.is
