use mathlib.Core.Path.{refl}
use Rattle.rules.specs.Step.{step}
use Rattle.frames.specs.Requests.{fuel}
use Rattle.frames.proofs.Runs.{goes_on_lem, ends_at_once}
use Rattle.frames.proofs.run.Goals as goal

pub returns-in-Some : goal.returns-in-Some
returns-in-Some c = goes_on_lem step fuel refl c.next_of.ensures c.in-Some.is c.run.ensures

pub returns-in-None : goal.returns-in-None
returns-in-None c = ends_at_once step fuel refl c.next_of.ensures c.in-None.is
