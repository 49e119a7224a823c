use mathlib.Core.Path.{sym, ap, ◌∙◌}
use Rattle.rules.specs.Blocks.{size}
use Rattle.rules.proofs.Order.frames.Goals as goal

pub returns-in-Run : goal.returns-in-Run
returns-in-Run c = c.frames.ensures ∙ sym (ap size c.in-Run.is)
