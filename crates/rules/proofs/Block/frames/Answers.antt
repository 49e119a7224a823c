use mathlib.Core.Path.{sym, ap, ◌∙◌}
use Rattle.rules.specs.Blocks.{size_of}
use Rattle.rules.proofs.Block.frames.Goals as goal

pub returns-in-Run : goal.returns-in-Run
returns-in-Run c = c.frames.ensures ∙ sym (ap size_of c.in-Run.is)
