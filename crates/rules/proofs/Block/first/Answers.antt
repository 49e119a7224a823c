use mathlib.Core.Path.{sym, ap, ◌∙◌}
use Rattle.rules.specs.Blocks.{first_of}
use Rattle.rules.proofs.Block.first.Goals as goal

pub returns-in-Whole : goal.returns-in-Whole
returns-in-Whole c = c.first_frame.ensures ∙ sym (ap first_of c.in-Whole.is)
