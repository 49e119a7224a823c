use mathlib.Core.Path.{sym, ◌∙◌}
use Rattle.capi.proofs.Calls.{length_none, length_some}
use Rattle.capi.proofs.lovarntek_children.Goals as goal

pub returns-then-no_size : goal.returns-then-no_size
returns-then-no_size c = length_none _ _ (sym c.no_size.ensures ∙ c.if-no_size.true)

pub returns : goal.returns
returns c = length_some _ _ (sym c.no_size.ensures ∙ c.if-no_size.false)
