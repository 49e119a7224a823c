use mathlib.Core.Path.{sym, ◌∙◌}
use Rattle.capi.proofs.Calls.{create_size, create_short}
use Rattle.capi.proofs.no_create_record.Goals as goal

pub returns-then-no_size : goal.returns-then-no_size
returns-then-no_size c = create_size _ (sym c.no_size.ensures ∙ c.if-no_size.true)

pub returns : goal.returns
returns c = create_short _ (sym c.no_size.ensures ∙ c.if-no_size.false)
