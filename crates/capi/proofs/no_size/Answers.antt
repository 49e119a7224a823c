use mathlib.Core.Path.{◌∙◌}
use borrow.Author.Tests.{eq-eqb}
use Rattle.capi.proofs.Calls.{no_zone, too_many}
use Rattle.capi.proofs.no_size.Goals as goal

pub returns-then-n-eq0 : goal.returns-then-n-eq0
returns-then-n-eq0 c = eq-eqb _ _ c.if-n-eq0.true ∙ no_zone _ c.if-n-eq0.true

pub returns-else-n-eq0 : goal.returns-else-n-eq0
returns-else-n-eq0 c = too_many _ c.if-n-eq0.false
