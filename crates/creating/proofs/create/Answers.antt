use mathlib.Core.Path.{sym, ◌∙◌}
use Rattle.creating.proofs.Steps.{create_refused, create_none, create_begun}
use Rattle.creating.proofs.create.Goals as goal

pub returns-in-Err : goal.returns-in-Err
returns-in-Err c = create_refused _ _ _ _ _ _ (sym c.creatable.ensures ∙ c.in-Err.is)

pub returns-in-Ok-store_unborn : goal.returns-in-Ok-store_unborn
returns-in-Ok-store_unborn c = create_begun _ _ _ _ _ _ (sym c.creatable.ensures ∙ c.in-Ok.is) _ c.store_unborn.ensures c.creating.ensures

pub returns-in-Err-store_unborn : goal.returns-in-Err-store_unborn
returns-in-Err-store_unborn c = create_none _ _ _ _ _ _ (sym c.creatable.ensures ∙ c.in-Ok.is) _ c.store_unborn.ensures c.in-Err-store_unborn.is
