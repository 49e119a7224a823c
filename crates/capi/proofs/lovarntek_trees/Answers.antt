use Rattle.rules.specs.Numbers.{trees_of}
use mathlib.Core.Path.{sym, ◌∙◌}
use native.Mathlib.Omega.{arith}
use Rattle.capi.proofs.Calls.{length_none, length_some, sized_in}
use Rattle.capi.proofs.lovarntek_trees.Goals as goal

pub returns-then-no_size : goal.returns-then-no_size
returns-then-no_size c = length_none _ _ (sym c.no_size.ensures ∙ c.if-no_size.true)

pub overflow_add-result : goal.overflow_add-result
overflow_add-result c = omega (arith, sized_in _ (sym c.no_size.ensures ∙ c.if-no_size.false))

pub returns : goal.returns
unfolding trees_of
returns c = length_some _ _ (sym c.no_size.ensures ∙ c.if-no_size.false)
