use Rattle.std.specs.Prelude.{Ok}
use mathlib.Core.Path.{sym, ap}
use Rattle.lower.proofs.Tables.{step_changed, step_out, step_in_lem}
use Rattle.rules.specs.Lower.{changed, count_word, fresh_child}
use Rattle.lower.proofs.store_fresh_child.Goals as goal

pub returns-then-children-child : goal.returns-then-children-child
returns-then-children-child c = step_out _ _ _ _ _ c.if-children-child.true

pub returns : goal.returns
unfolding fresh_child count_word
returns c = step_in_lem _ _ _ _ _ c.if-children-child.false (step_changed _ _ _ (sym (ap (changed (Ok tt)) c.join_child.ensures)))
