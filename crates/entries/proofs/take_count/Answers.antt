use mathlib.Core.Path.{refl}
use native.Mathlib.Omega.{arith}
use Rattle.entries.proofs.Turns.{tree_read, flag_bit, tree_refused, tree_stored}
use Rattle.entries.proofs.take_count.Goals as goal

pub returns-in_err-reserved : goal.returns-in_err-reserved
returns-in_err-reserved c = tree_refused _ _ _ _ c.from_residual.ensures.1 c.in_err-reserved.ensures

pub join_tree-requires : goal.join_tree-requires
join_tree-requires c = (flag_bit _ _ _ (tree_read _ _ _ c.in_ok-reserved.ensures), omega arith)

pub bounds-trees-at : goal.bounds-trees-at
bounds-trees-at c = (tree_read _ _ _ c.in_ok-reserved.ensures).there

pub returns : goal.returns
returns c = tree_stored _ _ _ _ (tree_read _ _ _ c.in_ok-reserved.ensures) refl (omega arith) c.join_tree.ensures
