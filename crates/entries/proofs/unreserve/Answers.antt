use mathlib.Core.Path.{refl, ap, ◌∙◌}
use native.Mathlib.Omega.{arith}
use Rattle.rules.specs.Entries.{tree_word}
use Rattle.entries.proofs.Sizes.{capacity_most}
use Rattle.entries.proofs.Turns.{tree_read, count_past, count_within, tree_refused, tree_past, tree_stored}
use Rattle.entries.proofs.unreserve.Goals as goal

pub returns-in_err-count : goal.returns-in_err-count
returns-in_err-count c = tree_refused _ _ _ _ c.from_residual.ensures.1 c.in_err-count.ensures

pub returns-in_err-sum : goal.returns-in_err-sum
returns-in_err-sum c = let s = count_past _ _ _ c.from_residual-in_err-sum.ensures.1 c.in_err-sum.ensures in rw s.0 (tree_past _ _ _ _ (tree_read _ _ _ c.in_ok-count.ensures) refl s.1)

pub join_tree-requires : goal.join_tree-requires
join_tree-requires c = (omega arith, let s = count_within _ _ _ c.in_ok-sum.ensures in omega (arith, s.0, s.1, capacity_most c.args.size c.args.tree.0))

pub bounds-trees-at : goal.bounds-trees-at
bounds-trees-at c = (tree_read _ _ _ c.in_ok-count.ensures).there

pub returns : goal.returns
returns c = let s = count_within _ _ _ c.in_ok-sum.ensures in tree_stored _ _ _ _ (tree_read _ _ _ c.in_ok-count.ensures) refl s.1 (c.join_tree.ensures ∙ ap (tree_word _) s.0)
