use native.Mathlib.Omega.{arith}
use Rattle.entries.proofs.Sizes.{capacity_most}
use Rattle.entries.specs.Steps.{store_count_in}
use Rattle.entries.proofs.Turns.{within_out, count_within}
use Rattle.entries.proofs.Trees.{store_past, store_within}
use Rattle.entries.proofs.store_count.Goals as goal

pub returns-then-trees-at : goal.returns-then-trees-at
unfolding store_count_in
returns-then-trees-at c = within_out _ _ _ _ c.if-trees-at.true

pub returns-in_err-count : goal.returns-in_err-count
returns-in_err-count c = store_past _ _ _ _ c.if-trees-at.false c.from_residual.ensures.1 c.in_err-count.ensures

pub join_tree-requires : goal.join_tree-requires
join_tree-requires c = (omega arith, let p = count_within _ _ _ c.in_ok-count.ensures in omega (arith, p.0, p.1, capacity_most c.args.size c.args.tree.0))

pub returns : goal.returns
returns c = store_within _ _ _ _ c.if-trees-at.false c.in_ok-count.ensures c.join_tree.ensures
