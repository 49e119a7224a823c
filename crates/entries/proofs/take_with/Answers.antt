use mathlib.Core.Path.{ap, ◌∙◌}
use native.Mathlib.Omega.{arith}
use borrow.Author.Tests.{lt-leb, le-leb}
use Rattle.std.specs.Prelude.{Ok}
use Rattle.laws.proofs.Tests.{pick_yes, pick_no}
use Rattle.rules.specs.Plan.{tally}
use Rattle.entries.specs.Turns.{stores}
use Rattle.entries.proofs.Turns.{tree_read, flag_bit, count_past, count_within, tree_refused, tree_kept, tree_stored}
use Rattle.entries.proofs.take_with.Goals as goal

pub returns-in_err-reserved : goal.returns-in_err-reserved
returns-in_err-reserved c = tree_refused _ _ _ _ c.from_residual.ensures.1 c.in_err-reserved.ensures

pub returns-in_err-sum : goal.returns-in_err-sum
returns-in_err-sum c = let s = count_past _ _ _ c.from_residual-in_err-sum.ensures.1 c.in_err-sum.ensures in rw s.0 (tree_kept _ _ _ _ (tree_read _ _ _ c.in_ok-reserved.ensures) (pick_no _ _ _ (lt-leb _ _ (omega (arith, s.1)))))

pub join_tree-requires : goal.join_tree-requires
join_tree-requires c = (flag_bit _ _ _ (tree_read _ _ _ c.in_ok-reserved.ensures), omega arith)

pub bounds-trees-at : goal.bounds-trees-at
bounds-trees-at c = (tree_read _ _ _ c.in_ok-reserved.ensures).there

pub returns : goal.returns
returns c = let s = count_within _ _ _ c.in_ok-sum.ensures in tree_stored _ _ _ _ (tree_read _ _ _ c.in_ok-reserved.ensures) (pick_yes _ _ _ (le-leb _ _ (omega (arith, s.1))) ∙ ap (λ n. stores (tally c.in_ok-reserved.field-0.reserved 0) (Ok n)) (omega (arith, s.0))) (omega arith) c.join_tree.ensures
