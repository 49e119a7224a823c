use mathlib.Core.Path.{refl, ◌∙◌}
use native.Mathlib.Omega.{arith}
use borrow.Author.Rules.{rules}
use Rattle.rules.specs.Conversions.{tree}
use Rattle.rules.specs.Open.{trees_formed}
use Rattle.looks.specs.Entries.{tree_formed_in}
use Rattle.looks.specs.Looks.{trees_formed_in}
use Rattle.looks.proofs.Loops.{every_ran, lacks, has, every_same}
use Rattle.looks.proofs.Entries.{all_trees, tree_formed_same}
use Rattle.looks.proofs.trees_formed.Goals as goal

pub returns-then-trees-n : goal.returns-then-trees-n
unfolding trees_formed_in
returns-then-trees-n c = lacks (all_trees _ c.trees-n.ensures) _ c.if-trees-n.true

pub returns : goal.returns
unfolding trees_formed_in trees_formed
returns c =
    let n = all_trees c.args.shape c.trees-n.ensures in
    has n c.if-trees-n.false (every_ran _ (λ i. tree_formed_in c.args.shape (tree i) c.args.trees.now) c.all.ensures.ran refl (λ x b q k. search rules) ∙ every_same n (λ i l. tree_formed_same _ _ _ (omega arith)))
