use mathlib.Core.Path.{refl, ◌∙◌}
use native.Mathlib.Omega.{arith}
use borrow.Author.Rules.{rules}
use Rattle.rules.specs.Conversions.{tree}
use Rattle.looks.specs.Entries.{tree_settled_in}
use Rattle.looks.specs.Looks.{trees_settled_in}
use Rattle.looks.proofs.Loops.{every_ran, lacks, has, every_same}
use Rattle.looks.proofs.Entries.{all_trees, tree_settled_same}
use Rattle.looks.proofs.trees_settled.Goals as goal

pub returns-then-children-huge_frames : goal.returns-then-children-huge_frames
unfolding trees_settled_in
returns-then-children-huge_frames c = lacks c.huge_frames.ensures _ c.if-children-huge_frames.true

pub returns-then-trees-n : goal.returns-then-trees-n
unfolding trees_settled_in
returns-then-trees-n c = has c.huge_frames.ensures c.if-children-huge_frames.false (lacks (all_trees c.args.shape c.trees-n.ensures) _ c.if-trees-n.true)

pub returns-then-cpus-shape : goal.returns-then-cpus-shape
unfolding trees_settled_in
returns-then-cpus-shape c = has c.huge_frames.ensures c.if-children-huge_frames.false (has (all_trees c.args.shape c.trees-n.ensures) c.if-trees-n.false (lacks refl _ c.if-cpus-shape.true))

pub returns : goal.returns
unfolding trees_settled_in
returns c =
    let n = all_trees c.args.shape c.trees-n.ensures in
    has c.huge_frames.ensures c.if-children-huge_frames.false
    (has n c.if-trees-n.false
    (has refl c.if-cpus-shape.false
    (every_ran _ (λ i. tree_settled_in c.args.shape (tree i) c.args.children.now c.args.trees.now c.args.cpus.now) c.all.ensures.ran refl (λ x b q k. search rules)
    ∙ every_same n (λ i l. tree_settled_same _ _ _ _ _ (omega arith) (omega (arith, c.huge_frames.ensures)) (omega arith) (omega arith)))))
