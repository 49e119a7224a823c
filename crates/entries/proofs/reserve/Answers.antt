use Rattle.entries.proofs.Turns.{tree_read}
use Rattle.entries.proofs.Trees.{reserve_refused, reserve_set, reserve_few, reserve_other, reserve_taken}
use Rattle.entries.proofs.reserve.Goals as goal

pub returns-in_err-reserved : goal.returns-in_err-reserved
returns-in_err-reserved c = reserve_refused c.args.size c.args.pass c.args.frames _ c.tree-tree.ensures c.from_residual.ensures.1 c.in_err-reserved.ensures

pub returns-then-reserved-ne0 : goal.returns-then-reserved-ne0
returns-then-reserved-ne0 c = reserve_set c.args.size c.args.pass c.args.frames _ c.tree-tree.ensures (tree_read _ _ _ c.in_ok-reserved.ensures) c.if-reserved-ne0.true

pub returns-then-count-frames : goal.returns-then-count-frames
returns-then-count-frames c = reserve_few c.args.size c.args.pass c.args.frames _ c.tree-tree.ensures (tree_read _ _ _ c.in_ok-reserved.ensures) c.if-count-frames.true

pub bounds-trees-at : goal.bounds-trees-at
bounds-trees-at c = (tree_read _ _ _ c.in_ok-reserved.ensures).there

pub returns-then-fits_class : goal.returns-then-fits_class
returns-then-fits_class c = reserve_taken c.args.size c.args.pass c.args.frames _ c.tree-tree.ensures (tree_read _ _ _ c.in_ok-reserved.ensures) c.if-reserved-ne0.false c.if-count-frames.false c.fits_class.ensures c.if-fits_class.true c.join_tree.ensures

pub returns : goal.returns
returns c = reserve_other c.args.size c.args.pass c.args.frames _ c.tree-tree.ensures (tree_read _ _ _ c.in_ok-reserved.ensures) c.fits_class.ensures c.if-fits_class.false
