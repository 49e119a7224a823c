use Rattle.rules.proofs.Sizes.{run_some}
use Rattle.lower.proofs.Leaf.{run_within}
use Rattle.lower.proofs.size_of.Goals as goal

pub returns : goal.returns
returns c =
    let e = c.frames.ensures in
    (e, rw e (run_some _), rw e (run_within _))
