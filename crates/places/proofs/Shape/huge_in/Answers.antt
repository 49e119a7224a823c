use Rattle.places.proofs.Ranges.{below_check}
use Rattle.places.proofs.Shape.huge_in.Goals as goal

pub returns : goal.returns
returns c = below_check _ c.huge_frames.ensures
