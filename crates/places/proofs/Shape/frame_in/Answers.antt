use mathlib.Core.Path.{ap}
use Prim.Native.Nat.{◌*◌}
use Rattle.places.proofs.Ranges.{below_check}
use Rattle.places.proofs.Shape.frame_in.Goals as goal

pub returns : goal.returns
returns c = below_check _ (ap (λ n. n * 512) c.huge_frames.ensures)
