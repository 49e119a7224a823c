-- A record's two words: their fields, and places and blocks by numbers.
use Rattle.std.specs.Prelude.{List, [], ◌∷◌, ℕ}
use Rattle.rules.specs.Blocks.{exponent}
use Rattle.records.specs.Types.{Tree, Block, Pass, Found, Place, Spot}

-- stage (8), CPU (8), order (8), kind of place (8), start child (8), child (8), word (8), zero (8)
abbrev pub first_layout : List ℕ
first_layout = 8 ∷ 8 ∷ 8 ∷ 8 ∷ 8 ∷ 8 ∷ 8 ∷ 8 ∷ []

-- tree (16), base of the near pass (16), hand (16), CPU stolen from (8), zero (8)
abbrev pub second_layout : List ℕ
second_layout = 16 ∷ 16 ∷ 16 ∷ 8 ∷ 8 ∷ []

-- ---- a place: its kind, its tree, and the near pass's base or the CPU stolen from

abbrev pub spot : ℕ → ℕ → ℕ → ℕ → Spot
spot k t b j = record { kind = k; tree = t; base = b; from = j }

-- no place; a tree, or a CPU to steal from, without one
abbrev pub spot_nowhere : Spot
spot_nowhere = spot 0 0 0 0

abbrev pub tree_spot : Tree → Spot
tree_spot t = spot 0 t.0 0 0

abbrev pub from_spot : ℕ → Spot
from_spot j = spot 0 0 0 j

unfoldable pub pass_spot : Pass → Spot
pass_spot (Pass.Near t b) = spot 2 t.0 b.0 0
pass_spot (Pass.Partial t) = spot 3 t.0 0 0
pass_spot (Pass.Free t) = spot 4 t.0 0 0
pass_spot (Pass.Any t) = spot 5 t.0 0 0

unfoldable pub found_spot : Found → Spot
found_spot (Found.Pass p) = pass_spot p
found_spot (Found.Steal j t) = spot 6 t.0 0 j

unfoldable pub place_spot : Place → Spot
place_spot (Place.Own t) = spot 1 t.0 0 0
place_spot (Place.Found f) = found_spot f

-- ---- a block: its order, and the number of its first frame or huge frame

unfoldable pub block_order : Block → ℕ
block_order (Block.Run r f) = exponent r
block_order (Block.Whole h) = 9

unfoldable pub block_number : Block → ℕ
block_number (Block.Run r f) = f.0
block_number (Block.Whole h) = h.0
