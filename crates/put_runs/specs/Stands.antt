-- Where a put stands, and how its run goes on from there; and where its block lies.
use Rattle.std.specs.Prelude.{◌≡◌, ℕ, ◌+◌, Some}
use Rattle.rules.specs.Blocks.{first_of}
use Rattle.places.specs.Shapes.{shape_of, block_at_in}
use Rattle.put_runs.specs.Types.{Tree, Block, Giving, Record, Answer, Shape, Way, At}

-- the steps that lead to the entry
abbrev pub steps_to_entry : Block → ℕ
steps_to_entry (Block.Run v f) = 2
steps_to_entry (Block.Whole h) = 1

abbrev pub ends_with : Block → ℕ → Way
ends_with b k = Way.Ends (record { answer = Answer.Done (first_of b); steps = k })

-- after the clearing store
abbrev pub raises : ℕ → Block → Way
raises cpu (Block.Run v f) = Way.Goes (Record.Put cpu (Giving.Raise v f)) 1
raises cpu (Block.Whole h) = Way.Goes (Record.Put cpu (Giving.ToEntry (Block.Whole h))) 1

abbrev pub way_at : ℕ → Block → At → Way
way_at cpu b At.Clear = Way.Goes (Record.Put cpu (Giving.Clear b)) 0
way_at cpu b At.Raise = raises cpu b
way_at cpu b At.ToEntry = Way.Goes (Record.Put cpu (Giving.ToEntry b)) (steps_to_entry b)
way_at cpu b At.ToTree = Way.Goes (Record.Put cpu (Giving.ToTree b)) (steps_to_entry b + 1)
way_at cpu b At.InEntry = ends_with b (steps_to_entry b + 1)
way_at cpu b At.InTree = ends_with b (steps_to_entry b + 2)

-- the block lies in the zone, in that child of that tree
abbrev pub LiesAt : Shape → Block → Tree → ℕ → Type 0
LiesAt s b t c = block_at_in (shape_of s) b ≡ Some (record { tree = t; child = c })

-- in that tree
pub record LiesIn (s : Shape) (b : Block) (t : Tree) : Type 0 where
  pub child : ℕ
  pub there : LiesAt s b t child
