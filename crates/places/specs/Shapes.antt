-- A zone's shape as the code holds it: its size, and the entries of its CPU table.
use Rattle.std.specs.Prelude.{List, ℕ, suc, ltb, Option, Some, None}
use Rattle.laws.specs.Tests.{pick, passes}
use Rattle.laws.specs.Tables.{Outcome, outcome}
use Rattle.rules.specs.Numbers.{format1, Shape as Rules, trees_of}
use Rattle.rules.specs.Conversions.{tree}
use Rattle.rules.specs.Blocks.{tree_of_block, child_of_block}
use Rattle.rules.specs.Ranges.{block_in}
use Rattle.entries.specs.Sizes.{huge_of}
use Rattle.places.specs.Types.{Tree, Block, Answer, Shape, BlockAt}

abbrev pub shape_of : Shape → Rules
shape_of s = record { format = format1; huge = huge_of s.size; cpus = s.cpus }

-- the tree after one; none after the last
unfoldable pub tree_after_in : Rules → Tree → Option Tree
tree_after_in g t = pick (ltb (suc t.0) (trees_of g)) (Some (tree (suc t.0))) None

-- the tree and the child of a block of the zone
unfoldable pub block_at_in : Rules → Block → Option BlockAt
block_at_in g b = pick (passes (block_in g b)) (Some (record { tree = tree_of_block g b; child = child_of_block g b })) None

-- a step on a block's entry; a block outside the zone answers 11
unfoldable pub ranged : Rules → Block → (List ℕ → Outcome Answer) → List ℕ → Outcome Answer
ranged g b f l = pick (passes (block_in g b)) (f l) (outcome Answer.BadRecord l)
