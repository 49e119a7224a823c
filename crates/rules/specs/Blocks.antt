-- Orders and blocks: their sizes, where they begin, and the tree and child that they lie in.
use Rattle.std.specs.Prelude.{ℕ, ◌+◌, ◌*◌, ◌/◌, ◌%◌, ◌^◌}
use Rattle.rules.specs.Numbers.{child_frames, word_bits, Shape, per_tree}
use Rattle.rules.specs.Conversions.{frame, huge_of, first_frame, tree_of, child_of}
use Rattle.rules.specs.Types.{Frame, Huge, Tree, Run, Order, Block}

-- a run has 2 ^ k frames, k its order
abbrev pub exponent : Run → ℕ
exponent Run.One = 0
exponent Run.Two = 1
exponent Run.Four = 2
exponent Run.Eight = 3
exponent Run.Sixteen = 4
exponent Run.ThirtyTwo = 5
exponent Run.SixtyFour = 6

unfoldable pub run_size : Run → ℕ
run_size r = 2 ^ exponent r

-- the size of a claim: a run, or a huge frame
abbrev pub size : Order → ℕ
size (Order.Run r) = run_size r
size Order.Nine = child_frames

abbrev pub size_of : Block → ℕ
size_of (Block.Run r f) = run_size r
size_of (Block.Whole h) = child_frames

abbrev pub first_of : Block → Frame
first_of (Block.Run r f) = f
first_of (Block.Whole h) = first_frame h

abbrev pub huge_of_block : Block → Huge
huge_of_block (Block.Run r f) = huge_of f
huge_of_block (Block.Whole h) = h

abbrev pub tree_of_block : Shape → Block → Tree
tree_of_block g b = tree_of g.format (huge_of_block b)

abbrev pub child_of_block : Shape → Block → ℕ
child_of_block g b = child_of g.format (huge_of_block b)

-- the block of an order that begins at a frame
abbrev pub block_at : Order → Frame → Block
block_at (Order.Run r) f = Block.Run r f
block_at Order.Nine f = Block.Whole (huge_of f)

-- the word and the bit of a frame: the word's number among the words of its child
abbrev pub word_of : Frame → ℕ
word_of f = f.0 % child_frames / word_bits

abbrev pub bit_of : Frame → ℕ
bit_of f = f.0 % word_bits

-- the frame of bit b of word w of child c of tree t
abbrev pub frame_at : Shape → Tree → ℕ → ℕ → ℕ → Frame
frame_at g t c w b = frame ((t.0 * per_tree g + c) * child_frames + w * word_bits + b)
