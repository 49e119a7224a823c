-- The numbers of a beginning.
use Rattle.std.specs.Prelude.{ℕ, ◌%◌, eqb, Option, Some, None, Result, Ok, Err}
use Rattle.laws.specs.Tests.{pick}
use Rattle.rules.specs.Blocks.{size, block_at}
use Rattle.rules.specs.Begin.{is_order, order_of}
use Rattle.begins.specs.Types.{Frame, Order, Block, Answer}

unfoldable pub order_at_in : ℕ → Option Order
order_at_in n = pick (is_order n) (Some (order_of n)) None

-- the block of a frame of the zone: 5, or the block
unfoldable pub block_of_in : Frame → Order → Result Block Answer
block_of_in f o = pick (eqb (f.0 % size o) 0) (Ok (block_at o f)) (Err Answer.Misaligned)
