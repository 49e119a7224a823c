use mathlib.Core.Path.{refl}
use Rattle.records.proofs.blocked.Goals as goal

pub returns : goal.returns
returns c = record {
  words = rw (c.join_first.ensures.word, c.block_number.ensures.0, c.block_order.ensures) refl;
  first = rw c.block_order.ensures at c.join_first.ensures.fit;
  second = c.block_number.ensures.1;
}
