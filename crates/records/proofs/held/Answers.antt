use mathlib.Core.Path.{refl}
use Rattle.records.proofs.held.Goals as goal

pub returns : goal.returns
returns c = record {
  words = rw (c.join_first.ensures.word, c.join_second.ensures.word, c.order_number.ensures) refl;
  first = rw c.order_number.ensures at c.join_first.ensures.fit;
  second = c.join_second.ensures.fit;
}
