use mathlib.Core.Path.{refl}
use Rattle.records.proofs.searched.Goals as goal

pub returns : goal.returns
returns c = record {
  words = rw (c.join_first.ensures.word, c.join_second.ensures.word, c.order_number.ensures, c.from-spot.ensures) refl;
  first = rw (c.order_number.ensures, c.from-spot.ensures) at c.join_first.ensures.fit;
  second = rw c.from-spot.ensures at c.join_second.ensures.fit;
}
