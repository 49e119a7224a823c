use Rattle.lower.proofs.Leaf.{Passed}
use Rattle.lower.proofs.take_low.Given as goal

abbrev pub invariant-loop-bit : goal.invariant-loop-bit
invariant-loop-bit l = Passed l.size l.word l.bit
