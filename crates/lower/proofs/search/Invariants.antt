use Rattle.rules.specs.Blocks.{run_size}
use Rattle.lower.proofs.Searches.{Words, Turns}
use Rattle.lower.proofs.search.Given as goal

abbrev pub invariant-loop-word : goal.invariant-loop-word
invariant-loop-word l = Words (run_size l.run) l.children l.initial.words l.initial.found l.child l.words l.found l.word

abbrev pub invariant-children : goal.invariant-children
invariant-children l = Turns (run_size l.run) l.initial.children l.initial.words l.start l.n l.children l.words l.found l.child l.turn
