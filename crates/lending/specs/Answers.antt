-- The answer of what the lower level said.
use Rattle.std.specs.Prelude.{Result, Ok, Err}
use Rattle.rules.specs.Answers.{answer_of}
use Rattle.lending.specs.Types.{Fault, Answer}

-- the answer of a count given back, or a block cleared
abbrev pub given_answer : Answer → Result Unit Fault → Answer
given_answer a (Ok tt) = a
given_answer a (Err f) = answer_of f
