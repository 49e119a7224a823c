-- What a stage on a child answers, by what the lower level said.
use Rattle.std.specs.Prelude.{Result, Ok, Err}
use Rattle.rules.specs.Answers.{answer_of}
use Rattle.child_stages.specs.Types.{Took, Fault, Answer}

-- the answers of a claim that was taken, and of one that was passed
abbrev pub claimed_answer : Answer → Answer → Result Took Fault → Answer
claimed_answer a b (Ok Took.Taken) = a
claimed_answer a b (Ok Took.Passed) = b
claimed_answer a b (Err f) = answer_of f
