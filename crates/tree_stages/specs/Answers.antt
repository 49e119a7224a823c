-- What each stage answers, by what was said of the tree's entry.
use Rattle.std.specs.Prelude.{ℕ, Option, Some, None, Result, Ok, Err}
use Rattle.rules.specs.Numbers.{Shape}
use Rattle.rules.specs.Places.{after_pass}
use Rattle.rules.specs.Take.{get, steal_count}
use Rattle.rules.specs.Answers.{answer_of}
use Rattle.tree_stages.specs.Types.{Tree, Order, Pass, Found, Taking, Record, Fault, Answer}

-- a tree's count that was taken
abbrev pub take_count_answer : ℕ → Order → Tree → Result ℕ Fault → Answer
take_count_answer cpu o t (Ok k) = Answer.UnderWay (Record.Get cpu (Taking.FillEntry o t k))
take_count_answer cpu o t (Err f) = answer_of f

module _ (g : Shape) (cpu : ℕ) where
  abbrev pub try_answer : Order → Pass → Result (Option ℕ) Fault → Answer
  try_answer o p (Ok (Some k)) = get g cpu (Taking.Write o (Found.Pass p) k)
  try_answer o p (Ok None) = get g cpu (after_pass g cpu o p)
  try_answer o p (Err f) = answer_of f

  abbrev pub steal_count_answer : Order → ℕ → Tree → Result ℕ Fault → Answer
  steal_count_answer o j t (Ok h) = steal_count g cpu o j t h
  steal_count_answer o j t (Err f) = answer_of f
