-- What each stage answers, by what was said of the CPU's entry.
use Rattle.std.specs.Prelude.{Bool, true, false, ℕ, Option, Some, None, Result, Ok, Err}
use Rattle.rules.specs.Numbers.{Shape}
use Rattle.rules.specs.Conversions.{tree}
use Rattle.rules.specs.Places.{after_steal, after_place}
use Rattle.rules.specs.Take.{get}
use Rattle.rules.specs.Answers.{answer_of}
use Rattle.cpu_stages.specs.Types.{Tree, Order, Pass, Found, Place, Taking, Fault, Answer, Claimed, Again, Stolen}

-- the answers of an entry that holds the tree, and of one that does not
abbrev pub held_answer : Answer → Answer → Result Bool Fault → Answer
held_answer a b (Ok true) = a
held_answer a b (Ok false) = b
held_answer a b (Err f) = answer_of f

module _ (g : Shape) (cpu : ℕ) where
  abbrev pub own_answer : Order → Result Claimed Fault → Answer
  own_answer o (Ok Claimed.Absent) = get g cpu (Taking.Try o (Pass.Partial (tree 0)))
  own_answer o (Ok (Claimed.Claimed t s)) = get g cpu (Taking.Child o (Place.Own t) s s)
  own_answer o (Ok (Claimed.Short t)) = get g cpu (Taking.TakeCount o t)
  own_answer o (Err e) = answer_of e

  abbrev pub again_answer : Order → Tree → Result Again Fault → Answer
  again_answer o t (Ok (Again.Claimed s)) = get g cpu (Taking.Child o (Place.Own t) s s)
  again_answer o t (Ok (Again.Released k)) = get g cpu (Taking.Unreserve o (Place.Own t) k)
  again_answer o t (Ok Again.Missed) = get g cpu (after_place g cpu o (Place.Own t))
  again_answer o t (Err e) = answer_of e

  abbrev pub release_answer : Order → Place → Result (Option ℕ) Fault → Answer
  release_answer o p (Ok (Some k)) = get g cpu (Taking.Unreserve o p k)
  release_answer o p (Ok None) = get g cpu (after_place g cpu o p)
  release_answer o p (Err e) = answer_of e

  abbrev pub write_answer : Order → Found → Result Unit Fault → Answer
  write_answer o f (Ok tt) = get g cpu (Taking.Child o (Place.Found f) 0 0)
  write_answer o f (Err e) = answer_of e

  abbrev pub steal_answer : Order → ℕ → Result (Option Stolen) Fault → Answer
  steal_answer o j (Ok None) = get g cpu (after_steal g cpu o j)
  steal_answer o j (Ok (Some s)) = get g cpu (Taking.StealCount o j s.tree s.count)
  steal_answer o j (Err e) = answer_of e
