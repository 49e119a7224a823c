-- A step of a get or put: 9, 10, 8, 11, then 12 or 6. And an operation run to its end alone.
use Rattle.std.specs.Prelude.{[], ◌∷◌, ◌++◌, ℕ, zero, suc, ◌+◌, ◌*◌}
use Rattle.rules.specs.Numbers.{child_words, near_trees, Shape, per_tree, trees_of}
use Rattle.rules.specs.Answers.{next_of, by_next}
use Rattle.rules.specs.Zone.{Zone, shape_of, stored}
use Rattle.rules.specs.Plan.{Plan, Step, no_entry, carried, guarded}
use Rattle.rules.specs.Checks.{not_open, unless}
use Rattle.rules.specs.Ranges.{step_range}
use Rattle.rules.specs.Take.{take}
use Rattle.rules.specs.Give.{give}
use Rattle.rules.specs.Types.{Record, Answer}

-- the stage of a record, and the entry that it reads
unfoldable pub act : Shape → Record → Step
act g Record.Finished = no_entry Answer.BadRecord
act g (Record.Get cpu s) = take g cpu s
act g (Record.Put cpu s) = give g cpu s
act g (Record.Create s) = no_entry Answer.BadRecord
act g (Record.Open s) = no_entry Answer.BadRecord

unfoldable pub step : Zone → Record → Plan
step z r = guarded (not_open z ++ (unless (step_range (shape_of z) r) Answer.BadRecord ∷ [])) (carried (shape_of z) z (act (shape_of z) r))

-- the tables after a plan
abbrev pub after : Zone → Plan → Zone
after z p = stored (shape_of z).format z p.store

-- ---- a run of an operation alone: the answer, the steps made, and the tables after them
pub record Ran : Type 0 where
  pub answer : Answer
  pub steps : ℕ
  pub zone : Zone

abbrev pub ran : Answer → ℕ → Zone → Ran
ran a k z = record { answer = a; steps = k; zone = z }

-- at most `fuel` steps of an operation after an answer; k steps were made
unfoldable pub follow : (Zone → Record → Plan) → ℕ → ℕ → Answer → Zone → Ran
follow f zero k a z = ran a k z
follow f (suc fuel) k a z = by_next (next_of a) (ran a k z) (λ r. let p : Plan = f z r in follow f fuel (suc k) p.answer (after z p))

-- at most `fuel` steps of a get's or put's record
abbrev pub runs : ℕ → Zone → Record → Ran
runs fuel z r = follow step fuel 0 (Answer.UnderWay r) z

-- the most steps of a get, 330 (3 trees + CPUs + 33) where a tree has 32 children, and of a put
unfoldable pub search_steps : Shape → ℕ
search_steps g = (child_words + 2) * per_tree g + 10

abbrev pub most_get : Shape → ℕ
most_get g = search_steps g * (3 * trees_of g + g.cpus + (near_trees + 1))

abbrev pub most_put : ℕ
most_put = 4
