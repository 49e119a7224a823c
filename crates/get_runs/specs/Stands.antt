-- Where a get stands, and how its run goes on from there.
use Rattle.std.specs.Prelude.{ℕ, ◌+◌, ◌*◌}
use Rattle.rules.specs.Conversions.{huge, tree}
use Rattle.get_runs.specs.Types.{Frame, Tree, Run, Order, Block, Pass, Place, Taking, Record, Answer, Way, At, Left}

abbrev pub standing : At → Order → Tree → ℕ → ℕ → ℕ → Frame → ℕ → Left
standing x o t i c j f k = record { at = x; start = i; child = c; word = j; tree = t; order = o; first = f; steps = k }

-- the block that was taken: a run by its first frame, a huge frame by its child
abbrev pub block_of : Order → Tree → ℕ → Frame → Block
block_of (Order.Run v) t c f = Block.Run v f
block_of Order.Nine t c f = Block.Whole (huge (t.0 * 32 + c))

-- the stages of a run's words; there are none of a huge frame's
abbrev pub of_run : Order → (Run → Taking) → Taking
of_run (Order.Run v) f = f v
of_run Order.Nine f = Taking.Own Order.Nine

abbrev pub goes_to : ℕ → Left → Taking → Way
goes_to cpu l x = Way.Goes (Record.Get cpu x) l.steps

abbrev pub way_by : ℕ → Left → At → Way
way_by cpu l At.Own = goes_to cpu l (Taking.Own l.order)
way_by cpu l At.Try = goes_to cpu l (Taking.Try l.order (Pass.Partial (tree 0)))
way_by cpu l At.TakeCount = goes_to cpu l (Taking.TakeCount l.order l.tree)
way_by cpu l At.Child = goes_to cpu l (Taking.Child l.order (Place.Own l.tree) l.start l.child)
way_by cpu l At.Fail = goes_to cpu l (Taking.Fail l.order (Place.Own l.tree))
way_by cpu l At.Word = goes_to cpu l (of_run l.order (λ v. Taking.Word v (Place.Own l.tree) l.start l.child l.word))
way_by cpu l At.GiveBack = goes_to cpu l (of_run l.order (λ v. Taking.GiveBack v (Place.Own l.tree) l.start l.child))
way_by cpu l At.Last = goes_to cpu l (Taking.Last (block_of l.order l.tree l.child l.first))
way_by cpu l At.Done = Way.Ends (record { answer = Answer.Done l.first; steps = l.steps })

abbrev pub way_left : ℕ → Left → Way
way_left cpu l = way_by cpu l l.at
