-- What a call answers, with all five tables as it leaves them.
use Rattle.std.specs.Prelude.{◌≡◌, List, ℕ, ◌-◌, ◌<◌, length, Option, Some, None, Result as OkOr, Ok, Err}
use Rattle.laws.specs.Tests.{pick, passes, Passes}
use Rattle.rules.specs.Zone.{Zone}
use Rattle.rules.specs.Answers.{by_answer}
use Rattle.rules.specs.Plan.{Plan}
use Rattle.rules.specs.Step.{after, Ran, ran, follow}
use Rattle.entries.specs.Sizes.{zoned_in, lengths_of}
use Rattle.calls.specs.Types.{Answer, Zoned, Shape, Record, Ended, Way}

abbrev pub zone : List ℕ → List ℕ → List ℕ → List ℕ → List ℕ → Zone
zone h w c t p = record { header = h; words = w; children = c; trees = t; cpus = p }

pub record Result : Type 0 where
  pub answer : Answer
  pub zone : Zone

abbrev pub result_of : Answer → Zone → Result
result_of a z = record { answer = a; zone = z }

-- the plan of a call, carried out
abbrev pub done : Zone → Plan → Result
done z p = result_of p.answer (after z p)

-- a run of steps: its answer, the steps made, and the tables after the last of them
abbrev pub ran_to : Ended → Zone → Ran
ran_to r z = ran r.answer r.steps z

-- ---- what every call on an open zone refuses first

unfoldable pub checked_as : OkOr Zoned Answer → ℕ → ℕ → ℕ → ℕ → OkOr Shape Answer
checked_as (Ok (Zoned.Running m)) w c t p = pick (passes (lengths_of m w c t p)) (Ok (record { size = m; cpus = p })) (Err Answer.BadBuffers)
checked_as (Ok (Zoned.Clean m)) w c t p = Err Answer.Closed
checked_as (Err a) w c t p = Err a

abbrev pub checked : List ℕ → ℕ → ℕ → ℕ → ℕ → OkOr Shape Answer
checked h = checked_as (zoned_in h)

-- tables of the lengths that the shape asks for
pub record Fits (s : Shape) (ws cs ts ps : List ℕ) : Type 0 where
  pub lengths : Passes (lengths_of s.size (length ws) (length cs) (length ts) (length ps))
  pub cpus : s.cpus ≡ length ps

-- the tables of an open zone of that shape, which has that CPU
pub record Opened (s : Shape) (cpu : ℕ) (h ws cs ts ps : List ℕ) : Type 0 where
  pub checks : checked h (length ws) (length cs) (length ts) (length ps) ≡ Ok s
  pub cpu_is_in : cpu < s.cpus

-- ---- the record that an answer goes on with
abbrev pub next_in : Answer → Option Record
next_in a = by_answer a (λ f. None) Some None

-- ---- how a run goes on: what by_next makes of an answer, and the run's end

unfoldable pub way_by : Answer → ℕ → Option Record → Way
way_by a k None = Way.Ends (record { answer = a; steps = k })
way_by a k (Some r) = Way.Goes r k

abbrev pub way_of : Answer → ℕ → Way
way_of a k = way_by a k (next_in a)

-- the end of a run of at most `fuel` steps that goes on so, in the zone as it stands
unfoldable pub went_to : (Zone → Record → Plan) → ℕ → Way → Zone → Ran
went_to f fuel (Way.Ends e) z = ran_to e z
went_to f fuel (Way.Goes r k) z = follow f (fuel - k) k (Answer.UnderWay r) z

-- a run that stood at record r of zone z after k steps went on so, and left the zone z'
abbrev pub WentOn : (Zone → Record → Plan) → ℕ → ℕ → Record → Way → Zone → Zone → Type 0
WentOn f fuel k r y z' z = went_to f fuel y z' ≡ follow f (fuel - k) k (Answer.UnderWay r) z
