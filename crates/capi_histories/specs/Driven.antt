-- The calls on two words are the calls of a history: over a reached state's tables and two words that hold its latest record, each exported call does what the history's call does.
use Rattle.std.specs.Prelude.{◌≡◌, List, [], ◌∷◌, ℕ, ◌+◌, ◌-◌, ◌*◌, ◌^◌, ◌≤◌, ◌<◌, max, length}
use Rattle.rules.specs.declared.Record.{Record}
use Rattle.rules.specs.declared.Answer.{Answer}
use Rattle.rules.specs.Blocks.{first_of}
use Rattle.rules.specs.Zone.{Zone, shaped}
use Rattle.rules.specs.Begin.{order_number}
use Rattle.rules.specs.Create.{done, create_steps}
use Rattle.rules.specs.Bounds.{Ends}
use Rattle.rules.specs.Fresh.{Fitting, creates}
use Rattle.rules.specs.Events as Events
use Rattle.rules.specs.Events.{State, held_at, Call, get, put, step_of, close, open_first, open_later, order_of_block, open_record, planned, call, next, started, Reach}
use Rattle.rules.specs.Exhibit.{history, times, begins}
use Rattle.rules.specs.Many.{last_answer}
use Rattle.records.specs.Encoding.{encode}
use Rattle.capi.specs.declared.Answered.{Answered}
use Rattle.capi.specs.declared.Ran.{Ran}
use Rattle.capi.specs.Calls.{answered_as, ran_as, lent_in, laid_down, Called, called, get_call, put_call, step_call, run_call, get_run_call, put_run_call, create_call, create_run_call, open_call, open_step_call, open_run_call, close_call}

-- ---- what a history's call does

-- the two words that hold a record
abbrev pub words : Record → List ℕ
words r = laid_down (encode r)

-- the words are of 64 bits, and are read as the record again
pub record Holds (r : Record) : Type 0 where
  pub first : (encode r).first < 2 ^ 64
  pub second : (encode r).second < 2 ^ 64
  pub again : lent_in (words r) ≡ r

-- CPU j's latest record, and an open's
abbrev pub latest_of : ℕ → State → Record
latest_of j s = (s.cpus j).latest

abbrev pub open_of : State → Record
open_of s = open_record s.phase

-- its answer, the tables after it, and the words of the record after it
abbrev pub does : State → Call → (State → Record) → Called Answered
does s c of = called (answered_as (planned s c).answer) (next s (call c)).zone (words (of (next s (call c))))

-- k events of a call, each admitted: the answer of the last of them and k, and the tables and the words of the record after it
pub record DoesMany (n fuel : ℕ) (c : Call) (s : State) (a : Answer) (of : State → Record) (x : Called Ran) : Type 0 where
  pub k : ℕ
  pub few : k ≤ fuel
  pub admitted : (i : ℕ) → i < k → Events.Called (history (times i c) s) c
  pub reached : Reach n (history (times k c) s)
  pub stops : k < fuel → Ends (last_answer a c s k)
  pub does : x ≡ called (ran_as (last_answer a c s k) k) (history (times k c) s).zone (words (of (history (times k c) s)))

-- ---- the arguments of a put: the first frame of the i-th held block, and the number of its order
abbrev pub first_at : State → ℕ → ℕ
first_at s i = (first_of (held_at s i)).0

abbrev pub order_at : State → ℕ → ℕ
order_at s i = order_number (order_of_block (held_at s i))

-- ---- at a state of a history of a zone of n huge frames
pub record Drives (n : ℕ) (s : State) : Type 0 where
  -- the latest record of every CPU, and an open's, are held by two words
  pub latest : (j : ℕ) → Holds (s.cpus j).latest
  pub opening : Holds (open_record s.phase)
  -- a held block can be given to a put
  pub held : (i : ℕ) → i < length s.held → (first_at s i < 2 ^ 64) × (order_at s i < 2 ^ 64)
  -- beginnings, over two words of any content: lovarntek_get, lovarntek_put
  pub gets : (j o : ℕ) → Events.Called s (get j o) → (l : List ℕ) → length l ≡ 2 → get_call s.zone l j o ≡ does s (get j o) (latest_of j)
  pub puts : (j i : ℕ) → Events.Called s (put j i) → (l : List ℕ) → length l ≡ 2 → put_call s.zone l j (first_at s i) (order_at s i) ≡ does s (put j i) (latest_of j)
  -- steps, over the words of the latest record: lovarntek_step
  pub steps : (j : ℕ) → Events.Called s (step_of j) → step_call s.zone (words (s.cpus j).latest) ≡ does s (step_of j) (latest_of j)
  -- lovarntek_open, lovarntek_open_step, lovarntek_close
  pub opens : Events.Called s open_first → (l : List ℕ) → length l ≡ 2 → open_call s.zone l ≡ does s open_first open_of
  pub open_steps : Events.Called s open_later → open_step_call s.zone (words (open_record s.phase)) ≡ does s open_later open_of
  pub closes : Events.Called s close → close_call s.zone ≡ called (answered_as (planned s close).answer) (next s (call close)).zone []
  -- calls of many steps: lovarntek_run, lovarntek_get_run, lovarntek_put_run, lovarntek_open_run
  pub runs : (j : ℕ) → Events.Called s (step_of j) → (fuel : ℕ) → DoesMany n (max 1 fuel) (step_of j) s (Answer.UnderWay (s.cpus j).latest) (latest_of j) (run_call s.zone (words (s.cpus j).latest) fuel)
  pub get_runs : (j o : ℕ) → Events.Called s (get j o) → (l : List ℕ) → length l ≡ 2 → (fuel : ℕ) → DoesMany n fuel (step_of j) (next s (call (get j o))) (planned s (get j o)).answer (latest_of j) (get_run_call s.zone l j o fuel)
  pub put_runs : (j i : ℕ) → Events.Called s (put j i) → (l : List ℕ) → length l ≡ 2 → (fuel : ℕ) → DoesMany n fuel (step_of j) (next s (call (put j i))) (planned s (put j i)).answer (latest_of j) (put_run_call s.zone l j (first_at s i) (order_at s i) fuel)
  pub open_runs : Events.Called s open_later → (fuel : ℕ) → DoesMany n (max 1 fuel) open_later s (Answer.UnderWay (open_record s.phase)) open_of (open_run_call s.zone (words (open_record s.phase)) fuel)

-- ---- one instance: the exhibited history after its first event, CPU 0's get of order 0
abbrev pub begun : Zone → State
begun z = next (begins 1 z) (call (get 0 0))

pub record Instance (s : State) : Type 0 where
  pub reached : Reach 1 s
  pub called : Events.Called s (step_of 0)
  -- its record is at stage 1; the step finds no tree, and goes on with the first try of the partial pass: stage 8, kind 3
  pub lent : words (s.cpus 0).latest ≡ 2 ^ 56 ∷ 0 ∷ []
  pub says : (does s (step_of 0) (latest_of 0)).said ≡ record { number = 1; frame = 0 }
  pub left : (does s (step_of 0) (latest_of 0)).rec ≡ (8 * 2 ^ 56 + 3 * 2 ^ 32) ∷ 0 ∷ []

-- ---- where a history begins: lovarntek_create over tables that held anything, and lovarntek_create_run over what it leaves, with fuel for create's steps
abbrev pub created_by : ℕ → Zone → List ℕ → ℕ → Called Ran
created_by n z l fuel = let x : Called Answered = create_call z l n in create_run_call x.zone x.rec n fuel

pub record Driven : Type 0 where
  pub starts : (n : ℕ) (z : Zone) → Fitting n z → (l : List ℕ) → length l ≡ 2 → (fuel : ℕ) → create_steps (shaped n z) ≤ fuel
      → created_by n z l fuel ≡ called (ran_as done (create_steps (shaped n z) - 1)) (started (creates n z (create_steps (shaped n z))).zone).zone (words Record.Finished)
  pub drives : (n : ℕ) (s : State) → Reach n s → Drives n s
  pub shown : (z : Zone) → Fitting 1 z → length z.cpus ≡ 2 → Instance (begun z)
