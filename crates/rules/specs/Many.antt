-- Many steps in one call are that many events of a history: a run of steps, a beginning with its steps, the later steps of an open.
use Rattle.std.specs.Prelude.{◌≡◌, ◌++◌, ℕ, zero, suc, ◌+◌, ◌*◌, ◌/◌, ◌≤◌, ◌<◌, length}
use Rattle.rules.specs.Types.{Frame, Record, Answer}
use Rattle.rules.specs.Blocks.{first_of}
use Rattle.rules.specs.Answers.{next_of, by_next, record_of}
use Rattle.rules.specs.Zone.{Zone, shape_of}
use Rattle.rules.specs.Begin.{order_number, begin_get, begin_put}
use Rattle.rules.specs.Step.{step, Ran, follow, runs}
use Rattle.rules.specs.Open.{open_step}
use Rattle.rules.specs.Bounds.{Ends}
use Rattle.rules.specs.Events.{ready, opening, State, cpus_of, held_at, Call, get, put, step_of, open_later, order_of_block, planned, handed, call, next, Called, Reach}
use Rattle.rules.specs.Promise.{most_steps}
use Rattle.rules.specs.Exhibit.{history, times}

-- the answer of the last of k events of a call; with none, the one before them
abbrev pub last_answer : Answer → Call → State → ℕ → Answer
last_answer a c s zero = a
last_answer a c s (suc i) = (planned (history (times i c) s) c).answer

-- a run of at most `fuel` steps after the answer a, from a state: as many events as its steps, each admitted; its tables are theirs, its answer the last one's; before its fuel it stops at an end alone
pub record AsEvents (n fuel : ℕ) (c : Call) (s : State) (a : Answer) (x : Ran) : Type 0 where
  pub few : x.steps ≤ fuel
  pub admitted : (i : ℕ) → i < x.steps → Called (history (times i c) s) c
  pub reached : Reach n (history (times x.steps c) s)
  pub zone : x.zone ≡ (history (times x.steps c) s).zone
  pub answer : x.answer ≡ last_answer a c s x.steps
  pub stops : x.steps < fuel → Ends x.answer

-- of a get or put of CPU j: its latest record and the held blocks are what the run's answer says
pub record CpuRun (n fuel j : ℕ) (s : State) (a : Answer) (x : Ran) : Type 0 where
  pub events : AsEvents n fuel (step_of j) s a x
  pub latest : ((history (times x.steps (step_of j)) s).cpus j).latest ≡ record_of x.answer
  pub held : (history (times x.steps (step_of j)) s).held ≡ handed (s.cpus j).begun x.answer ++ s.held

-- of an open: it has finished, or goes on with the record that the run's answer says
pub record OpenRun (n fuel : ℕ) (s : State) (a : Answer) (x : Ran) : Type 0 where
  pub events : AsEvents n fuel open_later s a x
  pub phase : (history (times x.steps open_later) s).phase ≡ by_next (next_of x.answer) ready opening

-- the most steps of a get, 330 × (3 × trees + CPUs + 33)
abbrev pub get_bound : Zone → ℕ
get_bound z = 330 * (3 * (((shape_of z).huge + 31) / 32) + length z.cpus + 33)

pub record Many : Type 0 where
  -- a run of the steps of CPU j's get or put that is under way
  pub steps : (n : ℕ) (s : State) → Reach n s → (j : ℕ) → Called s (step_of j) → (fuel : ℕ) → CpuRun n fuel j s (Answer.UnderWay (s.cpus j).latest) (runs fuel s.zone (s.cpus j).latest)
  -- a beginning and its steps: the event of the beginning, and those of the steps; none, where it is refused
  pub gets : (n : ℕ) (s : State) → Reach n s → (j o : ℕ) → Called s (get j o) → (fuel : ℕ) → CpuRun n fuel j (next s (call (get j o))) (begin_get s.zone j o).answer (follow step fuel 0 (begin_get s.zone j o).answer s.zone)
  -- the i-th held block is put, at its own size
  pub puts : (n : ℕ) (s : State) → Reach n s → (j i : ℕ) → Called s (put j i) → (fuel : ℕ) → let a : Answer = (begin_put s.zone j (first_of (held_at s i)) (order_number (order_of_block (held_at s i)))).answer in CpuRun n fuel j (next s (call (put j i))) a (follow step fuel 0 a s.zone)
  -- the later steps of an open
  pub opens : (n : ℕ) (s : State) → Reach n s → (r : Record) → s.phase ≡ opening r → (fuel : ℕ) → OpenRun n fuel s (Answer.UnderWay r) (follow open_step fuel 0 (Answer.UnderWay r) s.zone)
  -- more fuel than the bound changes nothing: of a get or put under way; of one that is begun, in any zone
  pub steps_most : (n : ℕ) (s : State) → Reach n s → (j fuel : ℕ) → let m : ℕ = most_steps n (cpus_of s) (s.cpus j).begun in m ≤ fuel → runs fuel s.zone (s.cpus j).latest ≡ runs m s.zone (s.cpus j).latest
  pub get_most : (z : Zone) (j o fuel : ℕ) → get_bound z ≤ fuel → follow step fuel 0 (begin_get z j o).answer z ≡ follow step (get_bound z) 0 (begin_get z j o).answer z
  pub put_most : (z : Zone) (j : ℕ) (f : Frame) (o fuel : ℕ) → 4 ≤ fuel → follow step fuel 0 (begin_put z j f o).answer z ≡ follow step 4 0 (begin_put z j f o).answer z
