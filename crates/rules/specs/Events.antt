-- Histories: what the CPUs, the closer, the opener and the power may do, in any order. Every call is the rule's own definition.
use Rattle.std.specs.Prelude.{◌≡◌, List, [], ◌∷◌, ◌++◌, ℕ, zero, suc, ◌≤◌, ◌<◌, length, get_or}
use Rattle.laws.specs.Sum.{upd}
use Rattle.rules.specs.Types.{Run, Order, Block, Record, Answer}
use Rattle.rules.specs.Numbers.{most_cpus, trees_of}
use Rattle.rules.specs.Conversions.{frame}
use Rattle.rules.specs.Blocks.{first_of, block_at}
use Rattle.rules.specs.Answers.{by_answer, next_of, by_next}
use Rattle.rules.specs.Zone.{Zone, shaped, shape_of}
use Rattle.rules.specs.Plan.{Mark, plain, takes, clears, Plan}
use Rattle.rules.specs.Begin.{order_number, order_of, begin_get, begin_put}
use Rattle.rules.specs.Step.{step, after}
use Rattle.rules.specs.Create.{create_steps}
use Rattle.rules.specs.Open.{open_zone, open_step, close_zone}
use Rattle.rules.specs.Fresh.{Fitting, creates}

-- ---- what a CPU is at

-- nothing; a get of an order; a put of a block
pub data Begun : Type 0 where
  idle : Begun
  getting : (o : Order) → Begun
  putting : (b : Block) → Begun

-- its latest record, what it began, and the marked stores made since then, the newest first
pub record Cpu : Type 0 where
  pub latest : Record
  pub begun : Begun
  pub marks : List Mark

abbrev pub resting : Cpu
resting = record { latest = Record.Finished; begun = idle; marks = [] }

-- ---- lost blocks: one for each operation cut off after its taking store or before its clearing store

unfoldable pub taken : List Mark → List Block
taken [] = []
taken (plain ∷ l) = taken l
taken (takes b ∷ l) = b ∷ []
taken (clears b ∷ l) = taken l

unfoldable pub unless_cleared : Block → List Mark → List Block
unless_cleared b [] = b ∷ []
unless_cleared b (plain ∷ l) = unless_cleared b l
unless_cleared b (takes c ∷ l) = unless_cleared b l
unless_cleared b (clears c ∷ l) = []

unfoldable pub lost_by : Begun → List Mark → List Block
lost_by idle l = []
lost_by (getting o) l = taken l
lost_by (putting b) l = unless_cleared b l

abbrev pub lost_of : Cpu → List Block
lost_of c = lost_by c.begun c.marks

-- those of CPUs 0 to n - 1
unfoldable pub lost_all : ℕ → (ℕ → Cpu) → List Block
lost_all zero c = []
lost_all (suc n) c = lost_of (c n) ++ lost_all n c

-- ---- the state

-- open; after a cut or a close answered Done; in an open, with its latest record
pub data Phase : Type 0 where
  ready : Phase
  down : Phase
  opening : (r : Record) → Phase

pub record State : Type 0 where
  pub zone : Zone
  pub cpus : ℕ → Cpu
  pub phase : Phase
  pub held : List Block
  pub lost : List Block

-- the entries of the CPU table
abbrev pub cpus_of : State → ℕ
cpus_of s = length s.zone.cpus

-- l without its i-th block
unfoldable pub without : List Block → ℕ → List Block
without [] i = []
without (b ∷ l) zero = l
without (b ∷ l) (suc i) = b ∷ without l i

abbrev pub held_at : State → ℕ → Block
held_at s i = get_or s.held i (Block.Run Run.One (frame 0))

-- ---- calls

pub data Call : Type 0 where
  get : (cpu order : ℕ) → Call
  -- the i-th held block is put, at its own size
  put : (cpu i : ℕ) → Call
  step_of : (cpu : ℕ) → Call
  close : Call
  open_first : Call
  open_later : Call

-- the order that a block was got with
abbrev pub order_of_block : Block → Order
order_of_block (Block.Run r f) = Order.Run r
order_of_block (Block.Whole h) = Order.Nine

abbrev pub open_record : Phase → Record
open_record ready = Record.Finished
open_record down = Record.Finished
open_record (opening r) = r

-- what a call does: the rule's own definition, on the zone's own tables
unfoldable pub planned : State → Call → Plan
planned s (get cpu o) = begin_get s.zone cpu o
planned s (put cpu i) = begin_put s.zone cpu (first_of (held_at s i)) (order_number (order_of_block (held_at s i)))
planned s (step_of cpu) = step s.zone (s.cpus cpu).latest
planned s close = close_zone s.zone
planned s open_first = open_zone s.zone
planned s open_later = open_step s.zone (open_record s.phase)

-- ---- a call's store

abbrev pub marked : State → ℕ → Mark → ℕ → Cpu
marked s cpu m = upd s.cpus cpu (record { latest = (s.cpus cpu).latest; begun = (s.cpus cpu).begun; marks = m ∷ (s.cpus cpu).marks })

abbrev pub marked_by : State → Call → Mark → ℕ → Cpu
marked_by s (get cpu o) m = s.cpus
marked_by s (put cpu i) m = s.cpus
marked_by s (step_of cpu) m = marked s cpu m
marked_by s close m = s.cpus
marked_by s open_first m = s.cpus
marked_by s open_later m = s.cpus

-- the tables after the store, and the mark on the CPU whose step made it; nothing is answered yet
abbrev pub stored_by : State → Call → State
stored_by s c = let p : Plan = planned s c in record { zone = after s.zone p; cpus = marked_by s c p.mark; phase = s.phase; held = s.held; lost = s.lost }

-- ---- a call's answer

-- a get that is answered Done holds its block from then on; any answer but 1 leaves the CPU with nothing under way
abbrev pub handed : Begun → Answer → List Block
handed idle a = []
handed (getting o) a = by_answer a (λ f. block_at o (frame f) ∷ []) (λ r. []) []
handed (putting b) a = []

abbrev pub with_cpu : State → ℕ → Cpu → List Block → State
with_cpu s cpu c held = record { zone = s.zone; cpus = upd s.cpus cpu c; phase = s.phase; held = held; lost = s.lost }

abbrev pub with_phase : State → Phase → State
with_phase s p = record { zone = s.zone; cpus = s.cpus; phase = p; held = s.held; lost = s.lost }

-- every operation is cut off
abbrev pub cut_off : State → Zone → State
cut_off s z = record { zone = z; cpus = λ j. resting; phase = down; held = s.held; lost = lost_all (cpus_of s) s.cpus ++ s.lost }

-- a refused beginning begins nothing
unfoldable pub answered_by : State → Call → Answer → State
answered_by s (get cpu o) a = by_next (next_of a) s (λ r. with_cpu s cpu (record { latest = r; begun = getting (order_of o); marks = [] }) s.held)
answered_by s (put cpu i) a = by_next (next_of a) s (λ r. with_cpu s cpu (record { latest = r; begun = putting (held_at s i); marks = [] }) (without s.held i))
answered_by s (step_of cpu) a = by_next (next_of a) (with_cpu s cpu resting (handed (s.cpus cpu).begun a ++ s.held)) (λ r. with_cpu s cpu (record { latest = r; begun = (s.cpus cpu).begun; marks = (s.cpus cpu).marks }) s.held)
answered_by s close a = by_answer a (λ f. cut_off s s.zone) (λ r. s) s
answered_by s open_first a = by_next (next_of a) s (λ r. with_phase s (opening r))
answered_by s open_later a = by_answer a (λ f. with_phase s ready) (λ r. with_phase s (opening r)) s

-- ---- events

-- a call; a cut between two calls; a cut inside a call, after its store and before its answer. A cut leaves anything in trees and CPUs
pub data Event : Type 0 where
  call : (c : Call) → Event
  cut : (trees cpus : List ℕ) → Event
  cut_in : (c : Call) (trees cpus : List ℕ) → Event

abbrev pub after_cut : State → List ℕ → List ℕ → State
after_cut s ts cs = cut_off s (record { header = s.zone.header; words = s.zone.words; children = s.zone.children; trees = ts; cpus = cs })

unfoldable pub next : State → Event → State
next s (call c) = answered_by (stored_by s c) c (planned s c).answer
next s (cut ts cs) = after_cut s ts cs
next s (cut_in c ts cs) = after_cut (stored_by s c) ts cs

-- ---- which events demand 3 admits

abbrev pub Idle : State → ℕ → Type 0
Idle s cpu = s.cpus cpu ≡ resting

-- gets, puts, steps and closes in an open zone, one operation a CPU; an open only after a cut or a close answered Done, and nothing else until it has finished
abbrev pub Called : State → Call → Type 0
Called s (get cpu o) = (s.phase ≡ ready) × Idle s cpu
Called s (put cpu i) = (s.phase ≡ ready) × Idle s cpu × (i < length s.held)
Called s (step_of cpu) = (s.phase ≡ ready) × (Idle s cpu → ⊥)
Called s close = s.phase ≡ ready
Called s open_first = s.phase ≡ down
Called s open_later = (r : Record) × (s.phase ≡ opening r)

-- trees of the right length, CPUs of any length from 1 to 64
pub record Left (s : State) (ts cs : List ℕ) : Type 0 where
  pub trees : length ts ≡ trees_of (shape_of s.zone)
  pub some : 0 < length cs
  pub most : length cs ≤ most_cpus

abbrev pub Admitted : State → Event → Type 0
Admitted s (call c) = Called s c
Admitted s (cut ts cs) = Left s ts cs
Admitted s (cut_in c ts cs) = Called s c × Left s ts cs

-- ---- where a history begins: a zone that create finished, from tables that held anything
abbrev pub started : Zone → State
started z = record { zone = z; cpus = λ j. resting; phase = ready; held = []; lost = [] }

pub data Reach (n : ℕ) : State → Type 0 where
  start : (z : Zone) → Fitting n z → Reach n (started (creates n z (create_steps (shaped n z))).zone)
  then : {s : State} (e : Event) → Reach n s → Admitted s e → Reach n (next s e)
