-- Demand 3: what holds at every state that a history reaches.
use Rattle.std.specs.Prelude.{◌≡◌, ◌⊎◌, List, [], ◌∷◌, ◌++◌, ℕ, zero, suc, ◌+◌, ◌-◌, ◌*◌, ◌/◌, ◌%◌, ◌^◌, ◌≤◌, ◌<◌, eqb, length, get_or}
use Rattle.laws.specs.Tests.{pick}
use Rattle.laws.specs.Sum.{sum_to, sum_l, run}
use Rattle.laws.specs.Words.{bit}
use Rattle.rules.specs.Types.{Tree, Run, Block, Taking, Giving, Record, Answer}
use Rattle.rules.specs.Numbers.{child_frames, Shape, per_tree, trees_of, capacity}
use Rattle.rules.specs.Conversions.{frame, huge, tree}
use Rattle.rules.specs.Blocks.{size_of, first_of, block_at}
use Rattle.rules.specs.Answers.{number, by_answer}
use Rattle.rules.specs.Entries.{header_word, running}
use Rattle.rules.specs.Lower.{count_in}
use Rattle.rules.specs.Zone.{Zone, shape_of, tree_entry_at, cpu_entry_at}
use Rattle.rules.specs.Plan.{by_cpu, by_tree}
use Rattle.rules.specs.Open.{child_at, tree_count, cpu_count}
use Rattle.rules.specs.Fresh.{Fitting}
use Rattle.rules.specs.Events.{Begun, idle, getting, putting, lost_of, ready, State, cpus_of, held_at, Call, get, put, step_of, close, open_first, open_later, order_of_block, planned, Event, call, next, Idle, Called, Admitted, Reach}

-- ---- frames, each counted as 1 or 0

-- frame f stands in block b; the blocks of a list that it stands in
abbrev pub covers : Block → ℕ → ℕ
covers b f = run (size_of b) (first_of b).0 f

abbrev pub covered : List Block → ℕ → ℕ
covered l f = sum_l (λ b. covers b f) l

-- frame f is taken, read off the packed tables: its child's flag, the first of that entry's 16 bits, or its bit is set
abbrev pub taken_at : Zone → ℕ → ℕ
taken_at z f = pick (eqb (get_or z.children (f / 512) 0 / 2 ^ 15 % 2) 1) 1 (bit (f % 64) (get_or z.words (f / 64) 0))

-- the frames from a on, k of them, that a history leaves free: in no held and in no lost block
abbrev pub free_in : State → ℕ → ℕ → ℕ
free_in s a k = sum_to k (λ i. 1 - (covered s.held (a + i) + covered s.lost (a + i)))

-- a block lies in a zone of n huge frames
abbrev pub Inside : ℕ → Block → Type 0
Inside n b = (first_of b).0 + size_of b ≤ child_frames * n

abbrev pub lost_at : State → ℕ → Block
lost_at s i = get_or s.lost i (Block.Run Run.One (frame 0))

-- ---- reservations

-- tree t's r, and 1 where CPU j's entry holds tree t, read off the packed tables
unfoldable pub reserved_at : Shape → Zone → Tree → ℕ
reserved_at g z t = by_tree (tree_entry_at g z t) 0 (λ r k. r)

unfoldable pub holds_at : Shape → Zone → Tree → ℕ → ℕ
holds_at g z t j = by_cpu (cpu_entry_at g z j) 0 0 (λ u s k. pick (eqb u.0 t.0) 1 0)

-- ---- the zone is open and nothing is under way
abbrev pub AtRest : State → Type 0
AtRest s = (s.phase ≡ ready) × ((j : ℕ) → Idle s j)

-- what the latest record says of a block that would be lost
abbrev pub owned_by : Record → List Block
owned_by Record.Finished = []
owned_by (Record.Get j (Taking.Own o)) = []
owned_by (Record.Get j (Taking.TakeCount o t)) = []
owned_by (Record.Get j (Taking.FillEntry o t h)) = []
owned_by (Record.Get j (Taking.ReturnHand o t h)) = []
owned_by (Record.Get j (Taking.LookAgain o t)) = []
owned_by (Record.Get j (Taking.Release o p)) = []
owned_by (Record.Get j (Taking.Unreserve o p h)) = []
owned_by (Record.Get j (Taking.Try o p)) = []
owned_by (Record.Get j (Taking.Write o f h)) = []
owned_by (Record.Get j (Taking.Steal o i)) = []
owned_by (Record.Get j (Taking.StealCount o i t h)) = []
owned_by (Record.Get j (Taking.Child o p s c)) = []
owned_by (Record.Get j (Taking.Word r p s c w)) = []
owned_by (Record.Get j (Taking.GiveBack r p s c)) = []
owned_by (Record.Get j (Taking.Last b)) = b ∷ []
owned_by (Record.Get j (Taking.Fail o p)) = []
owned_by (Record.Get j Taking.NoRoom) = []
owned_by (Record.Put j (Giving.Clear b)) = b ∷ []
owned_by (Record.Put j (Giving.Raise r f)) = []
owned_by (Record.Put j (Giving.ToEntry b)) = []
owned_by (Record.Put j (Giving.ToTree b)) = []
owned_by (Record.Create x) = []
owned_by (Record.Open x) = []

-- the most that a step answers: 2 for a get, 1 for a put
abbrev pub most : Begun → ℕ
most idle = 0
most (getting o) = 2
most (putting b) = 1

-- more than the steps that a CPU makes of what it is at before the one that answers: document 01's bounds, in a zone of n huge frames and c CPUs
abbrev pub most_steps : ℕ → ℕ → Begun → ℕ
most_steps n c idle = 1
most_steps n c (getting o) = 330 * (3 * ((n + 31) / 32) + c + 33)
most_steps n c (putting b) = 4

-- ---- lost blocks

-- what an operation that is cut off may lose: at most one block, of a get one of its order, of a put its own
abbrev pub Loses : Begun → List Block → Type 0
Loses idle l = l ≡ []
Loses (getting o) l = (l ≡ []) ⊎ ((b : Block) × (l ≡ b ∷ []) × (order_of_block b ≡ o))
Loses (putting b) l = (l ≡ []) ⊎ (l ≡ b ∷ [])

-- the lists of CPUs 0 to k - 1, one after another
unfoldable pub gathered : ℕ → (ℕ → List Block) → List Block
gathered zero f = []
gathered (suc k) f = f k ++ gathered k f

-- the lost blocks after an event are new ones, by what each CPU was at, before the old
pub record Lost (s : State) (e : Event) : Type 0 where
  pub by : ℕ → List Block
  pub new : (next s e).lost ≡ gathered (cpus_of s) by ++ s.lost
  pub each : (j : ℕ) → Loses (s.cpus j).begun (by j)

-- a get that is answered Done names the first frame of the block that is held from then on
abbrev pub Names : Begun → Answer → Type 0
Names idle a = Unit {0}
Names (getting o) a = by_answer a (λ f. (first_of (block_at o (frame f))).0 ≡ f) (λ r. Unit {0}) (Unit {0})
Names (putting b) a = Unit {0}

pub record Promise (n : ℕ) (s : State) : Type 0 where
  -- the zone has the n huge frames that it was created with, and while it is open its header is the running one of n
  pub size : (shape_of s.zone).huge ≡ n
  pub header : s.phase ≡ ready → s.zone.header ≡ header_word running n ∷ []
  -- no frame stands in two held blocks
  pub apart : (i j f : ℕ) → i < j → j < length s.held → covers (held_at s i) f + covers (held_at s j) f ≤ 1
  -- held and lost blocks lie in the zone, and each held one begins at the frame that its get answered
  pub inside : (i : ℕ) → i < length s.held → Inside n (held_at s i)
  pub lost_inside : (i : ℕ) → i < length s.lost → Inside n (lost_at s i)
  pub names : (j : ℕ) → Called s (step_of j) → Names (s.cpus j).begun (planned s (step_of j)).answer
  -- at rest the taken frames are exactly the held and the lost ones, each in one block
  pub taken : AtRest s → (f : ℕ) → f < 512 * n → taken_at s.zone f ≡ covered s.held f + covered s.lost f
  -- and an open that finishes is at rest
  pub opened : Called s open_later → number (planned s open_later).answer ≡ 0 → AtRest (next s (call open_later))
  -- at rest the counters of each tree, and each child's count, are the frames that the history leaves free
  pub trees : AtRest s → (t : ℕ) → t < trees_of (shape_of s.zone)
      → tree_count (shape_of s.zone) s.zone (tree t) + sum_to (cpus_of s) (cpu_count (shape_of s.zone) s.zone (tree t)) ≡ free_in s (child_frames * (t * per_tree (shape_of s.zone))) (capacity (shape_of s.zone) t)
  pub children : AtRest s → (c : ℕ) → c < n → count_in (child_at (shape_of s.zone) s.zone (huge c)) ≡ free_in s (512 * c) 512
  -- at rest each tree's r is the number of CPU entries that hold it
  pub reserved : AtRest s → (t : ℕ) → t < trees_of (shape_of s.zone) → reserved_at (shape_of s.zone) s.zone (tree t) ≡ sum_to (cpus_of s) (holds_at (shape_of s.zone) s.zone (tree t))
  -- no step is refused; a beginning is refused by 7 or 3 alone, and a refused put leaves its block held
  pub steps : (j : ℕ) → Called s (step_of j) → number (planned s (step_of j)).answer ≤ most (s.cpus j).begun
  pub gets : (j o : ℕ) → Called s (get j o) → (number (planned s (get j o)).answer ≡ 1) ⊎ ((number (planned s (get j o)).answer ≡ 7) ⊎ (number (planned s (get j o)).answer ≡ 3))
  pub puts : (j i : ℕ) → Called s (put j i) → (number (planned s (put j i)).answer ≡ 1) ⊎ ((number (planned s (put j i)).answer ≡ 7) × ((next s (call (put j i))).held ≡ s.held))
  pub open_first : Called s open_first → number (planned s open_first).answer ≡ 1
  pub open_later : Called s open_later → number (planned s open_later).answer ≤ 1
  -- a CPU has one mark more after each step of what it is at, and fewer marks than the bound
  pub counts : (j : ℕ) → Called s (step_of j) → number (planned s (step_of j)).answer ≡ 1 → length ((next s (call (step_of j))).cpus j).marks ≡ suc (length (s.cpus j).marks)
  pub soon : (j : ℕ) → length (s.cpus j).marks < most_steps n (cpus_of s) (s.cpus j).begun
  -- with nothing under way, close answers Done
  pub closes : AtRest s → number (planned s close).answer ≡ 0
  -- an event adds at most one lost block a CPU, and no call but a close answered Done adds any
  pub loses : (e : Event) → Admitted s e → Lost s e
  pub keeps : (c : Call) → Called s c → ((next s (call c)).lost ≡ s.lost) ⊎ ((c ≡ close) × (number (planned s close).answer ≡ 0))
  -- the latest record tells the same of lost blocks
  pub told : (j : ℕ) → lost_of (s.cpus j) ≡ owned_by (s.cpus j).latest

pub record Demand3 : Type 0 where
  -- a history can begin at every size, with every number of CPUs, and at no other
  pub starts : (n c : ℕ) → 0 < n → n ≤ 65536 → 0 < c → c ≤ 64 → (z : Zone) × Fitting n z × (length z.cpus ≡ c)
  pub only : (n : ℕ) (z : Zone) → Fitting n z → (0 < n) × (n ≤ 65536) × (0 < length z.cpus) × (length z.cpus ≤ 64)
  pub holds : (n : ℕ) (s : State) → Reach n s → Promise n s
