-- Each number's rule as a fact of the input, in document 01's numbers and apart from the plans; and that a call answers the first number of its list whose rule holds.
use Rattle.std.specs.Prelude.{◌≡◌, ◌⊎◌, ◌≢◌, List, [], ◌∷◌, ◌++◌, ℕ, ◌+◌, ◌-◌, ◌*◌, ◌/◌, ◌%◌, ◌^◌, ◌≤◌, ◌<◌, eqb, length, get_or, Option, Some, None}
use Rattle.laws.specs.Tests.{pick}
use Rattle.laws.specs.Sum.{sum_to}
use Rattle.laws.specs.Words.{bit}
use Rattle.rules.specs.Types.{Frame, Tree, Block, ChildEntry, TreeEntry, CpuEntry, Taking, Giving, Opening, Record}
use Rattle.rules.specs.Numbers.{Shape}
use Rattle.rules.specs.Conversions.{tree}
use Rattle.rules.specs.Blocks.{tree_of_block}
use Rattle.rules.specs.Answers.{number}
use Rattle.rules.specs.Entries.{tallied}
use Rattle.rules.specs.Lower.{child_says}
use Rattle.rules.specs.Zone.{Zone, shaped, tree_entry_at, cpu_entry_at, nothing}
use Rattle.rules.specs.Plan.{Plan}
use Rattle.rules.specs.InRange.{run_frames, order_frames, block_frames, trees_in, children_in, capacity_in, StepIn, CreateIn, OpenIn}
use Rattle.rules.specs.Places.{pass_tree, place_tree}
use Rattle.rules.specs.Begin.{begin_get, begin_put}
use Rattle.rules.specs.Step.{step}
use Rattle.rules.specs.Create.{create_zone, create_step}
use Rattle.rules.specs.Open.{open_zone, open_step, close_zone}

-- ---- lists of rules

pub record Rule : Type 1 where
  pub no : ℕ
  pub holds : Type 0

infix 69 ◌when◌
abbrev pub ◌when◌ : ℕ → Type 0 → Rule
◌when◌ n P = record { no = n; holds = P }

-- m is the first number whose rule holds; where none does, it is as `Else` says
abbrev pub First : List Rule → (ℕ → Type 0) → ℕ → Type 0
First [] Else m = Else m
First (x ∷ l) Else m = (x.holds × (m ≡ x.no)) ⊎ ((x.holds → ⊥) × First l Else m)

-- ---- 8, 9, 10: the header and the lengths

abbrev pub HeaderMissing : Zone → Type 0
HeaderMissing z = length z.header ≢ 1

-- the header's marker and n
abbrev pub marker_in : ℕ → ℕ
marker_in x = x / 2 ^ 42 % 2 ^ 2

abbrev pub huge_in : ℕ → ℕ
huge_in x = x / 2 ^ 25 % 2 ^ 17

-- identifier 0x4C46 (16), format 1 (4), marker 1 or 2 (2), n from 1 to 65,536 (17), zero (25)
pub record WellFormed (x : ℕ) : Type 0 where
  pub identifier : x / 2 ^ 48 % 2 ^ 16 ≡ 0x4C46
  pub format : x / 2 ^ 44 % 2 ^ 4 ≡ 1
  pub marker : (marker_in x ≡ 1) ⊎ (marker_in x ≡ 2)
  pub some : 1 ≤ huge_in x
  pub most : huge_in x ≤ 65536
  pub zeros : x % 2 ^ 25 ≡ 0

abbrev pub word0 : Zone → ℕ
word0 z = get_or z.header 0 0

abbrev pub NotAZone : Zone → Type 0
NotAZone z = WellFormed (word0 z) → ⊥

abbrev pub IsClosed : Zone → Type 0
IsClosed z = marker_in (word0 z) ≡ 2

-- of n huge frames: words 8n, children n, trees n / 32 rounded up, CPUs 1 to 64
pub record Lengths (n : ℕ) (z : Zone) : Type 0 where
  pub words : length z.words ≡ 8 * n
  pub children : length z.children ≡ n
  pub trees : length z.trees ≡ trees_in n
  pub cpus : (1 ≤ length z.cpus) × (length z.cpus ≤ 64)

abbrev pub WrongLength : ℕ → Zone → Type 0
WrongLength n z = Lengths n z → ⊥

-- n by the header
abbrev pub n_of : Zone → ℕ
n_of z = huge_in (word0 z)

abbrev pub open_rules : Zone → List Rule
open_rules z = 8 when HeaderMissing z ∷ 9 when NotAZone z ∷ 10 when IsClosed z ∷ 8 when WrongLength (n_of z) z ∷ []

-- ---- 7, 3, 4, 5: a beginning

abbrev pub get_rules : Zone → ℕ → ℕ → List Rule
get_rules z cpu o = open_rules z ++ (7 when (length z.cpus ≤ cpu) ∷ 3 when ((6 < o) × (o ≢ 9)) ∷ [])

abbrev pub frame_rules : Zone → Frame → ℕ → List Rule
frame_rules z f o = 4 when (512 * n_of z ≤ f.0) ∷ 5 when (f.0 % 2 ^ o ≢ 0) ∷ []

abbrev pub put_rules : Zone → ℕ → Frame → ℕ → List Rule
put_rules z cpu f o = get_rules z cpu o ++ frame_rules z f o

-- ---- 11, 12, 6: a step

-- the entry that a stage reads
pub data Reads : Type 0 where
  no_entry : Reads
  cpu_at : (j : ℕ) → Reads
  tree_at : (t : Tree) → Reads
  child_at : (i : ℕ) → Reads
  a_word : Reads

-- child i of a zone, and the bit of frame f: 1 is taken
abbrev pub child : Zone → ℕ → Option ChildEntry
child z i = child_says (get_or z.children i 0)

abbrev pub taken : Zone → ℕ → ℕ
taken z f = bit (f % 64) (get_or z.words (f / 64) 0)

module _ (g : Shape) (z : Zone) where
  -- it breaks its layout; a word has none
  abbrev pub Broken : Reads → Type 0
  Broken no_entry = ⊥
  Broken (cpu_at j) = cpu_entry_at g z j ≡ None
  Broken (tree_at t) = tree_entry_at g z t ≡ None
  Broken (child_at i) = child z i ≡ None
  Broken a_word = ⊥

  -- a sum that would pass the capacity, in a tree's entry, and in CPU j's if it holds the tree
  abbrev pub TreePasses : Tree → ℕ → Type 0
  TreePasses t h = (r : ℕ) × (k : ℕ) × (tree_entry_at g z t ≡ Some (tallied r k)) × (capacity_in g.huge t < k + h)

  abbrev pub CpuPasses : ℕ → Tree → ℕ → Type 0
  CpuPasses j t h = (s : ℕ) × (k : ℕ) × (cpu_entry_at g z j ≡ Some (CpuEntry.Holds t s k)) × (capacity_in g.huge t < k + h)

  -- a count that would pass 512, or rise with a set
  abbrev pub ChildPasses : ℕ → ℕ → Type 0
  ChildPasses i s = (child z i ≡ Some ChildEntry.Flagged) ⊎ ((k : ℕ) × (child z i ≡ Some (ChildEntry.Counts k)) × (512 < k + s))

  abbrev pub taking_reads : ℕ → Taking → Reads
  taking_reads j (Taking.Own o) = cpu_at j
  taking_reads j (Taking.TakeCount o t) = tree_at t
  taking_reads j (Taking.FillEntry o t h) = cpu_at j
  taking_reads j (Taking.ReturnHand o t h) = tree_at t
  taking_reads j (Taking.LookAgain o t) = cpu_at j
  taking_reads j (Taking.Release o p) = cpu_at j
  taking_reads j (Taking.Unreserve o p h) = tree_at (place_tree p)
  taking_reads j (Taking.Try o p) = tree_at (pass_tree p)
  taking_reads j (Taking.Write o f h) = cpu_at j
  taking_reads j (Taking.Steal o i) = cpu_at i
  taking_reads j (Taking.StealCount o i t h) = tree_at t
  taking_reads j (Taking.Child o p s c) = child_at ((place_tree p).0 * 32 + c)
  taking_reads j (Taking.Word r p s c w) = a_word
  taking_reads j (Taking.GiveBack r p s c) = child_at ((place_tree p).0 * 32 + c)
  taking_reads j (Taking.Last b) = cpu_at j
  taking_reads j (Taking.Fail o p) = tree_at (place_tree p)
  taking_reads j Taking.NoRoom = no_entry

  -- what would be stored breaks its layout, or a sum would pass its limit
  abbrev pub TakingPasses : ℕ → Taking → Type 0
  TakingPasses j (Taking.Own o) = ⊥
  TakingPasses j (Taking.TakeCount o t) = ⊥
  TakingPasses j (Taking.FillEntry o t h) = CpuPasses j t h
  TakingPasses j (Taking.ReturnHand o t h) = TreePasses t h
  TakingPasses j (Taking.LookAgain o t) = ⊥
  TakingPasses j (Taking.Release o p) = ⊥
  TakingPasses j (Taking.Unreserve o p h) = TreePasses (place_tree p) h
  TakingPasses j (Taking.Try o p) = ⊥
  TakingPasses j (Taking.Write o f h) = h < order_frames o
  TakingPasses j (Taking.Steal o i) = ⊥
  TakingPasses j (Taking.StealCount o i t h) = TreePasses t h
  TakingPasses j (Taking.Child o p s c) = ⊥
  TakingPasses j (Taking.Word r p s c w) = ⊥
  TakingPasses j (Taking.GiveBack r p s c) = ChildPasses ((place_tree p).0 * 32 + c) (run_frames r)
  TakingPasses j (Taking.Last b) = ⊥
  TakingPasses j (Taking.Fail o p) = TreePasses (place_tree p) (order_frames o)
  TakingPasses j Taking.NoRoom = ⊥

  abbrev pub giving_reads : ℕ → Giving → Reads
  giving_reads j (Giving.Clear (Block.Run r f)) = a_word
  giving_reads j (Giving.Clear (Block.Whole h)) = child_at h.0
  giving_reads j (Giving.Raise r f) = child_at (f.0 / 512)
  giving_reads j (Giving.ToEntry b) = cpu_at j
  giving_reads j (Giving.ToTree b) = tree_at (tree_of_block g b)

  abbrev pub GivingPasses : ℕ → Giving → Type 0
  GivingPasses j (Giving.Clear b) = ⊥
  GivingPasses j (Giving.Raise r f) = ChildPasses (f.0 / 512) (run_frames r)
  GivingPasses j (Giving.ToEntry b) = CpuPasses j (tree_of_block g b) (block_frames b)
  GivingPasses j (Giving.ToTree b) = TreePasses (tree_of_block g b) (block_frames b)

  -- 6: a bit of the run is clear; order 9, a is clear
  abbrev pub GivingFree : Giving → Type 0
  GivingFree (Giving.Clear (Block.Run r f)) = (i : ℕ) × (i < run_frames r) × (taken z (f.0 + i) ≡ 0)
  GivingFree (Giving.Clear (Block.Whole h)) = (k : ℕ) × (child z h.0 ≡ Some (ChildEntry.Counts k))
  GivingFree (Giving.Raise r f) = ⊥
  GivingFree (Giving.ToEntry b) = ⊥
  GivingFree (Giving.ToTree b) = ⊥

  abbrev pub Damage : Record → Type 0
  Damage Record.Finished = ⊥
  Damage (Record.Get j s) = Broken (taking_reads j s) ⊎ TakingPasses j s
  Damage (Record.Put j s) = Broken (giving_reads j s) ⊎ GivingPasses j s
  Damage (Record.Create s) = ⊥
  Damage (Record.Open s) = ⊥

  abbrev pub NotTaken : Record → Type 0
  NotTaken Record.Finished = ⊥
  NotTaken (Record.Get j s) = ⊥
  NotTaken (Record.Put j s) = GivingFree s
  NotTaken (Record.Create s) = ⊥
  NotTaken (Record.Open s) = ⊥

  -- 12 or 6, with 12 first
  abbrev pub entry_rules : Record → List Rule
  entry_rules r = 12 when Damage r ∷ 6 when NotTaken r ∷ []

abbrev pub step_rules : Zone → Record → List Rule
step_rules z r = open_rules z ++ (11 when (StepIn (n_of z) (length z.cpus) r → ⊥) ∷ entry_rules (shaped (n_of z) z) z r)

-- 0, 1, or the 2 of a get that has tried its last place
abbrev pub NoRoomAt : Record → Type 0
NoRoomAt r = (j : ℕ) × (r ≡ Record.Get j Taking.NoRoom)

abbrev pub StepElse : Record → ℕ → Type 0
StepElse r m = ((m ≡ 0) ⊎ (m ≡ 1)) ⊎ ((m ≡ 2) × NoRoomAt r)

-- ---- create, open, close

abbrev pub size_rules : ℕ → Zone → List Rule
size_rules n z = 14 when ((n ≡ 0) ⊎ (65536 < n)) ∷ 8 when HeaderMissing z ∷ 8 when WrongLength n z ∷ []

abbrev pub create_step_rules : ℕ → Zone → Record → List Rule
create_step_rules n z r = size_rules n z ++ (11 when (CreateIn n (length z.cpus) r → ⊥) ∷ [])

-- what an entry counts, and a CPU's of tree t
abbrev pub of_child : Option ChildEntry → ℕ
of_child None = 0
of_child (Some (ChildEntry.Counts k)) = k
of_child (Some ChildEntry.Flagged) = 0

abbrev pub of_tree : Option TreeEntry → ℕ
of_tree None = 0
of_tree (Some e) = e.count

abbrev pub of_cpu : Tree → Option CpuEntry → ℕ
of_cpu t None = 0
of_cpu t (Some CpuEntry.Absent) = 0
of_cpu t (Some (CpuEntry.Holds u s k)) = pick (eqb u.0 t.0) k 0

module _ (n : ℕ) (z : Zone) where
  -- a malformed child; a child with a set over a field that isn't all zero; a malformed tree or CPU entry
  abbrev pub BadChild : Type 0
  BadChild = (i : ℕ) × (i < n) × (child z i ≡ None)

  abbrev pub BadField : Type 0
  BadField = (i : ℕ) × (i < n) × (child z i ≡ Some ChildEntry.Flagged) × ((f : ℕ) × (f < 512) × (taken z (512 * i + f) ≡ 1))

  abbrev pub BadTree : Type 0
  BadTree = (t : ℕ) × (t < trees_in n) × (tree_entry_at (shaped n z) z (tree t) ≡ None)

  abbrev pub BadCpu : Type 0
  BadCpu = (j : ℕ) × (j < length z.cpus) × (cpu_entry_at (shaped n z) z j ≡ None)

  -- the child that a later step of open reads, or one of the tree's
  abbrev pub BadOpening : Record → Type 0
  BadOpening Record.Finished = ⊥
  BadOpening (Record.Get j s) = ⊥
  BadOpening (Record.Put j s) = ⊥
  BadOpening (Record.Create s) = ⊥
  BadOpening (Record.Open (Opening.Children h)) = child z h.0 ≡ None
  BadOpening (Record.Open (Opening.Trees t)) = (c : ℕ) × (c < children_in n t) × (child z (t.0 * 32 + c) ≡ None)
  BadOpening (Record.Open (Opening.Cpus j)) = ⊥

  -- every child with a clear counts its zero bits, and every tree's count plus the CPU counts that hold it is its children's sum
  pub record Settled : Type 0 where
    pub children : (i : ℕ) → i < n → (k : ℕ) → child z i ≡ Some (ChildEntry.Counts k) → k ≡ sum_to 512 (λ f. 1 - taken z (512 * i + f))
    pub trees : (t : Tree) → t.0 < trees_in n → of_tree (tree_entry_at (shaped n z) z t) + sum_to (length z.cpus) (λ j. of_cpu t (cpu_entry_at (shaped n z) z j)) ≡ sum_to (children_in n t) (λ c. of_child (child z (t.0 * 32 + c)))

abbrev pub open_zone_rules : Zone → List Rule
open_zone_rules z = 8 when HeaderMissing z ∷ 9 when NotAZone z ∷ 8 when WrongLength (n_of z) z ∷ 12 when (BadChild (n_of z) z ⊎ ((marker_in (word0 z) ≡ 1) × BadField (n_of z) z)) ∷ []

abbrev pub open_step_rules : Zone → Record → List Rule
open_step_rules z r = open_rules z ++ (11 when (OpenIn (n_of z) (length z.cpus) r → ⊥) ∷ 12 when BadOpening (n_of z) z r ∷ [])

abbrev pub close_rules : Zone → List Rule
close_rules z = let n : ℕ = n_of z in open_rules z ++ (12 when (BadChild n z ⊎ (BadField n z ⊎ (BadTree n z ⊎ BadCpu n z))) ∷ 13 when (Settled n z → ⊥) ∷ [])

-- ---- the promise

abbrev pub Answered : List Rule → (ℕ → Type 0) → Plan → Type 0
Answered l Else p = First l Else (number p.answer)

-- from 2 up nothing is stored
abbrev pub Quiet : Plan → Type 0
Quiet p = 2 ≤ number p.answer → p.store ≡ nothing

pub record Call (l : List Rule) (Else : ℕ → Type 0) (p : Plan) : Type 0 where
  pub answered : Answered l Else p
  pub quiet : Quiet p

pub record Refusals : Type 0 where
  pub begin_get : (z : Zone) (j o : ℕ) → Call (get_rules z j o) (λ m. m ≡ 1) (begin_get z j o)
  pub begin_put : (z : Zone) (j : ℕ) (f : Frame) (o : ℕ) → Call (put_rules z j f o) (λ m. m ≡ 1) (begin_put z j f o)
  pub step : (z : Zone) (r : Record) → Call (step_rules z r) (StepElse r) (step z r)
  pub create : (n : ℕ) (z : Zone) → Call (size_rules n z) (λ m. m ≡ 1) (create_zone n z)
  pub create_step : (n : ℕ) (z : Zone) (r : Record) → Call (create_step_rules n z r) (λ m. (m ≡ 0) ⊎ (m ≡ 1)) (create_step n z r)
  pub opens : (z : Zone) → Call (open_zone_rules z) (λ m. m ≡ 1) (open_zone z)
  pub open_step : (z : Zone) (r : Record) → Call (open_step_rules z r) (λ m. (m ≡ 0) ⊎ (m ≡ 1)) (open_step z r)
  pub close : (z : Zone) → Call (close_rules z) (λ m. m ≡ 0) (close_zone z)
