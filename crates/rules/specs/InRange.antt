-- 11's rule: a record in its range, field by field in document 01's numbers, apart from the plans (D1, D27 to D29, D92).
use Rattle.std.specs.Prelude.{◌≡◌, ◌≢◌, ℕ, ◌+◌, ◌-◌, ◌*◌, ◌/◌, ◌%◌, ◌≤◌, ◌<◌, min}
use Rattle.rules.specs.Types.{Huge, Tree, Run, Order, Block, Pass, Found, Place, Taking, Giving, Creating, Opening, Record}
use Rattle.rules.specs.Places.{found_tree, place_tree}

-- the frames of a run, of an order, of a block
abbrev pub run_frames : Run → ℕ
run_frames Run.One = 1
run_frames Run.Two = 2
run_frames Run.Four = 4
run_frames Run.Eight = 8
run_frames Run.Sixteen = 16
run_frames Run.ThirtyTwo = 32
run_frames Run.SixtyFour = 64

abbrev pub order_frames : Order → ℕ
order_frames (Order.Run r) = run_frames r
order_frames Order.Nine = 512

abbrev pub block_frames : Block → ℕ
block_frames (Block.Run r f) = run_frames r
block_frames (Block.Whole h) = 512

-- of n huge frames: the trees, n / 32 rounded up; the children of a tree, 32 or what the last one has; its capacity, 512 times its children
abbrev pub trees_in : ℕ → ℕ
trees_in n = (n + 31) / 32

abbrev pub children_in : ℕ → Tree → ℕ
children_in n t = min 32 (n - t.0 * 32)

abbrev pub capacity_in : ℕ → Tree → ℕ
capacity_in n t = 512 * children_in n t

-- ---- n huge frames, so many CPUs

module _ (n cpus : ℕ) where
  -- a CPU below the CPU table's length, a huge frame below n, a tree below the trees, a child below its tree's
  abbrev pub CpuExists : ℕ → Type 0
  CpuExists j = j < cpus

  abbrev pub HugeExists : Huge → Type 0
  HugeExists h = h.0 < n

  abbrev pub TreeExists : Tree → Type 0
  TreeExists t = t.0 < trees_in n

  abbrev pub ChildExists : Tree → ℕ → Type 0
  ChildExists t c = c < children_in n t

  -- an amount is at most the capacity of its tree
  abbrev pub HandFits : Tree → ℕ → Type 0
  HandFits t h = h ≤ capacity_in n t

  -- a run's first frame is below 512n and a multiple of its size
  abbrev pub BlockExists : Block → Type 0
  BlockExists (Block.Run r f) = (f.0 < 512 * n) × (f.0 % run_frames r ≡ 0)
  BlockExists (Block.Whole h) = HugeExists h

  -- near: another tree of the base's aligned block of 32
  abbrev pub PassExists : Pass → Type 0
  PassExists (Pass.Near t b) = TreeExists t × TreeExists b × (t.0 ≢ b.0) × (t.0 / 32 ≡ b.0 / 32)
  PassExists (Pass.Partial t) = TreeExists t
  PassExists (Pass.Free t) = TreeExists t
  PassExists (Pass.Any t) = TreeExists t

  -- steal: from another CPU
  abbrev pub OtherCpu : ℕ → ℕ → Type 0
  OtherCpu cpu j = CpuExists j × (j ≢ cpu)

  -- a tree found by a pass or stolen; a place: the own tree, or a found one
  abbrev pub FoundExists : ℕ → Found → Type 0
  FoundExists cpu (Found.Pass p) = PassExists p
  FoundExists cpu (Found.Steal j t) = OtherCpu cpu j × TreeExists t

  abbrev pub PlaceExists : ℕ → Place → Type 0
  PlaceExists cpu (Place.Own t) = TreeExists t
  PlaceExists cpu (Place.Found f) = FoundExists cpu f

  -- stage by stage: a get, a put, create and open
  abbrev pub TakingIn : ℕ → Taking → Type 0
  TakingIn cpu (Taking.Own o) = Unit {0}
  TakingIn cpu (Taking.TakeCount o t) = TreeExists t
  TakingIn cpu (Taking.FillEntry o t h) = TreeExists t × HandFits t h
  TakingIn cpu (Taking.ReturnHand o t h) = TreeExists t × HandFits t h
  TakingIn cpu (Taking.LookAgain o t) = TreeExists t
  TakingIn cpu (Taking.Release o p) = PlaceExists cpu p
  TakingIn cpu (Taking.Unreserve o p h) = PlaceExists cpu p × HandFits (place_tree p) h
  TakingIn cpu (Taking.Try o p) = PassExists p
  TakingIn cpu (Taking.Write o f h) = FoundExists cpu f × HandFits (found_tree f) h
  TakingIn cpu (Taking.Steal o j) = OtherCpu cpu j
  TakingIn cpu (Taking.StealCount o j t h) = OtherCpu cpu j × TreeExists t × HandFits t h
  TakingIn cpu (Taking.Child o p s c) = PlaceExists cpu p × ChildExists (place_tree p) s × ChildExists (place_tree p) c
  TakingIn cpu (Taking.Word r p s c w) = PlaceExists cpu p × ChildExists (place_tree p) s × ChildExists (place_tree p) c × (w < 8)
  TakingIn cpu (Taking.GiveBack r p s c) = PlaceExists cpu p × ChildExists (place_tree p) s × ChildExists (place_tree p) c
  TakingIn cpu (Taking.Last b) = BlockExists b
  TakingIn cpu (Taking.Fail o p) = PlaceExists cpu p
  TakingIn cpu Taking.NoRoom = Unit {0}

  abbrev pub GivingIn : Giving → Type 0
  GivingIn (Giving.Clear b) = BlockExists b
  GivingIn (Giving.Raise r f) = BlockExists (Block.Run r f)
  GivingIn (Giving.ToEntry b) = BlockExists b
  GivingIn (Giving.ToTree b) = BlockExists b

  abbrev pub CreatingIn : Creating → Type 0
  CreatingIn (Creating.Words i) = i < 8 * n
  CreatingIn (Creating.Children h) = HugeExists h
  CreatingIn (Creating.Trees t) = TreeExists t
  CreatingIn (Creating.Cpus j) = CpuExists j
  CreatingIn Creating.Header = Unit {0}

  abbrev pub OpeningIn : Opening → Type 0
  OpeningIn (Opening.Children h) = HugeExists h
  OpeningIn (Opening.Trees t) = TreeExists t
  OpeningIn (Opening.Cpus j) = CpuExists j

  -- the record of a step of a get or put, of a later step of create, and of open: never a finished one or another operation's
  abbrev pub StepIn : Record → Type 0
  StepIn Record.Finished = ⊥
  StepIn (Record.Get cpu s) = CpuExists cpu × TakingIn cpu s
  StepIn (Record.Put cpu s) = CpuExists cpu × GivingIn s
  StepIn (Record.Create s) = ⊥
  StepIn (Record.Open s) = ⊥

  abbrev pub CreateIn : Record → Type 0
  CreateIn Record.Finished = ⊥
  CreateIn (Record.Get cpu s) = ⊥
  CreateIn (Record.Put cpu s) = ⊥
  CreateIn (Record.Create s) = CreatingIn s
  CreateIn (Record.Open s) = ⊥

  abbrev pub OpenIn : Record → Type 0
  OpenIn Record.Finished = ⊥
  OpenIn (Record.Get cpu s) = ⊥
  OpenIn (Record.Put cpu s) = ⊥
  OpenIn (Record.Create s) = ⊥
  OpenIn (Record.Open s) = OpeningIn s
