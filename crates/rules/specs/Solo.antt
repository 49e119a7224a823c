-- The solo rule: in a zone that a history reaches, a get begun with nothing under way and run alone answers No room exactly where no free block of its size exists.
use Rattle.std.specs.Prelude.{◌≡◌, ◌⊎◌, ℕ, ◌+◌, ◌*◌, ◌%◌, ◌≤◌, ◌<◌}
use Rattle.laws.specs.Sum.{run}
use Rattle.rules.specs.Types.{Frame, Order, Answer}
use Rattle.rules.specs.Numbers.{child_frames}
use Rattle.rules.specs.Blocks.{size}
use Rattle.rules.specs.Answers.{number}
use Rattle.rules.specs.Zone.{Zone, shape_of}
use Rattle.rules.specs.Begin.{order_number, begin_get}
use Rattle.rules.specs.Step.{step, Ran, most_get, follow}
use Rattle.rules.specs.Events.{State, cpus_of, Reach}
use Rattle.rules.specs.Promise.{taken_at, AtRest}

-- the frames of a zone
abbrev pub frames : Zone → ℕ
frames z = child_frames * (shape_of z).huge

-- the block of an order that begins at frame f is free, read off the packed tables
pub record Free (z : Zone) (o : Order) (f : ℕ) : Type 0 where
  pub aligned : f % size o ≡ 0
  pub inside : f + size o ≤ frames z
  pub free : (i : ℕ) → i < size o → taken_at z (f + i) ≡ 0

abbrev pub NoneFree : Zone → Order → Type 0
NoneFree z o = (f : ℕ) → Free z o f → ⊥

-- a get of CPU j, begun and run alone for the most steps of a get
abbrev pub alone : Zone → ℕ → Order → Ran
alone z j o = follow step (most_get (shape_of z)) 0 (begin_get z j (order_number o)).answer z

pub record Solo (z : Zone) (j : ℕ) (o : Order) : Type 0 where
  -- it has ended, with 0 or 2
  pub ends : (number (alone z j o).answer ≡ 0) ⊎ (number (alone z j o).answer ≡ 2)
  -- with 2 exactly where no block is free; and then the same frames are taken
  pub none : number (alone z j o).answer ≡ 2 → NoneFree z o
  pub no_room : NoneFree z o → number (alone z j o).answer ≡ 2
  pub same : number (alone z j o).answer ≡ 2 → (i : ℕ) → i < frames z → taken_at (alone z j o).zone i ≡ taken_at z i
  -- with 0 and the first frame of a block that was free; and then exactly that block is taken besides
  pub block : (f : Frame) → (alone z j o).answer ≡ Answer.Done f → Free z o f.0
  pub takes : (f : Frame) → (alone z j o).answer ≡ Answer.Done f → (i : ℕ) → i < frames z → taken_at (alone z j o).zone i ≡ taken_at z i + run (size o) f.0 i

pub record SoloRule : Type 0 where
  pub solo : (n : ℕ) (s : State) → Reach n s → AtRest s → (j : ℕ) → j < cpus_of s → (o : Order) → Solo s.zone j o
