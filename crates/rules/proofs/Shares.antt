-- What an operation under way contributes, by its record: what it owns, what it is owed, what it keeps reserved, and what its CPU's entry may be.
use Rattle.std.specs.Prelude.{Option, Some}
use mathlib.Core.Path.{◌≡◌}
use mathlib.Core.List.{List, []}
use Prim.Native.Nat.{ℕ, ◌+◌, ◌*◌, ◌≤◌}
use Rattle.laws.specs.Tests.{Passes}
use Rattle.laws.specs.Sum.{run, at}
use Rattle.rules.specs.Types.{Tree, Order, Block, CpuEntry, Place, Taking, Giving, Record}
use Rattle.rules.specs.Numbers.{Shape, per_tree}
use Rattle.rules.specs.Blocks.{run_size, size, size_of, tree_of_block, huge_of_block}
use Rattle.rules.specs.Plan.{Mark, by_cpu}
use Rattle.rules.specs.Ranges.{taking_in, giving_in}
use Rattle.rules.specs.Places.{found_tree, place_tree}
use Rattle.rules.specs.Events.{Begun, idle, getting, putting, Cpu, order_of_block, taken, unless_cleared}
use Rattle.rules.specs.Promise.{owned_by}

-- ---- what a block covers, as base frames and as whole children
unfoldable pub base_of : ℕ → Block → ℕ
base_of f (Block.Run v b) = run (run_size v) b.0 f
base_of f (Block.Whole h) = 0

unfoldable pub whole_of : ℕ → Block → ℕ
whole_of c (Block.Run v b) = 0
whole_of c (Block.Whole h) = at h.0 1 c

-- ---- what an entry counts of tree t, and whether it holds it
unfoldable pub share : ℕ → Option CpuEntry → ℕ
share t e = by_cpu e 0 0 (λ u s k. at u.0 k t)

unfoldable pub has : ℕ → Option CpuEntry → ℕ
has t e = by_cpu e 0 0 (λ u s k. at u.0 1 t)

module _ (g : Shape) where
  abbrev pub child_no : Place → ℕ → ℕ
  child_no p c = (place_tree p).0 * per_tree g + c

  -- zero bits of child x that its count leaves out
  unfoldable pub low_of : Record → ℕ → ℕ
  low_of Record.Finished x = 0
  low_of (Record.Get j (Taking.Own o)) x = 0
  low_of (Record.Get j (Taking.TakeCount o t)) x = 0
  low_of (Record.Get j (Taking.FillEntry o t h)) x = 0
  low_of (Record.Get j (Taking.ReturnHand o t h)) x = 0
  low_of (Record.Get j (Taking.LookAgain o t)) x = 0
  low_of (Record.Get j (Taking.Release o p)) x = 0
  low_of (Record.Get j (Taking.Unreserve o p h)) x = 0
  low_of (Record.Get j (Taking.Try o p)) x = 0
  low_of (Record.Get j (Taking.Write o f h)) x = 0
  low_of (Record.Get j (Taking.Steal o i)) x = 0
  low_of (Record.Get j (Taking.StealCount o i t h)) x = 0
  low_of (Record.Get j (Taking.Child o p s c)) x = 0
  low_of (Record.Get j (Taking.Word v p s c w)) x = at (child_no p c) (run_size v) x
  low_of (Record.Get j (Taking.GiveBack v p s c)) x = at (child_no p c) (run_size v) x
  low_of (Record.Get j (Taking.Last b)) x = 0
  low_of (Record.Get j (Taking.Fail o p)) x = 0
  low_of (Record.Get j Taking.NoRoom) x = 0
  low_of (Record.Put j (Giving.Clear b)) x = 0
  low_of (Record.Put j (Giving.Raise v f)) x = at (huge_of_block (Block.Run v f)).0 (run_size v) x
  low_of (Record.Put j (Giving.ToEntry b)) x = 0
  low_of (Record.Put j (Giving.ToTree b)) x = 0
  low_of (Record.Create y) x = 0
  low_of (Record.Open y) x = 0

  -- frames of tree x that are in hand, claimed, or on their way back
  unfoldable pub owed : Record → ℕ → ℕ
  owed Record.Finished x = 0
  owed (Record.Get j (Taking.Own o)) x = 0
  owed (Record.Get j (Taking.TakeCount o t)) x = 0
  owed (Record.Get j (Taking.FillEntry o t h)) x = at t.0 h x
  owed (Record.Get j (Taking.ReturnHand o t h)) x = at t.0 h x
  owed (Record.Get j (Taking.LookAgain o t)) x = 0
  owed (Record.Get j (Taking.Release o p)) x = 0
  owed (Record.Get j (Taking.Unreserve o p h)) x = at (place_tree p).0 h x
  owed (Record.Get j (Taking.Try o p)) x = 0
  owed (Record.Get j (Taking.Write o f h)) x = at (found_tree f).0 h x
  owed (Record.Get j (Taking.Steal o i)) x = 0
  owed (Record.Get j (Taking.StealCount o i t h)) x = at t.0 h x
  owed (Record.Get j (Taking.Child o p s c)) x = at (place_tree p).0 (size o) x
  owed (Record.Get j (Taking.Word v p s c w)) x = at (place_tree p).0 (run_size v) x
  owed (Record.Get j (Taking.GiveBack v p s c)) x = at (place_tree p).0 (run_size v) x
  owed (Record.Get j (Taking.Last b)) x = 0
  owed (Record.Get j (Taking.Fail o p)) x = at (place_tree p).0 (size o) x
  owed (Record.Get j Taking.NoRoom) x = 0
  owed (Record.Put j (Giving.Clear b)) x = 0
  owed (Record.Put j (Giving.Raise v f)) x = at (tree_of_block g (Block.Run v f)).0 (run_size v) x
  owed (Record.Put j (Giving.ToEntry b)) x = at (tree_of_block g b).0 (size_of b) x
  owed (Record.Put j (Giving.ToTree b)) x = at (tree_of_block g b).0 (size_of b) x
  owed (Record.Create y) x = 0
  owed (Record.Open y) x = 0

-- the reservation of tree x, where the record carries it
unfoldable pub reserves : Record → ℕ → ℕ
reserves Record.Finished x = 0
reserves (Record.Get j (Taking.Own o)) x = 0
reserves (Record.Get j (Taking.TakeCount o t)) x = 0
reserves (Record.Get j (Taking.FillEntry o t h)) x = 0
reserves (Record.Get j (Taking.ReturnHand o t h)) x = 0
reserves (Record.Get j (Taking.LookAgain o t)) x = 0
reserves (Record.Get j (Taking.Release o p)) x = 0
reserves (Record.Get j (Taking.Unreserve o p h)) x = at (place_tree p).0 1 x
reserves (Record.Get j (Taking.Try o p)) x = 0
reserves (Record.Get j (Taking.Write o f h)) x = at (found_tree f).0 1 x
reserves (Record.Get j (Taking.Steal o i)) x = 0
reserves (Record.Get j (Taking.StealCount o i t h)) x = at t.0 1 x
reserves (Record.Get j (Taking.Child o p s c)) x = 0
reserves (Record.Get j (Taking.Word v p s c w)) x = 0
reserves (Record.Get j (Taking.GiveBack v p s c)) x = 0
reserves (Record.Get j (Taking.Last b)) x = 0
reserves (Record.Get j (Taking.Fail o p)) x = 0
reserves (Record.Get j Taking.NoRoom) x = 0
reserves (Record.Put j s) x = 0
reserves (Record.Create y) x = 0
reserves (Record.Open y) x = 0

-- ---- the own entry: anything; absent, or holding tree t; absent
pub data Want : Type 0 where
  anything : Want
  mine : (t : Tree) → Want
  gone : Want

abbrev pub Wanted : Want → Option CpuEntry → Type 0
Wanted anything e = Unit {0}
Wanted (mine t) e = (u : Tree) (s k : ℕ) → e ≡ Some (CpuEntry.Holds u s k) → u ≡ t
Wanted gone e = e ≡ Some CpuEntry.Absent

abbrev pub want : Record → Want
want Record.Finished = anything
want (Record.Get j (Taking.Own o)) = anything
want (Record.Get j (Taking.TakeCount o t)) = mine t
want (Record.Get j (Taking.FillEntry o t h)) = mine t
want (Record.Get j (Taking.ReturnHand o t h)) = mine t
want (Record.Get j (Taking.LookAgain o t)) = mine t
want (Record.Get j (Taking.Release o p)) = mine (place_tree p)
want (Record.Get j (Taking.Unreserve o p h)) = gone
want (Record.Get j (Taking.Try o p)) = gone
want (Record.Get j (Taking.Write o f h)) = gone
want (Record.Get j (Taking.Steal o i)) = gone
want (Record.Get j (Taking.StealCount o i t h)) = gone
want (Record.Get j (Taking.Child o p s c)) = mine (place_tree p)
want (Record.Get j (Taking.Word v p s c w)) = mine (place_tree p)
want (Record.Get j (Taking.GiveBack v p s c)) = mine (place_tree p)
want (Record.Get j (Taking.Last b)) = anything
want (Record.Get j (Taking.Fail o p)) = mine (place_tree p)
want (Record.Get j Taking.NoRoom) = gone
want (Record.Put j s) = anything
want (Record.Create y) = anything
want (Record.Open y) = anything

-- ---- a record that CPU j may have under way: in range, its own, and with a hand for its claim
abbrev pub Enough : Taking → Type 0
Enough (Taking.Own o) = Unit {0}
Enough (Taking.TakeCount o t) = Unit {0}
Enough (Taking.FillEntry o t h) = Unit {0}
Enough (Taking.ReturnHand o t h) = Unit {0}
Enough (Taking.LookAgain o t) = Unit {0}
Enough (Taking.Release o p) = Unit {0}
Enough (Taking.Unreserve o p h) = Unit {0}
Enough (Taking.Try o p) = Unit {0}
Enough (Taking.Write o f h) = size o ≤ h
Enough (Taking.Steal o i) = Unit {0}
Enough (Taking.StealCount o i t h) = Unit {0}
Enough (Taking.Child o p s c) = Unit {0}
Enough (Taking.Word v p s c w) = Unit {0}
Enough (Taking.GiveBack v p s c) = Unit {0}
Enough (Taking.Last b) = Unit {0}
Enough (Taking.Fail o p) = Unit {0}
Enough Taking.NoRoom = Unit {0}

abbrev pub Proper : Shape → ℕ → Record → Type 0
Proper g j Record.Finished = Unit {0}
Proper g j (Record.Get i s) = (i ≡ j) × Passes (taking_in g j s) × Enough s
Proper g j (Record.Put i s) = (i ≡ j) × Passes (giving_in g s)
Proper g j (Record.Create y) = ⊥
Proper g j (Record.Open y) = ⊥

-- ---- what a CPU began and stored agrees with its latest record

-- the order of a get's stage
abbrev pub OfOrder : Taking → Order → Type 0
OfOrder (Taking.Own o) k = o ≡ k
OfOrder (Taking.TakeCount o t) k = o ≡ k
OfOrder (Taking.FillEntry o t h) k = o ≡ k
OfOrder (Taking.ReturnHand o t h) k = o ≡ k
OfOrder (Taking.LookAgain o t) k = o ≡ k
OfOrder (Taking.Release o p) k = o ≡ k
OfOrder (Taking.Unreserve o p h) k = o ≡ k
OfOrder (Taking.Try o p) k = o ≡ k
OfOrder (Taking.Write o f h) k = o ≡ k
OfOrder (Taking.Steal o i) k = o ≡ k
OfOrder (Taking.StealCount o i t h) k = o ≡ k
OfOrder (Taking.Child o p s c) k = o ≡ k
OfOrder (Taking.Word v p s c w) k = (Order.Run v) ≡ k
OfOrder (Taking.GiveBack v p s c) k = (Order.Run v) ≡ k
OfOrder (Taking.Last b) k = order_of_block b ≡ k
OfOrder (Taking.Fail o p) k = o ≡ k
OfOrder Taking.NoRoom k = Unit {0}

abbrev pub AgreesWith : Begun → List Mark → Record → Type 0
AgreesWith b l Record.Finished = (b ≡ idle) × (l ≡ [])
AgreesWith b l (Record.Get j s) = (o : Order) × (b ≡ getting o) × OfOrder s o × (taken l ≡ owned_by (Record.Get j s))
AgreesWith b l (Record.Put j s) = (x : Block) × (b ≡ putting x) × (unless_cleared x l ≡ owned_by (Record.Put j s))
AgreesWith b l (Record.Create y) = ⊥
AgreesWith b l (Record.Open y) = ⊥

abbrev pub Agrees : Cpu → Type 0
Agrees c = AgreesWith c.begun c.marks c.latest
