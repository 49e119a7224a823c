-- The plans' lists of checks mean what the rules say: the header (9), the lengths (8), n (14) and a record's range (11).
use mathlib.Core.Path.{◌≡◌, refl, sym, ◌∙◌}
use mathlib.Core.Logic.{◌⊎◌}
use Prim.Native.Nat.{ℕ, ◌%◌, ◌≤◌}
use native.Mathlib.Omega.{arith}
use Rattle.laws.specs.Fields.{split, width}
use Rattle.laws.specs.Tests.{Passes}
use Rattle.rules.specs.Types.{Tree, Run, Order, Block, Pass, Found, Place, Taking, Giving, Creating, Opening, Record}
use Rattle.rules.specs.Numbers.{format1, Shape, trees_of, children_of}
use Rattle.rules.specs.Blocks.{run_size, size, size_of}
use Rattle.rules.specs.Entries.{field, header_checks}
use Rattle.rules.specs.Zone.{Zone, shaped}
use Rattle.rules.specs.Checks.{length_checks}
use Rattle.rules.specs.Create.{size_checks}
use Rattle.rules.specs.Places.{found_tree, place_tree}
use Rattle.rules.specs.Ranges.{never, tree_in, hand_in, child_in, block_in, pass_in, steal_in, found_in, place_in, taking_in, giving_in, creating_in, opening_in, step_range, create_range, open_range}
use Rattle.rules.specs.InRange.{run_frames, order_frames, block_frames, TreeExists, ChildExists, HandFits, BlockExists, PassExists, OtherCpu, FoundExists, PlaceExists, TakingIn, GivingIn, CreatingIn, OpeningIn, StepIn, CreateIn, OpenIn}
use Rattle.rules.specs.Refusals.{marker_in, WellFormed, Lengths}
use Rattle.rules.proofs.Lists.{Means, nothing, one, both, three, four}

-- ---- 9: all fields but the marker

pub well_formed_lem : (x : ℕ) → Passes (header_checks x) → (marker_in x ≡ 1) ⊎ (marker_in x ≡ 2) → WellFormed x
unfolding field split width
well_formed_lem x p m = record { identifier = omega arith; format = omega arith; marker = m; some = omega arith; most = omega arith; zeros = omega arith }

pub header_checked : (x : ℕ) → WellFormed x → Passes (header_checks x)
unfolding field split width
header_checked x w = (omega arith, (omega arith, (omega arith, (omega arith, (omega arith, tt)))))

-- ---- 8

pub lengths_in : (n : ℕ) (z : Zone) → Means (length_checks (shaped n z) z) (Lengths n z)
unfolding trees_of
lengths_in n z = record {
  so = λ p. record { words = omega arith; children = omega arith; trees = omega arith; cpus = (omega arith, omega arith) };
  back = λ q. (omega arith, (omega arith, (omega arith, (omega arith, (omega arith, tt)))));
}

-- ---- 14

pub size_in : (n : ℕ) → Means (size_checks n) ((1 ≤ n) × (n ≤ 65536))
size_in n = record { so = λ p. (omega arith, omega arith); back = λ q. (omega arith, (omega arith, tt)) }

-- ---- sizes of blocks, and 11

pub run_size_lem : (r : Run) → run_frames r ≡ run_size r
unfolding run_size
run_size_lem Run.One = refl
run_size_lem Run.Two = refl
run_size_lem Run.Four = refl
run_size_lem Run.Eight = refl
run_size_lem Run.Sixteen = refl
run_size_lem Run.ThirtyTwo = refl
run_size_lem Run.SixtyFour = refl

pub order_size : (o : Order) → order_frames o ≡ size o
order_size (Order.Run r) = run_size_lem r
order_size Order.Nine = refl

pub block_size : (b : Block) → block_frames b ≡ size_of b
block_size (Block.Run r f) = run_size_lem r
block_size (Block.Whole h) = refl

module _ (n cpus : ℕ) where
  abbrev g : Shape
  g = record { format = format1; huge = n; cpus = cpus }

  tree_in_lem : (t : Tree) → Means (tree_in g t) (TreeExists n cpus t)
  unfolding trees_of
  tree_in_lem t = one

  hand_in_lem : (t : Tree) (h : ℕ) → Means (hand_in g t h) (HandFits n cpus t h)
  unfolding children_of
  hand_in_lem t h = record { so = λ p. omega (arith, p.0); back = λ q. (omega (arith, q), tt) }

  child_in_lem : (t : Tree) (c : ℕ) → Means (child_in g t c) (ChildExists n cpus t c)
  unfolding children_of
  child_in_lem t c = one

  block_in_lem : (b : Block) → Means (block_in g b) (BlockExists n cpus b)
  block_in_lem (Block.Run r f) = let e : f.0 % run_frames r ≡ f.0 % run_size r = rw (run_size_lem r) refl in record { so = λ p. (omega (arith, p.0), e ∙ p.1.0); back = λ q. (omega (arith, q.0), (sym e ∙ q.1, tt)) }
  block_in_lem (Block.Whole h) = one

  pass_in_lem : (p : Pass) → Means (pass_in g p) (PassExists n cpus p)
  unfolding pass_in trees_of
  pass_in_lem (Pass.Near t b) = record { so = λ p. (omega arith, omega arith, λ e. omega arith, omega arith); back = λ q. (omega arith, (omega arith, (λ e. omega arith, (omega arith, tt)))) }
  pass_in_lem (Pass.Partial t) = tree_in_lem t
  pass_in_lem (Pass.Free t) = tree_in_lem t
  pass_in_lem (Pass.Any t) = tree_in_lem t

  other_cpu : (cpu j : ℕ) → Means (steal_in g cpu j) (OtherCpu n cpus cpu j)
  other_cpu cpu j = both one one

  found_in_lem : (cpu : ℕ) (f : Found) → Means (found_in g cpu f) (FoundExists n cpus cpu f)
  unfolding found_in
  found_in_lem cpu (Found.Pass p) = pass_in_lem p
  found_in_lem cpu (Found.Steal j t) = both (other_cpu cpu j) (tree_in_lem t)

  place_in_lem : (cpu : ℕ) (p : Place) → Means (place_in g cpu p) (PlaceExists n cpus cpu p)
  unfolding place_in
  place_in_lem cpu (Place.Own t) = tree_in_lem t
  place_in_lem cpu (Place.Found f) = found_in_lem cpu f

  taking_in_lem : (cpu : ℕ) (s : Taking) → Means (taking_in g cpu s) (TakingIn n cpus cpu s)
  unfolding taking_in found_in
  taking_in_lem cpu (Taking.Own o) = nothing
  taking_in_lem cpu (Taking.TakeCount o t) = tree_in_lem t
  taking_in_lem cpu (Taking.FillEntry o t h) = both (tree_in_lem t) (hand_in_lem t h)
  taking_in_lem cpu (Taking.ReturnHand o t h) = both (tree_in_lem t) (hand_in_lem t h)
  taking_in_lem cpu (Taking.LookAgain o t) = tree_in_lem t
  taking_in_lem cpu (Taking.Release o p) = place_in_lem cpu p
  taking_in_lem cpu (Taking.Unreserve o p h) = both (place_in_lem cpu p) (hand_in_lem (place_tree p) h)
  taking_in_lem cpu (Taking.Try o p) = pass_in_lem p
  taking_in_lem cpu (Taking.Write o f h) = both (found_in_lem cpu f) (hand_in_lem (found_tree f) h)
  taking_in_lem cpu (Taking.Steal o j) = other_cpu cpu j
  taking_in_lem cpu (Taking.StealCount o j t h) = three (other_cpu cpu j) (tree_in_lem t) (hand_in_lem t h)
  taking_in_lem cpu (Taking.Child o p s c) = three (place_in_lem cpu p) (child_in_lem (place_tree p) s) (child_in_lem (place_tree p) c)
  taking_in_lem cpu (Taking.Word r p s c w) = four (place_in_lem cpu p) (child_in_lem (place_tree p) s) (child_in_lem (place_tree p) c) one
  taking_in_lem cpu (Taking.GiveBack r p s c) = three (place_in_lem cpu p) (child_in_lem (place_tree p) s) (child_in_lem (place_tree p) c)
  taking_in_lem cpu (Taking.Last b) = block_in_lem b
  taking_in_lem cpu (Taking.Fail o p) = place_in_lem cpu p
  taking_in_lem cpu Taking.NoRoom = nothing

  giving_in_lem : (s : Giving) → Means (giving_in g s) (GivingIn n cpus s)
  unfolding giving_in
  giving_in_lem (Giving.Clear b) = block_in_lem b
  giving_in_lem (Giving.Raise r f) = block_in_lem (Block.Run r f)
  giving_in_lem (Giving.ToEntry b) = block_in_lem b
  giving_in_lem (Giving.ToTree b) = block_in_lem b

  creating_in_lem : (s : Creating) → Means (creating_in g s) (CreatingIn n cpus s)
  unfolding creating_in
  creating_in_lem (Creating.Words i) = one
  creating_in_lem (Creating.Children h) = one
  creating_in_lem (Creating.Trees t) = tree_in_lem t
  creating_in_lem (Creating.Cpus j) = one
  creating_in_lem Creating.Header = nothing

  opening_in_lem : (s : Opening) → Means (opening_in g s) (OpeningIn n cpus s)
  unfolding opening_in
  opening_in_lem (Opening.Children h) = one
  opening_in_lem (Opening.Trees t) = tree_in_lem t
  opening_in_lem (Opening.Cpus j) = one

  never_in : Means never ⊥
  never_in = record { so = λ p. omega (arith, p.0); back = λ q. absurd q }

  pub step_in_lem : (r : Record) → Means (step_range g r) (StepIn n cpus r)
  unfolding step_range
  step_in_lem Record.Finished = never_in
  step_in_lem (Record.Get cpu s) = both (one) (taking_in_lem cpu s)
  step_in_lem (Record.Put cpu s) = both (one) (giving_in_lem s)
  step_in_lem (Record.Create s) = never_in
  step_in_lem (Record.Open s) = never_in

  pub create_in : (r : Record) → Means (create_range g r) (CreateIn n cpus r)
  unfolding create_range
  create_in Record.Finished = never_in
  create_in (Record.Get cpu s) = never_in
  create_in (Record.Put cpu s) = never_in
  create_in (Record.Create s) = creating_in_lem s
  create_in (Record.Open s) = never_in

  pub open_in : (r : Record) → Means (open_range g r) (OpenIn n cpus r)
  unfolding open_range
  open_in Record.Finished = never_in
  open_in (Record.Get cpu s) = never_in
  open_in (Record.Put cpu s) = never_in
  open_in (Record.Create s) = never_in
  open_in (Record.Open s) = opening_in_lem s
