-- Which numbers a record may hold: outside of them, and at a finished or another operation's record, a step answers 11 (D1, D27 to D29).
use Rattle.std.specs.Prelude.{List, [], ◌∷◌, ◌++◌, ℕ, suc, ◌*◌, ◌/◌, ◌%◌}
use Rattle.laws.specs.Tests.{Check, ◌below◌, ◌is◌, ◌isnt◌}
use Rattle.rules.specs.Numbers.{child_frames, child_words, near_trees, Shape, trees_of, children_of, capacity}
use Rattle.rules.specs.Blocks.{run_size}
use Rattle.rules.specs.Places.{place_tree, found_tree}
use Rattle.rules.specs.Types.{Frame, Huge, Tree, Block, Pass, Found, Place, Taking, Giving, Creating, Opening, Record}

-- what nothing passes
abbrev pub never : List Check
never = 0 is 1 ∷ []

module _ (g : Shape) where
  abbrev pub tree_in : Tree → List Check
  tree_in t = t.0 below trees_of g ∷ []

  -- an amount is at most its tree's capacity
  abbrev pub hand_in : Tree → ℕ → List Check
  hand_in t h = h below suc (capacity g t.0) ∷ []

  abbrev pub child_in : Tree → ℕ → List Check
  child_in t c = c below children_of g t.0 ∷ []

  abbrev pub frame_in : Frame → List Check
  frame_in f = f.0 below g.huge * child_frames ∷ []

  abbrev pub huge_in : Huge → List Check
  huge_in h = h.0 below g.huge ∷ []

  -- a run begins at a multiple of its size
  abbrev pub block_in : Block → List Check
  block_in (Block.Run r f) = frame_in f ++ f.0 % run_size r is 0 ∷ []
  block_in (Block.Whole h) = huge_in h

  abbrev pub cpu_in : ℕ → List Check
  cpu_in j = j below g.cpus ∷ []

  -- near: another tree of the base's aligned block
  unfoldable pub pass_in : Pass → List Check
  pass_in (Pass.Near t b) = t.0 below trees_of g ∷ b.0 below trees_of g ∷ t.0 isnt b.0 ∷ t.0 / near_trees is b.0 / near_trees ∷ []
  pass_in (Pass.Partial t) = tree_in t
  pass_in (Pass.Free t) = tree_in t
  pass_in (Pass.Any t) = tree_in t

  -- steal: from another CPU
  abbrev pub steal_in : ℕ → ℕ → List Check
  steal_in cpu j = j below g.cpus ∷ j isnt cpu ∷ []

  unfoldable pub found_in : ℕ → Found → List Check
  found_in cpu (Found.Pass p) = pass_in p
  found_in cpu (Found.Steal j t) = steal_in cpu j ++ tree_in t

  unfoldable pub place_in : ℕ → Place → List Check
  place_in cpu (Place.Own t) = tree_in t
  place_in cpu (Place.Found f) = found_in cpu f

  unfoldable pub taking_in : ℕ → Taking → List Check
  taking_in cpu (Taking.Own o) = []
  taking_in cpu (Taking.TakeCount o t) = tree_in t
  taking_in cpu (Taking.FillEntry o t h) = tree_in t ++ hand_in t h
  taking_in cpu (Taking.ReturnHand o t h) = tree_in t ++ hand_in t h
  taking_in cpu (Taking.LookAgain o t) = tree_in t
  taking_in cpu (Taking.Release o p) = place_in cpu p
  taking_in cpu (Taking.Unreserve o p h) = place_in cpu p ++ hand_in (place_tree p) h
  taking_in cpu (Taking.Try o p) = pass_in p
  taking_in cpu (Taking.Write o f h) = found_in cpu f ++ hand_in (found_tree f) h
  taking_in cpu (Taking.Steal o j) = steal_in cpu j
  taking_in cpu (Taking.StealCount o j t h) = found_in cpu (Found.Steal j t) ++ hand_in t h
  taking_in cpu (Taking.Child o p s c) = place_in cpu p ++ (child_in (place_tree p) s ++ child_in (place_tree p) c)
  taking_in cpu (Taking.Word r p s c w) = place_in cpu p ++ (child_in (place_tree p) s ++ (child_in (place_tree p) c ++ w below child_words ∷ []))
  taking_in cpu (Taking.GiveBack r p s c) = place_in cpu p ++ (child_in (place_tree p) s ++ child_in (place_tree p) c)
  taking_in cpu (Taking.Last b) = block_in b
  taking_in cpu (Taking.Fail o p) = place_in cpu p
  taking_in cpu Taking.NoRoom = []

  unfoldable pub giving_in : Giving → List Check
  giving_in (Giving.Clear b) = block_in b
  giving_in (Giving.Raise r f) = block_in (Block.Run r f)
  giving_in (Giving.ToEntry b) = block_in b
  giving_in (Giving.ToTree b) = block_in b

  unfoldable pub creating_in : Creating → List Check
  creating_in (Creating.Words i) = i below child_words * g.huge ∷ []
  creating_in (Creating.Children h) = huge_in h
  creating_in (Creating.Trees t) = tree_in t
  creating_in (Creating.Cpus j) = cpu_in j
  creating_in Creating.Header = []

  unfoldable pub opening_in : Opening → List Check
  opening_in (Opening.Children h) = huge_in h
  opening_in (Opening.Trees t) = tree_in t
  opening_in (Opening.Cpus j) = cpu_in j

  -- for a step of a get or put, a later step of create, and one of open
  unfoldable pub step_range : Record → List Check
  step_range Record.Finished = never
  step_range (Record.Get cpu s) = cpu_in cpu ++ taking_in cpu s
  step_range (Record.Put cpu s) = cpu_in cpu ++ giving_in s
  step_range (Record.Create s) = never
  step_range (Record.Open s) = never

  unfoldable pub create_range : Record → List Check
  create_range Record.Finished = never
  create_range (Record.Get cpu s) = never
  create_range (Record.Put cpu s) = never
  create_range (Record.Create s) = creating_in s
  create_range (Record.Open s) = never

  unfoldable pub open_range : Record → List Check
  open_range Record.Finished = never
  open_range (Record.Get cpu s) = never
  open_range (Record.Put cpu s) = never
  open_range (Record.Create s) = never
  open_range (Record.Open s) = opening_in s
