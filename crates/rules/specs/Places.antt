-- Classes, the passes and the order of places (rules 3, 4 and 7): the next place never looks at a table.
use Rattle.std.specs.Prelude.{Bool, true, false, ◌&&◌, ℕ, suc, ◌*◌, ◌/◌, eqb, ltb}
use Rattle.laws.specs.Tests.{pick}
use Rattle.rules.specs.Numbers.{near_trees, Shape, trees_of}
use Rattle.rules.specs.Conversions.{tree}
use Rattle.rules.specs.Types.{Tree, Order, Pass, Found, Place, Taking}

-- classes, by count: allocated below 2,048; free above 14,336; partial between, both ends included
pub data Class : Type 0 where
  allocated : Class
  partial : Class
  free : Class

abbrev pub low_edge : ℕ
low_edge = 2048

abbrev pub high_edge : ℕ
high_edge = 14336

unfoldable pub class_of : ℕ → Class
class_of k = pick (ltb k low_edge) allocated (pick (ltb high_edge k) free partial)

-- rule 3: near takes partial or free; then partial; then free; then any
unfoldable pub fits : Pass → Class → Bool
fits (Pass.Near t b) allocated = false
fits (Pass.Near t b) partial = true
fits (Pass.Near t b) free = true
fits (Pass.Partial t) allocated = false
fits (Pass.Partial t) partial = true
fits (Pass.Partial t) free = false
fits (Pass.Free t) allocated = false
fits (Pass.Free t) partial = false
fits (Pass.Free t) free = true
fits (Pass.Any t) c = true

-- the tree of a place
abbrev pub pass_tree : Pass → Tree
pass_tree (Pass.Near t b) = t
pass_tree (Pass.Partial t) = t
pass_tree (Pass.Free t) = t
pass_tree (Pass.Any t) = t

abbrev pub found_tree : Found → Tree
found_tree (Found.Pass p) = pass_tree p
found_tree (Found.Steal j t) = t

abbrev pub place_tree : Place → Tree
place_tree (Place.Own t) = t
place_tree (Place.Found f) = found_tree f

-- i, or the next where i is to be left out
abbrev pub skip : ℕ → ℕ → ℕ
skip x i = pick (eqb i x) (suc i) i

module _ (g : Shape) (cpu : ℕ) (o : Order) where
  -- the first step at tree 0 of a pass over all trees, and at its tree i, or at what follows the pass
  abbrev pub try : Pass → Taking
  try p = Taking.Try o p

  abbrev pub try_at : (Tree → Pass) → ℕ → Taking → Taking
  try_at p i after = pick (ltb i (trees_of g)) (try (p (tree i))) after

  -- near: the trees from i on of the aligned block that holds b, but b; with none left the partial pass begins (D5, D8)
  abbrev pub near_from : ℕ → Tree → Taking
  near_from i b = pick (ltb i (trees_of g) && eqb (i / near_trees) (b.0 / near_trees)) (try (Pass.Near (tree i) b)) (try (Pass.Partial (tree 0)))

  -- steal: the CPUs from j on, but the own; after the last the answer is No room (D7, D8)
  abbrev pub steal_from : ℕ → Taking
  steal_from j = pick (ltb j g.cpus) (Taking.Steal o j) Taking.NoRoom

  unfoldable pub after_pass : Pass → Taking
  after_pass (Pass.Near t b) = near_from (skip b.0 (suc t.0)) b
  after_pass (Pass.Partial t) = try_at Pass.Partial (suc t.0) (try (Pass.Free (tree 0)))
  after_pass (Pass.Free t) = try_at Pass.Free (suc t.0) (try (Pass.Any (tree 0)))
  after_pass (Pass.Any t) = try_at Pass.Any (suc t.0) (steal_from (skip cpu 0))

  unfoldable pub after_steal : ℕ → Taking
  after_steal j = steal_from (skip cpu (suc j))

  -- the near pass is of the tree that the get started with (D6)
  unfoldable pub after_place : Place → Taking
  after_place (Place.Own t) = near_from (skip t.0 (t.0 / near_trees * near_trees)) t
  after_place (Place.Found (Found.Pass p)) = after_pass p
  after_place (Place.Found (Found.Steal j t)) = after_steal j
