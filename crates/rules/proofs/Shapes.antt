-- A shape's trees and children: the laws of tree arithmetic, for `trees_of` and `children_of`.
use mathlib.Core.Path.{◌≡◌, sym, ap, ◌∙◌}
use Prim.Native.Nat.{ℕ, ◌+◌, ◌*◌, ◌/◌, ◌%◌, ◌≤◌, ◌<◌}
use native.Mathlib.Omega.{arith}
use Rattle.laws.specs.Sum.{sum_to, at}
use Rattle.laws.proofs.Sum.{sum_single, sum_zero, at_same, at_other, here, elsewhere, placed}
use Rattle.laws.proofs.Trees as Trees
use Rattle.rules.specs.Numbers.{Shape, per_tree, trees_of, children_of}

module _ (g : Shape) (k+ : 0 < per_tree g) where
  pub tree_first : (t : ℕ) → t < trees_of g → t * per_tree g < g.huge
  unfolding trees_of
  tree_first = Trees.tree_first (per_tree g) g.huge k+

  pub some_tree : 0 < g.huge → 0 < trees_of g
  unfolding trees_of
  some_tree h = Trees.first_tree (per_tree g) g.huge k+ 0 (omega arith)

  pub kids_some : (t : ℕ) → t < trees_of g → 0 < children_of g t
  unfolding trees_of children_of
  kids_some = Trees.kids_some (per_tree g) g.huge k+

  pub kids_most : (t : ℕ) → children_of g t ≤ per_tree g
  unfolding children_of
  kids_most = Trees.kids_most (per_tree g) g.huge k+

  pub child_in_lem : (t c : ℕ) → c < children_of g t → t * per_tree g + c < g.huge
  unfolding children_of
  child_in_lem = Trees.child_in_lem (per_tree g) g.huge k+

  pub tree_of_child : (t c : ℕ) → c < children_of g t → (t * per_tree g + c) / per_tree g ≡ t
  unfolding children_of
  tree_of_child = Trees.tree_of_child (per_tree g) g.huge k+

  pub number_of_child : (t c : ℕ) → c < children_of g t → (t * per_tree g + c) % per_tree g ≡ c
  unfolding children_of
  number_of_child = Trees.number_of_child (per_tree g) g.huge k+

  pub huge_is : (h : ℕ) → h / per_tree g * per_tree g + h % per_tree g ≡ h
  huge_is = Trees.huge_is (per_tree g) g.huge k+

  pub tree_in_lem : (h : ℕ) → h < g.huge → h / per_tree g < trees_of g
  unfolding trees_of
  tree_in_lem = Trees.tree_in_lem (per_tree g) g.huge k+

  pub number_in : (h : ℕ) → h < g.huge → h % per_tree g < children_of g (h / per_tree g)
  unfolding children_of
  number_in = Trees.number_in (per_tree g) g.huge k+

  -- an amount at child c of tree t, summed over the children of tree y
  pub sum_tree : (t c d y : ℕ) → c < children_of g t → sum_to (children_of g y) (λ i. at (t * per_tree g + c) d (y * per_tree g + i)) ≡ at t d y
  sum_tree t c d y h = elim (placed t d y) [
    | here e q ↦ rw (← e) (sum_single (children_of g t) c (λ i. at (t * per_tree g + c) d (t * per_tree g + i)) h (λ i l m. at_other _ d _ (λ o. m (omega arith))) ∙ at_same _ d ∙ sym (at_same t d))
    | elsewhere e q ↦ sum_zero (children_of g y) _ (λ i l. at_other _ d _ (λ o. e (sym (tree_of_child t c h) ∙ ap (λ x. x / per_tree g) o ∙ tree_of_child y i l))) ∙ sym q
  ]
