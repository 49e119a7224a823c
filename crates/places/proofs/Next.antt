-- Where a block lies, and the next place of a get, from what the code has tested.
use mathlib.Core.Path.{◌≡◌, refl, sym, ap, ◌∙◌}
use mathlib.Core.Bool.{Bool, true, false}
use Prim.Native.Nat.{ℕ, suc, ◌+◌, ◌*◌, ◌/◌, ◌≤◌, ◌<◌}
use native.Mathlib.Numerals.{add-one}
use native.Mathlib.Omega.{arith}
use lib.Dec.{ltb}
use borrow.Author.Tests.{lt-ltb, le-ltb, eq-eqb, ne_eqb}
use Rattle.std.specs.Prelude.{Option, Some, None, MatchOption}
use Rattle.laws.specs.Tests.{pick, Passes}
use Rattle.laws.proofs.Tests.{pick_yes, pick_no, both_and}
use Rattle.rules.specs.Numbers.{trees_of, Shape as Rules}
use Rattle.rules.specs.Conversions.{tree}
use Rattle.rules.specs.Blocks.{huge_of_block}
use Rattle.rules.specs.Ranges.{block_in}
use Rattle.rules.specs.Places.{skip, near_from, steal_from, try_at, after_pass, after_steal, after_place}
use Rattle.entries.specs.Sizes as Sizes
use Rattle.places.specs.Types.{Tree, Order, Block, Pass, Place, Taking, Shape}
use Rattle.places.specs.Shapes.{shape_of, tree_after_in}
use Rattle.places.proofs.Ranges.{trees_same}

pub same_trees : {n : ℕ} (s : Shape) → n ≡ trees_of (Sizes.shape_of s.size) → n ≡ trees_of (shape_of s)
same_trees s e = e ∙ trees_same s

-- a block of the zone lies in a huge frame of the zone
pub huge_in_lem : (s : Shape) (b : Block) → Passes (block_in (shape_of s) b) → (huge_of_block b).0 ≤ s.size.0
huge_in_lem s (Block.Run v f) h = omega (arith, h.0)
huge_in_lem s (Block.Whole u) h = omega (arith, h.0)

-- the own CPU, here 0, matters only to a steal
module _ (g : Rules) (o : Order) where
  -- near: a tree of the base's block, one past the zone's last, and one outside the block
  pub near_taken : (i : ℕ) (b : Tree) {n : ℕ} → n ≡ trees_of g → i < n → i / 32 ≡ b.0 / 32 → Taking.Try o (Pass.Near (tree i) b) ≡ near_from g 0 o i b
  near_taken i b e l q = sym (pick_yes _ _ _ (both_and _ _ (lt-ltb _ _ (rw e at l)) (eq-eqb _ _ q)))

  pub near_past : (i : ℕ) (b : Tree) {n : ℕ} → n ≡ trees_of g → n ≤ i → Taking.Try o (Pass.Partial (tree 0)) ≡ near_from g 0 o i b
  near_past i b e l = sym (pick_no _ _ _ (rw (le-ltb i (trees_of g) (rw e at l))))

  pub near_away : (i : ℕ) (b : Tree) {n : ℕ} → n ≡ trees_of g → i < n → (i / 32 ≡ b.0 / 32 → ⊥) → Taking.Try o (Pass.Partial (tree 0)) ≡ near_from g 0 o i b
  near_away i b e l q = sym (pick_no _ _ _ (rw (lt-ltb i (trees_of g) (rw e at l), ne_eqb (i / 32) (b.0 / 32) q)))

module _ (g : Rules) (t : Tree) {n : ℕ} (e : n ≡ trees_of g) where
  pub tree_next : t.0 + 1 < n → Some (tree (t.0 + 1)) ≡ tree_after_in g t
  unfolding tree_after_in
  tree_next l = rw add-one (sym (pick_yes _ _ _ (lt-ltb _ _ (rw (e, add-one) at l))))

  pub tree_last : n ≤ t.0 + 1 → None ≡ tree_after_in g t
  unfolding tree_after_in
  tree_last l = sym (pick_no _ _ _ (le-ltb _ _ (rw (e, add-one) at l)))

-- a pass over all trees: the tree after t, or what follows the pass
module _ (g : Rules) (o : Order) (k : Tree → Pass) (t : Tree) {x : Option Tree} (e : x ≡ tree_after_in g t) where
  pub try_next : (after : Taking) {y : Tree} → x ≡ Some y → Taking.Try o (k y) ≡ try_at g 0 o k (suc t.0) after
  unfolding tree_after_in pick
  try_next after {y} q = go (ltb (suc t.0) (trees_of g)) (sym e ∙ q)
    where
      go : (b : Bool) → pick b (Some (tree (suc t.0))) None ≡ Some y → Taking.Try o (k y) ≡ pick b (Taking.Try o (k (tree (suc t.0)))) after
      go true p = cc
      go false p = cc

  pub try_last : (after : Taking) → x ≡ None → after ≡ try_at g 0 o k (suc t.0) after
  unfolding tree_after_in pick
  try_last after q = go (ltb (suc t.0) (trees_of g)) (sym e ∙ q)
    where
      go : (b : Bool) → pick b (Some (tree (suc t.0))) None ≡ None → after ≡ pick b (Taking.Try o (k (tree (suc t.0)))) after
      go true p = cc
      go false p = refl

  pub try_either : (d : Pass) {r : Pass} → MatchOption x (r ≡ d) (λ y. r ≡ k y) → Taking.Try o r ≡ try_at g 0 o k (suc t.0) (Taking.Try o d)
  try_either d {r} h = go x refl h
    where
      go : (y : Option Tree) → x ≡ y → MatchOption y (r ≡ d) (λ y. r ≡ k y) → Taking.Try o r ≡ try_at g 0 o k (suc t.0) (Taking.Try o d)
      go None q p = ap (Taking.Try o) p ∙ try_last _ q
      go (Some y) q p = ap (Taking.Try o) p ∙ try_next _ q

module _ (g : Rules) (cpu : ℕ) (o : Order) where
  -- the first of the near pass, and the next one
  pub near_first : (t : Tree) {i : ℕ} → i ≡ skip t.0 (t.0 / 32 * 32) → near_from g cpu o i t ≡ after_place g cpu o (Place.Own t)
  unfolding after_place
  near_first t e = ap (λ i. near_from g cpu o i t) e

  pub near_next : (t b : Tree) {i : ℕ} → i ≡ skip b.0 (t.0 + 1) → near_from g cpu o i b ≡ after_pass g cpu o (Pass.Near t b)
  unfolding after_pass
  near_next t b e = ap (λ i. near_from g cpu o i b) (e ∙ ap (skip b.0) (add-one _))

  -- the next CPU to steal from
  pub steal_next : (from : ℕ) {j : ℕ} → j ≡ skip cpu (from + 1) → steal_from g cpu o j ≡ after_steal g cpu o from
  unfolding after_steal
  steal_next from e = ap (steal_from g cpu o) (e ∙ ap (skip cpu) (add-one _))
