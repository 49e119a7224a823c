-- A step on a block's entry, by where the block lies.
use mathlib.Core.Path.{◌≡◌, refl}
use mathlib.Core.Bool.{Bool, true, false}
use mathlib.Core.List.{List}
use Rattle.std.specs.Prelude.{Option, Some, None}
use Prim.Native.Nat.{ℕ}
use Rattle.laws.specs.Tests.{pick, passes}
use Rattle.laws.specs.Tables.{Outcome, outcome}
use Rattle.laws.proofs.Tests.{true_false}
use Rattle.rules.specs.Numbers.{Shape as Rules}
use Rattle.rules.specs.Blocks.{tree_of_block, child_of_block}
use Rattle.rules.specs.Ranges.{block_in}
use Rattle.places.specs.Types.{Block, Answer, BlockAt}
use Rattle.places.specs.Shapes.{block_at_in, ranged}

module _ (g : Rules) (b : Block) (f : List ℕ → Outcome Answer) (l : List ℕ) {r : Option BlockAt} (e : r ≡ block_at_in g b) where
  abbrev there : Bool → Option BlockAt
  there z = pick z (Some (record { tree = tree_of_block g b; child = child_of_block g b })) None

  pub block_out : r ≡ None → outcome Answer.BadRecord l ≡ ranged g b f l
  unfolding ranged block_at_in pick
  block_out p = go (passes (block_in g b)) e
    where
      go : (z : Bool) → r ≡ there z → outcome Answer.BadRecord l ≡ pick z (f l) (outcome Answer.BadRecord l)
      go true q = true_false (cc)
      go false q = refl

  pub block_in_lem : {a : BlockAt} {o : Outcome Answer} → r ≡ Some a → (a.tree ≡ tree_of_block g b → a.child ≡ child_of_block g b → o ≡ f l) → o ≡ ranged g b f l
  unfolding ranged block_at_in pick
  block_in_lem {a} {o} p h = go (passes (block_in g b)) e
    where
      go : (z : Bool) → r ≡ there z → o ≡ pick z (f l) (outcome Answer.BadRecord l)
      go true q = h (cc) (cc)
      go false q = true_false (cc)
