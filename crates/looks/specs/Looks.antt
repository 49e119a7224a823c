-- What the looks at whole tables answer.
use Rattle.std.specs.Prelude.{Bool, true, false, List, [], ℕ, ◌+◌, ◌*◌, ◌/◌, eqb, leb, length, get_or}
use Rattle.laws.specs.Tests.{pick, every}
use Rattle.rules.specs.Numbers.{child_words, per_tree, trees_of, children_of}
use Rattle.rules.specs.Conversions.{tree}
use Rattle.rules.specs.Lower.{well_formed, is_flagged, count_in, zero_bits, empty_field}
use Rattle.rules.specs.Open.{opening_sound, trees_formed, cpus_formed, tree_settled}
use Rattle.places.specs.Shapes.{shape_of}
use Rattle.calls.specs.Results.{zone}
use Rattle.looks.specs.Types.{Tree, Opening, Shape}

-- no malformed child
unfoldable pub children_formed_in : List ℕ → Bool
children_formed_in cs = every (length cs) (λ i. well_formed (get_or cs i 0))

-- where the words have every child's field
abbrev fielded : List ℕ → List ℕ → Bool → Bool
fielded cs ws b = pick (leb (length cs) (length ws / child_words)) b false

-- no child with a set over a field that isn't all zero
unfoldable pub flags_empty_in : List ℕ → List ℕ → Bool
flags_empty_in cs ws = fielded cs ws (every (length cs) (λ i. pick (is_flagged (get_or cs i 0)) (empty_field ws i) true))

-- every child with a clear counts its zero bits
unfoldable pub children_settled_in : List ℕ → List ℕ → Bool
children_settled_in cs ws = fielded cs ws (every (length cs) (λ i. pick (is_flagged (get_or cs i 0)) true (eqb (count_in (get_or cs i 0)) (zero_bits ws i))))

module _ (s : Shape) where
  unfoldable pub trees_formed_in : List ℕ → Bool
  trees_formed_in ts = pick (leb (trees_of (shape_of s)) (length ts)) (trees_formed (shape_of s) (zone [] [] [] ts [])) false

  unfoldable pub cpus_formed_in : List ℕ → Bool
  cpus_formed_in ps = pick (leb s.cpus (length ps)) (cpus_formed (shape_of s) (zone [] [] [] [] ps)) false

  -- a tree's part
  unfoldable pub part_formed_in : Tree → List ℕ → Bool
  part_formed_in t cs = pick (leb (t.0 * per_tree (shape_of s) + children_of (shape_of s) t.0) (length cs)) (opening_sound (shape_of s) (zone [] [] cs [] []) (Opening.Trees t)) false

  unfoldable pub trees_settled_in : List ℕ → List ℕ → List ℕ → Bool
  trees_settled_in cs ts ps =
      pick (leb (shape_of s).huge (length cs))
      (pick (leb (trees_of (shape_of s)) (length ts))
      (pick (leb s.cpus (length ps)) (every (trees_of (shape_of s)) (λ i. tree_settled (shape_of s) (zone [] [] cs ts ps) (tree i))) false)
      false)
      false
