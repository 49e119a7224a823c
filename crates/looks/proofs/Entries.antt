-- One entry looked at is the entry that the rules look at, where the table has it.
use mathlib.Core.Path.{◌≡◌, refl, ap, ap₂, ◌∙◌}
use mathlib.Core.Bool.{Bool, true, false}
use mathlib.Core.List.{List, []}
use Prim.Native.Nat.{ℕ, ◌+◌, ◌*◌, ◌/◌, ◌≤◌, ◌<◌}
use native.Mathlib.Omega.{arith}
use lib.Dec.{eqb}
use lib.ListN.{length, get_or}
use borrow.Author.Tests.{lt-ltb, le-leb}
use Rattle.std.specs.Prelude.{Option, Some, None, Result, Ok, is_ok, ok_or}
use Rattle.std.specs.Result.{result_unwrap_or}
use Rattle.laws.specs.Tests.{pick}
use Rattle.laws.proofs.Tests.{pick_yes}
use Rattle.laws.proofs.Sum.{sum_ext}
use Rattle.rules.specs.Numbers.{child_words, per_tree, trees_of, children_of}
use Rattle.rules.specs.Entries.{tree_says, cpu_says}
use Rattle.rules.specs.Lower.{child_says, by_child, well_formed, is_flagged, count_in, zero_bits, empty_field}
use Rattle.rules.specs.Zone.{tree_entry_at, cpu_entry_at}
use Rattle.rules.specs.Plan.{by_cpu, by_tree}
use Rattle.rules.specs.Open.{tree_count, cpu_count, child_count, tree_settled}
use Rattle.lower.specs.Steps as Lower
use Rattle.entries.specs.Steps.{look_tree_in}
use Rattle.cpu_entries.specs.Steps.{look_cpu_in}
use Rattle.entries.specs.Sizes as Sizes
use Rattle.places.specs.Shapes.{shape_of}
use Rattle.places.proofs.Ranges.{trees_same}
use Rattle.calls.specs.Results.{zone}
use Rattle.looks.specs.Types.{Tree, ChildEntry, TreeEntry, CpuEntry, Fault, Shape}
use Rattle.looks.specs.Entries.{formed_in, empty_in, flag_as, flag_in, settled_as, settled_in, tree_formed_in, cpu_formed_in, tree_count_as, tree_count_in, cpu_count_as, cpu_count_in, child_count_in, tree_settled_in}

-- ---- a child

module _ (cs : List ℕ) (i : ℕ) (h : i < length cs) where
  look_there : Lower.look_in cs i ≡ ok_or (child_says (get_or cs i 0)) Fault.Damaged
  unfolding Lower.look_in
  look_there = pick_yes _ _ _ (lt-ltb i (length cs) h)

  pub formed_same : formed_in cs i ≡ well_formed (get_or cs i 0)
  unfolding well_formed by_child
  formed_same = ap is_ok look_there ∙ go (child_says (get_or cs i 0))
    where
      go : (e : Option ChildEntry) → is_ok (ok_or e Fault.Damaged) ≡ by_child e false (λ k. true) true
      go None = refl
      go (Some (ChildEntry.Counts k)) = refl
      go (Some ChildEntry.Flagged) = refl

  module _ (ws : List ℕ) (k : length cs ≤ length ws / child_words) where
    empty_same : empty_in ws i ≡ empty_field ws i
    unfolding Lower.empty_in
    empty_same = ap (λ (r : Result Bool Fault). result_unwrap_or r false) (pick_yes _ _ _ (lt-ltb i (length ws / child_words) (omega arith)))

    pub flag_same : flag_in cs ws i ≡ pick (is_flagged (get_or cs i 0)) (empty_field ws i) true
    unfolding is_flagged by_child pick
    flag_same = ap₂ flag_as empty_same look_there ∙ go (child_says (get_or cs i 0))
      where
        go : (e : Option ChildEntry) → flag_as (empty_field ws i) (ok_or e Fault.Damaged) ≡ pick (by_child e false (λ k. false) true) (empty_field ws i) true
        go None = refl
        go (Some (ChildEntry.Counts k)) = refl
        go (Some ChildEntry.Flagged) = refl

    zeros_there : Lower.zeros_in ws i ≡ Ok (zero_bits ws i)
    unfolding Lower.zeros_in
    zeros_there = pick_yes _ _ _ (lt-ltb i (length ws / child_words) (omega arith))

    pub settled_same : settled_in cs ws i ≡ pick (is_flagged (get_or cs i 0)) true (eqb (count_in (get_or cs i 0)) (zero_bits ws i))
    unfolding is_flagged count_in by_child pick
    settled_same = ap₂ settled_as zeros_there look_there ∙ go (child_says (get_or cs i 0))
      where
        go : (e : Option ChildEntry) → settled_as (Ok (zero_bits ws i)) (ok_or e Fault.Damaged) ≡ pick (by_child e false (λ k. false) true) true (eqb (by_child e 0 (λ k. k) 0) (zero_bits ws i))
        go None = refl
        go (Some (ChildEntry.Counts k)) = refl
        go (Some ChildEntry.Flagged) = refl

-- ---- a tree's entry and a CPU's

-- the code's number of trees
pub all_trees : (s : Shape) {n : ℕ} → n ≡ trees_of (Sizes.shape_of s.size) → n ≡ trees_of (shape_of s)
all_trees s e = e ∙ trees_same s

module _ (s : Shape) where
  module _ (t : Tree) (ts : List ℕ) (h : t.0 < length ts) where
    tree_there : look_tree_in s.size t ts ≡ ok_or (tree_entry_at (shape_of s) (zone [] [] [] ts []) t) Fault.Damaged
    unfolding look_tree_in tree_says children_of
    tree_there = pick_yes _ _ _ (lt-ltb t.0 (length ts) h)

    pub tree_formed_same : tree_formed_in s t ts ≡ by_tree (tree_entry_at (shape_of s) (zone [] [] [] ts []) t) false (λ r k. true)
    unfolding by_tree
    tree_formed_same = ap is_ok tree_there ∙ go (tree_entry_at (shape_of s) (zone [] [] [] ts []) t)
      where
        go : (e : Option TreeEntry) → is_ok (ok_or e Fault.Damaged) ≡ by_tree e false (λ r k. true)
        go None = refl
        go (Some e) = refl

    tree_count_same : tree_count_in s t ts ≡ tree_count (shape_of s) (zone [] [] [] ts []) t
    unfolding tree_count by_tree
    tree_count_same = ap tree_count_as tree_there ∙ go (tree_entry_at (shape_of s) (zone [] [] [] ts []) t)
      where
        go : (e : Option TreeEntry) → tree_count_as (ok_or e Fault.Damaged) ≡ by_tree e 0 (λ r k. k)
        go None = refl
        go (Some e) = refl

  module _ (j : ℕ) (ps : List ℕ) (h : j < length ps) where
    cpu_there : look_cpu_in s.size j ps ≡ ok_or (cpu_entry_at (shape_of s) (zone [] [] [] [] ps) j) Fault.Damaged
    unfolding look_cpu_in cpu_says trees_of children_of
    cpu_there = pick_yes _ _ _ (lt-ltb j (length ps) h)

    pub cpu_formed_same : cpu_formed_in s j ps ≡ by_cpu (cpu_entry_at (shape_of s) (zone [] [] [] [] ps) j) false true (λ t b k. true)
    unfolding by_cpu
    cpu_formed_same = ap is_ok cpu_there ∙ go (cpu_entry_at (shape_of s) (zone [] [] [] [] ps) j)
      where
        go : (e : Option CpuEntry) → is_ok (ok_or e Fault.Damaged) ≡ by_cpu e false true (λ t b k. true)
        go None = refl
        go (Some CpuEntry.Absent) = refl
        go (Some (CpuEntry.Holds t b k)) = refl

    cpu_count_same : (t : Tree) → cpu_count_in s t j ps ≡ cpu_count (shape_of s) (zone [] [] [] [] ps) t j
    unfolding cpu_count by_cpu
    cpu_count_same t = ap (cpu_count_as t) cpu_there ∙ go (cpu_entry_at (shape_of s) (zone [] [] [] [] ps) j)
      where
        go : (e : Option CpuEntry) → cpu_count_as t (ok_or e Fault.Damaged) ≡ by_cpu e 0 0 (λ u b k. pick (eqb u.0 t.0) k 0)
        go None = refl
        go (Some CpuEntry.Absent) = refl
        go (Some (CpuEntry.Holds u b k)) = refl

  -- a tree's part ends in the zone
  pub part_ends : (t : ℕ) → t < trees_of (shape_of s) → t * per_tree (shape_of s) + children_of (shape_of s) t ≤ (shape_of s).huge
  unfolding trees_of children_of
  part_ends t h = omega arith

  pub tree_settled_same : (t : Tree) (cs ts ps : List ℕ) → t.0 < trees_of (shape_of s) → (shape_of s).huge ≤ length cs → trees_of (shape_of s) ≤ length ts → s.cpus ≤ length ps
      → tree_settled_in s t cs ts ps ≡ tree_settled (shape_of s) (zone [] [] cs ts ps) t
  unfolding tree_settled tree_count cpu_count child_count child_count_in
  tree_settled_same t cs ts ps h c k p =
      ap₂ eqb
      (ap₂ ◌+◌ (tree_count_same t ts (omega arith)) (sum_ext s.cpus _ _ (λ j l. cpu_count_same j ps (omega arith) t)))
      (pick_yes _ _ _ (le-leb _ (length cs) (omega (arith, part_ends t.0 h))))
