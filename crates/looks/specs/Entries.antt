-- One entry looked at, by what its own crate says of it.
use Rattle.std.specs.Prelude.{Bool, true, false, List, [], ℕ, ◌+◌, ◌*◌, eqb, leb, length, Result, Ok, Err, is_ok}
use Rattle.std.specs.Result.{result_unwrap_or}
use Rattle.laws.specs.Tests.{pick}
use Rattle.laws.specs.Sum.{sum_to}
use Rattle.rules.specs.Numbers.{per_tree, children_of}
use Rattle.rules.specs.Open.{child_count}
use Rattle.lower.specs.Steps as Lower
use Rattle.entries.specs.Steps.{look_tree_in}
use Rattle.cpu_entries.specs.Steps.{look_cpu_in}
use Rattle.places.specs.Shapes.{shape_of}
use Rattle.calls.specs.Results.{zone}
use Rattle.looks.specs.Types.{Tree, ChildEntry, TreeEntry, CpuEntry, Fault, Shape}

-- ---- a child

abbrev pub formed_in : List ℕ → ℕ → Bool
formed_in cs c = is_ok (Lower.look_in cs c)

abbrev pub empty_in : List ℕ → ℕ → Bool
empty_in ws c = result_unwrap_or (Lower.empty_in ws c) false

-- where an entry cannot be told: x of a malformed one, y of one that the table lacks
abbrev pub by_fault : {A : Type 0} → Fault → A → A → A
by_fault Fault.Damaged x y = x
by_fault Fault.NotTaken x y = y
by_fault Fault.NoEntry x y = y
by_fault Fault.NoChild x y = y
by_fault Fault.NoWord x y = y
by_fault Fault.NoBit x y = y
by_fault Fault.NoField x y = y
by_fault Fault.TooMany x y = y

-- one with a set, by its field
abbrev pub flag_as : Bool → Result ChildEntry Fault → Bool
flag_as b (Ok (ChildEntry.Counts k)) = true
flag_as b (Ok ChildEntry.Flagged) = b
flag_as b (Err f) = by_fault f true false

abbrev pub flag_in : List ℕ → List ℕ → ℕ → Bool
flag_in cs ws c = flag_as (empty_in ws c) (Lower.look_in cs c)

abbrev pub counts_as : ℕ → Result ℕ Fault → Bool
counts_as k (Ok z) = eqb k z
counts_as k (Err f) = false

-- one with a clear, by its zero bits; a malformed one counts none
abbrev pub settled_as : Result ℕ Fault → Result ChildEntry Fault → Bool
settled_as z (Ok (ChildEntry.Counts k)) = counts_as k z
settled_as z (Ok ChildEntry.Flagged) = true
settled_as z (Err f) = by_fault f (counts_as 0 z) false

abbrev pub settled_in : List ℕ → List ℕ → ℕ → Bool
settled_in cs ws c = settled_as (Lower.zeros_in ws c) (Lower.look_in cs c)

-- ---- a tree's entry and a CPU's

abbrev pub tree_count_as : Result TreeEntry Fault → ℕ
tree_count_as (Ok e) = e.count
tree_count_as (Err f) = 0

-- what an entry counts of tree t
abbrev pub cpu_count_as : Tree → Result CpuEntry Fault → ℕ
cpu_count_as t (Ok CpuEntry.Absent) = 0
cpu_count_as t (Ok (CpuEntry.Holds u s k)) = pick (eqb u.0 t.0) k 0
cpu_count_as t (Err f) = 0

module _ (s : Shape) where
  abbrev pub tree_formed_in : Tree → List ℕ → Bool
  tree_formed_in t ts = is_ok (look_tree_in s.size t ts)

  abbrev pub cpu_formed_in : ℕ → List ℕ → Bool
  cpu_formed_in j ps = is_ok (look_cpu_in s.size j ps)

  -- ---- a tree's counts

  abbrev pub tree_count_in : Tree → List ℕ → ℕ
  tree_count_in t ts = tree_count_as (look_tree_in s.size t ts)

  abbrev pub cpu_count_in : Tree → ℕ → List ℕ → ℕ
  cpu_count_in t j ps = cpu_count_as t (look_cpu_in s.size j ps)

  abbrev pub held_in : Tree → List ℕ → ℕ
  held_in t ps = sum_to s.cpus (λ j. cpu_count_in t j ps)

  -- where the table has the tree's children
  unfoldable pub child_count_in : Tree → List ℕ → ℕ
  child_count_in t cs = pick (leb (t.0 * per_tree (shape_of s) + children_of (shape_of s) t.0) (length cs)) (child_count (shape_of s) (zone [] [] cs [] []) t) 0

  abbrev pub tree_settled_in : Tree → List ℕ → List ℕ → List ℕ → Bool
  tree_settled_in t cs ts ps = eqb (tree_count_in t ts + held_in t ps) (child_count_in t cs)
