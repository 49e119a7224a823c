-- The upper level's packed entries: what a header, a tree and a CPU entry say, and the words that say it.
use Rattle.std.specs.Prelude.{List, [], ◌∷◌, ℕ, suc, ◌+◌, ◌-◌, eqb, leb, get_or, Option, Some, None}
use Rattle.laws.specs.Tests.{pick, Check, ◌below◌, ◌is◌, passes}
use Rattle.laws.specs.Fields.{split, join}
use Rattle.rules.specs.Numbers.{most_huge, Format, Shape, trees_of, children_of, capacity}
use Rattle.rules.specs.Conversions.{tree}
use Rattle.rules.specs.Types.{Tree, Header, TreeEntry, CpuEntry}

-- field i of a packed word, counted from the most significant
unfoldable pub field : List ℕ → ℕ → ℕ → ℕ
field layout i x = get_or (split layout x) i 0

-- ---- header: identifier 0x4C46 (16), format 1 (4), marker 1 running or 2 clean (2), n (17), zero (25)
abbrev pub header_layout : List ℕ
header_layout = 16 ∷ 4 ∷ 2 ∷ 17 ∷ 25 ∷ []

abbrev pub identifier : ℕ
identifier = 0x4C46

abbrev pub running : ℕ
running = 1

abbrev pub clean : ℕ
clean = 2

-- all but the marker
abbrev pub header_checks : ℕ → List Check
header_checks x = field header_layout 0 x is identifier ∷ field header_layout 1 x is 1 ∷ 0 below field header_layout 3 x ∷ field header_layout 3 x below suc most_huge ∷ field header_layout 4 x is 0 ∷ []

abbrev pub marker_of : ℕ → ℕ
marker_of x = field header_layout 2 x

unfoldable pub header_says : ℕ → Option Header
header_says x =
    pick (passes (header_checks x))
    (pick (eqb (marker_of x) running)
    (Some (Header.Running (field header_layout 3 x)))
    (pick (eqb (marker_of x) clean) (Some (Header.Clean (field header_layout 3 x))) None))
    None

unfoldable pub header_word : ℕ → ℕ → ℕ
header_word marker n = join header_layout (identifier ∷ 1 ∷ marker ∷ n ∷ 0 ∷ [])

-- ---- tree: reserved r (1), count 0..capacity (15) (D20)
abbrev pub tree_layout : List ℕ
tree_layout = 1 ∷ 15 ∷ []

abbrev pub tallied : ℕ → ℕ → TreeEntry
tallied r k = record { reserved = r; count = k }

unfoldable pub tree_says : Shape → Tree → ℕ → Option TreeEntry
tree_says g t x = pick (leb (field tree_layout 1 x) (capacity g t.0)) (Some (tallied (field tree_layout 0 x) (field tree_layout 1 x))) None

unfoldable pub tree_word : ℕ → ℕ → ℕ
tree_word r k = join tree_layout (r ∷ k ∷ [])

-- ---- CPU: present (1), tree (11), start child (5), count 0..capacity (15), zero (32); an absent entry is the zero word (D19)
abbrev pub cpu_layout : Format → List ℕ
cpu_layout m = 1 ∷ m.tree_bits ∷ m.start_bits ∷ m.count_bits ∷ (63 - (m.tree_bits + m.start_bits + m.count_bits)) ∷ []

-- a tree that exists, a start child that it has, a count that it can hold
abbrev pub holds_checks : Shape → Tree → ℕ → ℕ → List Check
holds_checks g t s k = t.0 below trees_of g ∷ s below children_of g t.0 ∷ k below suc (capacity g t.0) ∷ []

unfoldable pub cpu_says : Shape → ℕ → Option CpuEntry
cpu_says g x =
    let f : ℕ → ℕ = λ i. field (cpu_layout g.format) i x in
    pick (eqb x 0)
    (Some CpuEntry.Absent)
    (pick (passes (f 0 is 1 ∷ f 4 is 0 ∷ holds_checks g (tree (f 1)) (f 2) (f 3)))
    (Some (CpuEntry.Holds (tree (f 1)) (f 2) (f 3)))
    None)

unfoldable pub cpu_word : Format → CpuEntry → ℕ
cpu_word m CpuEntry.Absent = 0
cpu_word m (CpuEntry.Holds t s k) = join (cpu_layout m) (1 ∷ t.0 ∷ s ∷ k ∷ 0 ∷ [])

-- the two ways in which an entry becomes absent: its CPU releases it, or another steals it
abbrev pub released : CpuEntry
released = CpuEntry.Absent

abbrev pub stolen : CpuEntry
stolen = CpuEntry.Absent
