-- Packed entries: split after join gives the fields, join after split the word; what is stored is read again; and what "breaks its layout" means.
use Rattle.std.specs.Prelude.{◌≡◌, ◌⊎◌, ◌↔◌, List, ℕ, ◌+◌, ◌*◌, ◌^◌, ◌≤◌, ◌<◌, Some, None}
use Rattle.laws.specs.Tests.{Passes}
use Rattle.laws.specs.Fields.{width, split, join, Fit}
use Rattle.rules.specs.Types.{Tree, Header, ChildEntry, TreeEntry, CpuEntry}
use Rattle.rules.specs.Numbers.{child_frames, most_huge, Format, format1, Shape, capacity}
use Rattle.rules.specs.Conversions.{tree}
use Rattle.rules.specs.Entries.{field, header_layout, running, clean, header_says, header_word, tree_layout, tree_says, tree_word, cpu_layout, holds_checks, cpu_says, cpu_word, tallied}
use Rattle.rules.specs.Lower.{child_layout, child_says, count_word, flagged_word}

-- ---- what a format's widths must hold
pub record Sound (m : Format) : Type 0 where
  pub some : 0 < m.children
  pub starts : m.children ≤ 2 ^ m.start_bits
  pub counts : child_frames * m.children < 2 ^ m.count_bits
  pub trees : most_huge ≤ m.children * 2 ^ m.tree_bits
  pub entry : m.tree_bits + m.start_bits + m.count_bits ≤ 63
  pub tree : child_frames * m.children < 2 ^ 15

-- ---- the round trips of a layout of so many bits
pub record Trips (layout : List ℕ) (bits : ℕ) : Type 0 where
  pub wide : width layout ≡ bits
  pub word : (x : ℕ) → x < 2 ^ bits → join layout (split layout x) ≡ x
  pub fields : (vs : List ℕ) → Fit layout vs → split layout (join layout vs) ≡ vs

-- ---- layouts: document 01's table, and 12's rule
abbrev pub ChildLaidOut : ℕ → Type 0
ChildLaidOut x = (field child_layout 1 x ≡ 0) × (((field child_layout 0 x ≡ 0) × (field child_layout 2 x ≤ child_frames)) ⊎ ((field child_layout 0 x ≡ 1) × (field child_layout 2 x ≡ 0)))

abbrev pub TreeLaidOut : Shape → Tree → ℕ → Type 0
TreeLaidOut g t x = field tree_layout 1 x ≤ capacity g t.0

-- the zero word; or present, zero bits clear, a tree that exists with that start child, a count that it can hold
abbrev pub CpuLaidOut : Shape → ℕ → Type 0
CpuLaidOut g x =
    let f : ℕ → ℕ = λ i. field (cpu_layout g.format) i x in
    (x ≡ 0) ⊎ ((f 0 ≡ 1) × (f 4 ≡ 0) × Passes (holds_checks g (tree (f 1)) (f 2) (f 3)))

pub record Layouts : Type 0 where
  pub format : Sound format1
  pub header : Trips header_layout 64
  pub child : Trips child_layout 16
  pub tree : Trips tree_layout 16
  pub cpu : Trips (cpu_layout format1) 64
  -- what is stored is read again
  pub running : (n : ℕ) → 0 < n → n ≤ most_huge → header_says (header_word running n) ≡ Some (Header.Running n)
  pub clean : (n : ℕ) → 0 < n → n ≤ most_huge → header_says (header_word clean n) ≡ Some (Header.Clean n)
  pub counts : (k : ℕ) → k ≤ child_frames → child_says (count_word k) ≡ Some (ChildEntry.Counts k)
  pub flagged : child_says flagged_word ≡ Some ChildEntry.Flagged
  pub tallies : (g : Shape) (t : Tree) (r k : ℕ) → Sound g.format → r < 2 → k ≤ capacity g t.0 → tree_says g t (tree_word r k) ≡ Some (tallied r k)
  pub holds : (g : Shape) (t : Tree) (s k : ℕ) → Sound g.format → g.huge ≤ most_huge → Passes (holds_checks g t s k) → cpu_says g (cpu_word g.format (CpuEntry.Holds t s k)) ≡ Some (CpuEntry.Holds t s k)
  pub absent : (g : Shape) → cpu_says g (cpu_word g.format CpuEntry.Absent) ≡ Some CpuEntry.Absent
  -- damaged exactly where the layout is broken
  pub bad_child : (x : ℕ) → child_says x ≡ None ↔ (ChildLaidOut x → ⊥)
  pub bad_tree : (g : Shape) (t : Tree) (x : ℕ) → tree_says g t x ≡ None ↔ (TreeLaidOut g t x → ⊥)
  pub bad_cpu : (g : Shape) (x : ℕ) → cpu_says g x ≡ None ↔ (CpuLaidOut g x → ⊥)
