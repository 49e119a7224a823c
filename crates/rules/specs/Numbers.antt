-- The sizes of document 01, each named once; a zone's shape.
use Rattle.std.specs.Prelude.{ℕ, ◌+◌, ◌-◌, ◌*◌, ◌/◌, min}

-- frames a child (a huge frame), words a child, bits a word
abbrev pub child_frames : ℕ
child_frames = 512

abbrev pub child_words : ℕ
child_words = 8

abbrev pub word_bits : ℕ
word_bits = 64

-- the trees of an aligned block of the near pass
abbrev pub near_trees : ℕ
near_trees = 32

-- the most huge frames and CPUs of a zone
abbrev pub most_huge : ℕ
most_huge = 65536

abbrev pub most_cpus : ℕ
most_cpus = 64

-- what the header's format says: the children a tree has, and the widths of a CPU entry's tree, start child and count
pub record Format : Type 0 where
  pub children : ℕ
  pub tree_bits : ℕ
  pub start_bits : ℕ
  pub count_bits : ℕ

abbrev pub format1 : Format
format1 = record { children = 32; tree_bits = 11; start_bits = 5; count_bits = 15 }

-- a zone's format, its n huge frames, and the entries of its CPU table
pub record Shape : Type 0 where
  pub format : Format
  pub huge : ℕ
  pub cpus : ℕ

abbrev pub per_tree : Shape → ℕ
per_tree g = g.format.children

-- the trees of a zone, the children of tree t, and its capacity
unfoldable pub trees_of : Shape → ℕ
trees_of g = (g.huge + (per_tree g - 1)) / per_tree g

unfoldable pub children_of : Shape → ℕ → ℕ
children_of g t = min (per_tree g) (g.huge - t * per_tree g)

abbrev pub capacity : Shape → ℕ → ℕ
capacity g t = child_frames * children_of g t
