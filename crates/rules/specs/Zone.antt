-- A zone's five tables, the entries that a step reads, and the one that it stores.
use Rattle.std.specs.Prelude.{List, ℕ, ◌*◌, length, get_or, set, Option, Some, None}
use Rattle.laws.specs.Parts.{part}
use Rattle.rules.specs.Numbers.{child_words, Format, format1, Shape, per_tree, children_of}
use Rattle.rules.specs.Entries.{header_says, tree_says, tree_word, cpu_says, cpu_word}
use Rattle.rules.specs.Types.{Tree, Header, TreeEntry, CpuEntry}

pub record Zone : Type 0 where
  pub header : List ℕ
  pub words : List ℕ
  pub children : List ℕ
  pub trees : List ℕ
  pub cpus : List ℕ

-- what the header says, and the zone's shape by it
unfoldable pub header_of : Zone → Option Header
header_of z = header_says (get_or z.header 0 0)

unfoldable pub header_huge : Option Header → ℕ
header_huge None = 0
header_huge (Some (Header.Running n)) = n
header_huge (Some (Header.Clean n)) = n

abbrev pub shaped : ℕ → Zone → Shape
shaped n z = record { format = format1; huge = n; cpus = length z.cpus }

abbrev pub shape_of : Zone → Shape
shape_of z = shaped (header_huge (header_of z)) z

-- a tree's children and their words, the middle of the zone's tables that is lent to the lower level
abbrev pub child_part : Shape → Zone → Tree → List ℕ
child_part g z t = part (t.0 * per_tree g) (children_of g t.0) z.children

abbrev pub word_part : Shape → Zone → Tree → List ℕ
word_part g z t = part (child_words * (t.0 * per_tree g)) (child_words * children_of g t.0) z.words

abbrev pub tree_entry_at : Shape → Zone → Tree → Option TreeEntry
tree_entry_at g z t = tree_says g t (get_or z.trees t.0 0)

abbrev pub cpu_entry_at : Shape → Zone → ℕ → Option CpuEntry
cpu_entry_at g z j = cpu_says g (get_or z.cpus j 0)

-- at most one entry; children and words are numbered in the zone's tables
pub data Store : Type 0 where
  nothing : Store
  header : (v : ℕ) → Store
  word : (i v : ℕ) → Store
  child : (i v : ℕ) → Store
  tree : (i r k : ℕ) → Store
  cpu : (j : ℕ) (e : CpuEntry) → Store

unfoldable pub stored : Format → Zone → Store → Zone
stored m z nothing = z
stored m z (header v) = record { header = set z.header 0 v; words = z.words; children = z.children; trees = z.trees; cpus = z.cpus }
stored m z (word i v) = record { header = z.header; words = set z.words i v; children = z.children; trees = z.trees; cpus = z.cpus }
stored m z (child i v) = record { header = z.header; words = z.words; children = set z.children i v; trees = z.trees; cpus = z.cpus }
stored m z (tree i r k) = record { header = z.header; words = z.words; children = z.children; trees = set z.trees i (tree_word r k); cpus = z.cpus }
stored m z (cpu j e) = record { header = z.header; words = z.words; children = z.children; trees = z.trees; cpus = set z.cpus j (cpu_word m e) }
