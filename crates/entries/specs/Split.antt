-- The fields of a header and of a tree's entry, as the code splits them.
use Rattle.std.specs.Prelude.{ℕ}
use Rattle.rules.specs.Entries.{field, header_layout, tree_layout}
use Rattle.entries.specs.Types.{HeaderFields, TreeFields}

abbrev pub header_fields : ℕ → HeaderFields
header_fields x = record { identifier = field header_layout 0 x; format = field header_layout 1 x; marker = field header_layout 2 x; huge = field header_layout 3 x; zero = field header_layout 4 x }

abbrev pub tree_fields : ℕ → TreeFields
tree_fields x = record { reserved = field tree_layout 0 x; count = field tree_layout 1 x }
