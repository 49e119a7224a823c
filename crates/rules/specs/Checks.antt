-- The checks that calls share, as refusals in document 01's order: 9, 10, 8; and 8 for the header slice's length before a 9.
use Rattle.std.specs.Prelude.{Bool, true, false, not, List, [], ◌∷◌, suc, ◌*◌, length, Option, Some, None}
use Rattle.laws.specs.Tests.{Check, ◌below◌, ◌is◌, passes}
use Rattle.rules.specs.Numbers.{child_words, most_cpus, Shape, trees_of}
use Rattle.rules.specs.Zone.{Zone, header_of, shape_of}
use Rattle.rules.specs.Plan.{Refusal, on}
use Rattle.rules.specs.Types.{Header, Answer}

abbrev pub unless : List Check → Answer → Refusal
unless l a = on (not (passes l)) a

unfoldable pub is_malformed : Option Header → Bool
is_malformed None = true
is_malformed (Some (Header.Running n)) = false
is_malformed (Some (Header.Clean n)) = false

unfoldable pub is_clean : Option Header → Bool
is_clean None = false
is_clean (Some (Header.Running n)) = false
is_clean (Some (Header.Clean n)) = true

unfoldable pub is_running : Option Header → Bool
is_running None = false
is_running (Some (Header.Running n)) = true
is_running (Some (Header.Clean n)) = false

abbrev pub header_checks : Zone → List Check
header_checks z = length z.header is 1 ∷ []

-- the lengths that a shape asks for (D30)
abbrev pub length_checks : Shape → Zone → List Check
length_checks g z = length z.words is child_words * g.huge ∷ length z.children is g.huge ∷ length z.trees is trees_of g ∷ 0 below g.cpus ∷ g.cpus below suc most_cpus ∷ []

abbrev pub no_header : Zone → Refusal
no_header z = unless (header_checks z) Answer.BadBuffers

abbrev pub not_a_zone : Zone → Refusal
not_a_zone z = on (is_malformed (header_of z)) Answer.NotAZone

abbrev pub closed : Zone → Refusal
closed z = on (is_clean (header_of z)) Answer.Closed

abbrev pub bad_buffers : Shape → Zone → Refusal
bad_buffers g z = unless (length_checks g z) Answer.BadBuffers

-- what every call on an open zone refuses first
abbrev pub not_open : Zone → List Refusal
not_open z = no_header z ∷ not_a_zone z ∷ closed z ∷ bad_buffers (shape_of z) z ∷ []
