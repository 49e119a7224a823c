-- A zone's size as the code holds it, and what follows from it; the header; the lengths of the tables.
use Rattle.std.specs.Prelude.{List, [], ◌∷◌, ℕ, suc, ◌-◌, ◌*◌, eqb, length, get_or, Option, Some, None, Result, Ok, Err}
use Rattle.laws.specs.Tests.{pick, Check, ◌below◌, ◌is◌}
use Rattle.rules.specs.Numbers.{child_words, most_cpus, format1, Shape, trees_of}
use Rattle.rules.specs.Entries.{header_says}
use Rattle.entries.specs.Types.{Header, Answer, Size, Zoned}

-- the zone's huge frames, and its shape; entries do not hang on the CPU table's length
abbrev pub huge_of : Size → ℕ
huge_of m = suc m.0

abbrev pub shape_of : Size → Shape
shape_of m = record { format = format1; huge = huge_of m; cpus = 0 }

abbrev pub sized : ℕ → Size
sized n = record { 0 = n - 1 }

unfoldable pub by_header : {A : Type 0} → Option Header → A → (ℕ → A) → (ℕ → A) → A
by_header None m r c = m
by_header (Some (Header.Running n)) m r c = r n
by_header (Some (Header.Clean n)) m r c = c n

-- no header 8, and one that is not a zone's 9
unfoldable pub zoned_in : List ℕ → Result Zoned Answer
zoned_in l =
    pick (eqb (length l) 1)
    (by_header (header_says (get_or l 0 0)) (Err Answer.NotAZone) (λ n. Ok (Zoned.Running (sized n))) (λ n. Ok (Zoned.Clean (sized n))))
    (Err Answer.BadBuffers)

-- the lengths of words, children, trees and CPUs
abbrev pub lengths_of : Size → ℕ → ℕ → ℕ → ℕ → List Check
lengths_of m w c t p = w is child_words * huge_of m ∷ c is huge_of m ∷ t is trees_of (shape_of m) ∷ 0 below p ∷ p below suc most_cpus ∷ []
