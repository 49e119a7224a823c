-- A part of a table, lent and back; and what is made of one entry of a part.
use Rattle.std.specs.Prelude.{List, ℕ, ◌+◌, leb, ltb, length, get_or, set}
use Rattle.laws.specs.Tests.{pick}
use Rattle.laws.specs.Parts.{part, replaced}
use Rattle.laws.specs.Tables.{Outcome, outcome}
use Rattle.rules.specs.Plan.{Made, by_change}
use Rattle.lending.specs.Types.{Answer}

-- the k entries from a on, lent to f; where the table has them not, nothing is stored
unfoldable pub lent : {A : Type 0} → A → ℕ → ℕ → (List ℕ → Outcome A) → List ℕ → Outcome A
lent none a k f l = pick (leb (a + k) (length l)) (outcome (f (part a k l)).said (replaced a k l (f (part a k l)).table)) (outcome none l)

-- entry i of a table, by what is made of it
unfoldable pub made_at : ℕ → (ℕ → Made ℕ) → List ℕ → Outcome Answer
made_at i f l = by_change (f (get_or l i 0)).change (outcome (f (get_or l i 0)).answer l) (λ v. outcome (f (get_or l i 0)).answer (set l i v))

-- entry i of the k from a on; one that the table or the part has not answers 11
unfoldable pub made_in : ℕ → ℕ → ℕ → (ℕ → Made ℕ) → List ℕ → Outcome Answer
made_in a k i f l = pick (leb (a + k) (length l)) (pick (ltb i k) (made_at (a + i) f l) (outcome Answer.BadRecord l)) (outcome Answer.BadRecord l)
