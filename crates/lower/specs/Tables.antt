-- A step on one entry of a table: what it says, and the table afterwards.
use Rattle.std.specs.Prelude.{List, ℕ, ltb, length, get_or, set}
use Rattle.laws.specs.Tests.{pick}
use Rattle.laws.specs.Tables.{Outcome, outcome, wrapped}
use Rattle.rules.specs.Lower.{Change, keep, become, Lowered}

-- entry i as it was, or another
unfoldable pub turned : List ℕ → ℕ → Change ℕ → List ℕ
turned l i keep = l
turned l i (become v) = set l i v

-- the step f on entry i
unfoldable pub step_at : {A : Type 0} → (ℕ → Lowered A) → List ℕ → ℕ → Outcome A
step_at f l i = outcome (f (get_or l i 0)).said (turned l i (f (get_or l i 0)).change)

-- the step f on entry i, if the table has one; if not, nothing is stored
unfoldable pub step_in : {A B : Type 0} → (A → B) → B → (ℕ → Lowered A) → List ℕ → ℕ → Outcome B
step_in say none f l i = pick (ltb i (length l)) (wrapped say (step_at f l i)) (outcome none l)
