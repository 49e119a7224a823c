-- A step on one entry: what it says, and the table afterwards. An entry read, or one to be stored, that breaks its layout is damaged.
use Rattle.std.specs.Prelude.{List, ℕ, leb, ltb, length, get_or, set, Option, Result, Err, ok_or}
use Rattle.laws.specs.Tests.{pick}
use Rattle.laws.specs.Tables.{Outcome, outcome}
use Rattle.rules.specs.Numbers.{Shape, capacity}
use Rattle.rules.specs.Entries.{tree_says, tree_word}
use Rattle.rules.specs.Lower.{Change, keep, become}
use Rattle.rules.specs.Plan.{Made, Tally, by_change, by_tree}
use Rattle.entries.specs.Types.{Tree, Fault, Answer}

pub record Turn (E A : Type 0) : Type 0 where
  pub change : Change E
  pub said : A

-- nothing is stored; e is stored
abbrev pub looks : {E A : Type 0} → A → Turn E A
looks a = record { change = keep; said = a }

abbrev pub stores : {E A : Type 0} → E → A → Turn E A
stores e a = record { change = become e; said = a }

-- what a rule makes of an entry: its answer is said
abbrev pub turn : {E : Type 0} → Made E → Turn E Answer
turn m = record { change = m.change; said = m.answer }

module _ {A : Type 0} (g : Shape) (damaged : A) where
  -- tree t's entry
  unfoldable pub tree_turned : Tree → Turn Tally A → List ℕ → Outcome A
  tree_turned t m l = by_change m.change (outcome m.said l) (λ x. pick (leb x.count (capacity g t.0)) (outcome m.said (set l t.0 (tree_word x.reserved x.count))) (outcome damaged l))

  unfoldable pub on_tree : Tree → (ℕ → ℕ → Turn Tally A) → List ℕ → Outcome A
  on_tree t f l = by_tree (tree_says g t (get_or l t.0 0)) (outcome damaged l) (λ r k. tree_turned t (f r k) l)

-- where the table has the entry
unfoldable pub within : {A : Type 0} → A → ℕ → List ℕ → Outcome A → Outcome A
within none i l o = pick (ltb i (length l)) o (outcome none l)

-- what entry i says; one that the table has not, or that is malformed, is a fault
abbrev pub entry_read : {E : Type 0} → (ℕ → Option E) → ℕ → List ℕ → Result E Fault
entry_read says i l = pick (ltb i (length l)) (ok_or (says (get_or l i 0)) Fault.Damaged) (Err Fault.NoEntry)
