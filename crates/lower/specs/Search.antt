-- The plain search of rule 5 for a run of s bits: the steps' own definitions, one after another. Children from the start child round to it again, each once.
use Rattle.std.specs.Prelude.{List, ℕ, zero, suc, ◌+◌, ◌*◌, eqb, leb, ltb, length, Option, Some, None, Result, Ok, Err}
use Rattle.laws.specs.Tests.{pick}
use Rattle.laws.specs.Tables.{Outcome}
use Rattle.rules.specs.Numbers.{child_frames, child_words, word_bits, most_huge}
use Rattle.rules.specs.Conversions.{frame}
use Rattle.rules.specs.Lower.{claim, give_count, take_run}
use Rattle.rules.specs.Plan.{by_took, by_bit}
use Rattle.lower.specs.Types.{Frame, Took, Fault}
use Rattle.lower.specs.Tables.{step_at}
use Rattle.lower.specs.Steps.{fields_in}

-- what was found, and both tables
pub record Search : Type 0 where
  pub found : Result (Option Frame) Fault
  pub children : List ℕ
  pub words : List ℕ

abbrev pub search : Result (Option Frame) Fault → List ℕ → List ℕ → Search
search f cs ws = record { found = f; children = cs; words = ws }

-- words w, w + 1, .. of child c, d of them: the first that has a free run loses it; with none, what follows
unfoldable pub search_words : ℕ → ℕ → List ℕ → List ℕ → ℕ → ℕ → Search → Search
search_words s zero cs ws c w after = after
search_words s (suc d) cs ws c w after =
    let o : Outcome (Option ℕ) = step_at (take_run s) ws (child_words * c + w) in
    by_bit o.said (λ b. search (Ok (Some (frame (child_frames * c + (word_bits * w + b))))) cs o.table) (search_words s d cs ws c (suc w) after)

-- the child after c
abbrev pub next_of : ℕ → ℕ → ℕ
next_of n c = pick (eqb (suc c) n) 0 (suc c)

-- child c and those after it, d of them: a claim, its words; eight words without a free run give the count back
unfoldable pub search_from : ℕ → ℕ → List ℕ → List ℕ → ℕ → Search
search_from s zero cs ws c = search (Ok None) cs ws
search_from s (suc d) cs ws c =
    let o : Outcome (Result Took Fault) = step_at (claim s) cs c in
    by_took o.said
    (search_words s child_words o.table ws c 0 (search_from s d (step_at (give_count s) o.table c).table ws (next_of (length cs) c)))
    (search_from s d cs ws (next_of (length cs) c))
    (search (Err Fault.Damaged) cs ws)

-- from the start child, in tables where every child has its field
unfoldable pub search_in : ℕ → List ℕ → List ℕ → ℕ → Search
search_in s cs ws start =
    pick (leb (length cs) most_huge)
    (pick (ltb start (length cs))
    (pick (leb (length cs) (fields_in ws)) (search_from s (length cs) cs ws start) (search (Err Fault.NoField) cs ws))
    (search (Err Fault.NoChild) cs ws))
    (search (Err Fault.TooMany) cs ws)
