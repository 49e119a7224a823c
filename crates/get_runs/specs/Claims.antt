-- A claim on a child of the own tree, for any order, and the stage that follows one that was taken.
use Rattle.std.specs.Prelude.{List, ℕ, ◌+◌, ◌*◌, Result, Err}
use Rattle.laws.specs.Tables.{Outcome}
use Rattle.rules.specs.Numbers.{Shape, per_tree}
use Rattle.rules.specs.Conversions.{huge}
use Rattle.rules.specs.Blocks.{run_size}
use Rattle.lower.specs.Steps.{claim_in, take_huge_in}
use Rattle.get_runs.specs.Types.{Tree, Order, Block, Place, Taking, Took, Fault}

-- a number that the tree has not
abbrev pub no_child : Result Took Fault
no_child = Err Fault.NoChild

-- the claim of a run, or the taking of a huge frame
abbrev pub claims_in : Order → List ℕ → ℕ → Outcome (Result Took Fault)
claims_in (Order.Run r) l c = claim_in (run_size r) l c
claims_in Order.Nine l c = take_huge_in l c

-- the stage after a claim that was taken: the words, or the last step
abbrev pub claimed : Shape → Order → Tree → ℕ → ℕ → Taking
claimed g (Order.Run r) t s c = Taking.Word r (Place.Own t) s c 0
claimed g Order.Nine t s c = Taking.Last (Block.Whole (huge (t.0 * per_tree g + c)))
