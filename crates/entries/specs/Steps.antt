-- What the crate's functions on a tree's entry answer and leave.
use Rattle.std.specs.Prelude.{◌&&◌, List, ℕ, ◌+◌, eqb, leb, set, Option, Some, None, Result, Ok, Err}
use Rattle.laws.specs.Tests.{pick}
use Rattle.laws.specs.Tables.{Outcome, outcome}
use Rattle.rules.specs.Numbers.{capacity}
use Rattle.rules.specs.Entries.{tree_says, tree_word}
use Rattle.rules.specs.Plan.{Tally, tally}
use Rattle.rules.specs.Places.{class_of, fits, pass_tree}
use Rattle.entries.specs.Types.{Tree, TreeEntry, Pass, Fault, Size}
use Rattle.entries.specs.Sizes.{shape_of}
use Rattle.entries.specs.Turns.{Turn, looks, stores, on_tree, within, entry_read}

module _ (m : Size) where
  -- ---- a tree's entry

  -- what the entry says
  unfoldable pub look_tree_in : Tree → List ℕ → Result TreeEntry Fault
  look_tree_in t l = entry_read (tree_says (shape_of m) t) t.0 l

  -- a count that the tree can have: one above the capacity is damaged
  unfoldable pub count_in : Tree → ℕ → Result ℕ Fault
  count_in t k = pick (leb k (capacity (shape_of m) t.0)) (Ok k) (Err Fault.Damaged)

  abbrev pub tree_step : {A : Type 0} → Tree → (ℕ → ℕ → Turn Tally (Result A Fault)) → List ℕ → Outcome (Result A Fault)
  tree_step t f l = within (Err Fault.NoEntry) t.0 l (on_tree (shape_of m) (Err Fault.Damaged) t f l)

  -- rule 1: the count is taken, leaving 0; r stays
  abbrev pub take_count_in : Tree → List ℕ → Outcome (Result ℕ Fault)
  take_count_in t = tree_step t (λ r k. stores (tally r 0) (Ok k))

  -- the count rises; r stays
  abbrev pub add_count_in : Tree → ℕ → List ℕ → Outcome (Result Unit Fault)
  add_count_in t a = tree_step t (λ r k. stores (tally r (k + a)) (Ok tt))

  -- rule 2: the count rises; r is cleared
  abbrev pub unreserve_in : Tree → ℕ → List ℕ → Outcome (Result Unit Fault)
  unreserve_in t a = tree_step t (λ r k. stores (tally 0 (k + a)) (Ok tt))

  -- rule 3: r clear, the class fits, the count is at least s: r is set, the count is taken
  abbrev pub reserve_in : Pass → ℕ → List ℕ → Outcome (Result (Option ℕ) Fault)
  reserve_in p s = tree_step (pass_tree p) (λ r k. pick (eqb r 0 && (fits p (class_of k) && leb s k)) (stores (tally 1 0) (Ok (Some k))) (looks (Ok None)))

  -- rule 4: the hand with the count, which leaves 0; r stays. A sum above the capacity is damaged
  abbrev pub take_with_in : Tree → ℕ → List ℕ → Outcome (Result ℕ Fault)
  take_with_in t h = tree_step t (λ r k. pick (leb (h + k) (capacity (shape_of m) t.0)) (stores (tally r 0) (Ok (h + k))) (looks (Err Fault.Damaged)))

  -- create and open: a count with r clear, whatever the entry was
  unfoldable pub store_count_in : Tree → ℕ → List ℕ → Outcome (Result Unit Fault)
  store_count_in t k l = within (Err Fault.NoEntry) t.0 l (pick (leb k (capacity (shape_of m) t.0)) (outcome (Ok tt) (set l t.0 (tree_word 0 k))) (outcome (Err Fault.Damaged) l))

-- an entry stored whatever it was: the header's words, and create's and open's absent CPU entries
unfoldable pub stored_in : ℕ → ℕ → List ℕ → Outcome (Result Unit Fault)
stored_in i v l = within (Err Fault.NoEntry) i l (outcome (Ok tt) (set l i v))
