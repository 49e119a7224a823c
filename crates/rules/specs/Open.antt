-- Open and close. Open: 9, 8, 12; its later steps: 9, 10, 8, 11, 12. Close: 9, 10, 8, 12, 13.
use Rattle.std.specs.Prelude.{Bool, true, false, not, ◌&&◌, [], ◌∷◌, ◌++◌, ℕ, suc, ◌+◌, eqb, ltb, get_or}
use Rattle.laws.specs.Tests.{pick, every}
use Rattle.laws.specs.Sum.{sum_to}
use Rattle.rules.specs.Numbers.{Shape, trees_of, children_of}
use Rattle.rules.specs.Conversions.{huge, tree, tree_of, child_of}
use Rattle.rules.specs.Entries.{header_word, running, clean}
use Rattle.rules.specs.Lower.{well_formed, is_flagged, count_in, recount, zero_bits, empty_field, part_sum}
use Rattle.rules.specs.Zone.{Zone, header_of, shape_of, child_part, word_part, tree_entry_at, cpu_entry_at, Store}
use Rattle.rules.specs.Plan.{Plan, says, refuse, on, guarded, by_cpu, by_tree}
use Rattle.rules.specs.Checks.{unless, no_header, not_a_zone, bad_buffers, is_running, not_open}
use Rattle.rules.specs.Ranges.{open_range}
use Rattle.rules.specs.Create.{done}
use Rattle.rules.specs.Types.{Huge, Tree, CpuEntry, Opening, Record, Answer}

-- ---- what open and close look at

module _ (g : Shape) (z : Zone) where
  -- child h of the zone, in its tree's part; the zero bits of its field; whether its field is all zero
  abbrev pub child_at : Huge → ℕ
  child_at h = get_or (child_part g z (tree_of g.format h)) (child_of g.format h) 0

  abbrev pub zeros_at : Huge → ℕ
  zeros_at h = zero_bits (word_part g z (tree_of g.format h)) (child_of g.format h)

  abbrev pub empty_at : Huge → Bool
  empty_at h = empty_field (word_part g z (tree_of g.format h)) (child_of g.format h)

  -- no malformed child
  unfoldable pub children_formed : Bool
  children_formed = every g.huge (λ i. well_formed (child_at (huge i)))

  -- no child with a set over a field that isn't all zero
  unfoldable pub flags_empty : Bool
  flags_empty = every g.huge (λ i. pick (is_flagged (child_at (huge i))) (empty_at (huge i)) true)

  unfoldable pub trees_formed : Bool
  trees_formed = every (trees_of g) (λ i. by_tree (tree_entry_at g z (tree i)) false (λ r k. true))

  unfoldable pub cpus_formed : Bool
  cpus_formed = every g.cpus (λ j. by_cpu (cpu_entry_at g z j) false true (λ t s k. true))

  -- a child with a clear counts its zero bits
  unfoldable pub child_settled : Huge → Bool
  child_settled h = pick (is_flagged (child_at h)) true (eqb (count_in (child_at h)) (zeros_at h))

  -- a tree's count, what CPU j counts of it, and the sum of its children's counts
  unfoldable pub tree_count : Tree → ℕ
  tree_count t = by_tree (tree_entry_at g z t) 0 (λ r k. k)

  unfoldable pub cpu_count : Tree → ℕ → ℕ
  cpu_count t j = by_cpu (cpu_entry_at g z j) 0 0 (λ u s k. pick (eqb u.0 t.0) k 0)

  unfoldable pub child_count : Tree → ℕ
  child_count t = part_sum (child_part g z t) (children_of g t.0)

  -- a tree's count plus the CPU counts that hold it equals its children's sum
  unfoldable pub tree_settled : Tree → Bool
  tree_settled t = eqb (tree_count t + sum_to g.cpus (cpu_count t)) (child_count t)

  -- "this zone is settled", without the store
  unfoldable pub settled : Bool
  settled = every g.huge (λ i. child_settled (huge i)) && every (trees_of g) (λ i. tree_settled (tree i))

-- ---- open

abbrev pub opening : Opening → Answer
opening s = Answer.UnderWay (Record.Open s)

-- 12 before any store: a malformed child and, when the marker was running, a child with a set over a field that isn't all zero (D26)
unfoldable pub open_sound : Zone → Bool
open_sound z = children_formed (shape_of z) z && pick (is_running (header_of z)) (flags_empty (shape_of z) z) true

unfoldable pub open_zone : Zone → Plan
open_zone z = guarded (no_header z ∷ not_a_zone z ∷ bad_buffers (shape_of z) z ∷ on (not (open_sound z)) Answer.Damaged ∷ [])
    (says (Store.header (header_word running (shape_of z).huge)) (opening (pick (is_running (header_of z)) (Opening.Children (huge 0)) (Opening.Trees (tree 0)))))

-- a later step refuses 12 for a malformed child that it reads (D23)
unfoldable pub opening_sound : Shape → Zone → Opening → Bool
opening_sound g z (Opening.Children h) = well_formed (child_at g z h)
opening_sound g z (Opening.Trees t) = every (children_of g t.0) (λ c. well_formed (get_or (child_part g z t) c 0))
opening_sound g z (Opening.Cpus j) = true

unfoldable pub open_step_sound : Shape → Zone → Record → Bool
open_step_sound g z Record.Finished = true
open_step_sound g z (Record.Get cpu s) = true
open_step_sound g z (Record.Put cpu s) = true
open_step_sound g z (Record.Create s) = true
open_step_sound g z (Record.Open s) = opening_sound g z s

-- children with a clear get the count of zero bits; trees the sum of their children's counts with r clear; CPUs become absent
unfoldable pub open_stage : Shape → Zone → Opening → Plan
open_stage g z (Opening.Children h) = says (Store.child h.0 (recount (zeros_at g z h) (child_at g z h))) (opening (pick (ltb (suc h.0) g.huge) (Opening.Children (huge (suc h.0))) (Opening.Trees (tree 0))))
open_stage g z (Opening.Trees t) = says (Store.tree t.0 0 (child_count g z t)) (opening (pick (ltb (suc t.0) (trees_of g)) (Opening.Trees (tree (suc t.0))) (Opening.Cpus 0)))
open_stage g z (Opening.Cpus j) = says (Store.cpu j CpuEntry.Absent) (pick (ltb (suc j) g.cpus) (opening (Opening.Cpus (suc j))) done)

unfoldable pub open_act : Shape → Zone → Record → Plan
open_act g z Record.Finished = refuse Answer.BadRecord
open_act g z (Record.Get cpu s) = refuse Answer.BadRecord
open_act g z (Record.Put cpu s) = refuse Answer.BadRecord
open_act g z (Record.Create s) = refuse Answer.BadRecord
open_act g z (Record.Open s) = open_stage g z s

unfoldable pub open_step : Zone → Record → Plan
open_step z r = guarded (not_open z ++ (unless (open_range (shape_of z) r) Answer.BadRecord ∷ on (not (open_step_sound (shape_of z) z r)) Answer.Damaged ∷ [])) (open_act (shape_of z) z r)

-- the steps of an open that is not refused
abbrev pub open_steps : Shape → ℕ → ℕ
open_steps g children = 1 + children + trees_of g + g.cpus

-- ---- close: one step; every 12 before a 13 (D24), operations under way or not (D25)

unfoldable pub close_sound : Zone → Bool
close_sound z = let g : Shape = shape_of z in children_formed g z && (flags_empty g z && (trees_formed g z && cpus_formed g z))

unfoldable pub close_zone : Zone → Plan
close_zone z = guarded (not_open z ++ (on (not (close_sound z)) Answer.Damaged ∷ on (not (settled (shape_of z) z)) Answer.NotSettled ∷ []))
    (says (Store.header (header_word clean (shape_of z).huge)) done)
