-- In a zone that keeps the invariant no call is refused before its stage, every entry read is well formed, and every sum has room.
use Rattle.std.specs.Prelude.{Some}
use mathlib.Core.Path.{◌≡◌, refl, sym, ap, ◌∙◌, subst}
use mathlib.Core.List.{List, ◌++◌}
use Prim.Native.Nat.{ℕ, ◌+◌, ◌*◌, ◌≤◌, ◌<◌}
use native.Mathlib.Omega.{arith}
use lib.ListN.{length, get_or}
use borrow.Author.Tests.{le-leb}
use Rattle.laws.specs.Tests.{Passes}
use Rattle.laws.specs.Fields.{split, width}
use Rattle.laws.proofs.Tests.{pick_yes, pick_no}
use Rattle.laws.proofs.Sum.{sum_part, sum_bound}
use Rattle.laws.proofs.Parts.{part_at}
use Rattle.rules.specs.Types.{Tree, Block, Header, ChildEntry, TreeEntry, CpuEntry, Record}
use Rattle.rules.specs.Numbers.{child_frames, child_words, Shape, per_tree, trees_of, children_of, capacity}
use Rattle.rules.specs.Entries.{field, tree_layout, tree_says, holds_checks, tallied}
use Rattle.rules.specs.Lower.{child_says}
use Rattle.rules.specs.Zone.{Zone, header_of, header_huge, shaped, shape_of, tree_entry_at, cpu_entry_at}
use Rattle.rules.specs.Plan.{Plan, Refusal, Made, Tally, cpu_entry, tree_entry, child_entry, word_entry, by_tree, to_cpu, to_tree, to_child, to_word, carried, guarded}
use Rattle.rules.specs.Checks.{is_malformed, is_clean, header_checks, length_checks, not_open}
use Rattle.rules.specs.Ranges.{step_range}
use Rattle.rules.specs.Step.{act, step}
use Rattle.rules.specs.Events.{Cpu}
use Rattle.rules.proofs.Guards.{NoRefusal, cpu_elim, holds_in}
use Rattle.rules.proofs.Layouts.{running_again}
use Rattle.rules.proofs.Ways.{guarded_none, allowed}
use Rattle.rules.proofs.Shares.{share, low_of, owed, reserves}
use Rattle.rules.proofs.Own.{free_most, low_clear}
use Rattle.rules.proofs.Upper.{tally_at, flag_at, entry_at}
use Rattle.rules.proofs.Invariant.{free_tree, Up}

pub flag_small : (x : ℕ) → field tree_layout 0 x < 2
unfolding field split width
flag_small x = omega arith

module _ (n : ℕ) (z : Zone) (cs : ℕ → Cpu) (held lost : List Block) (u : Up n z cs held lost) where
  abbrev g : Shape
  g = shaped n z

  -- ---- the header and the lengths

  pub header_runs : header_of z ≡ Some (Header.Running n)
  unfolding header_of
  header_runs = rw u.header (running_again n u.some u.small)

  pub shape_is : shape_of z ≡ g
  unfolding header_huge
  shape_is = ap (λ h. shaped (header_huge h) z) header_runs

  pub is_open : NoRefusal (not_open z)
  unfolding is_malformed is_clean header_huge
  is_open = rw header_runs (allowed (header_checks z) (ap length u.header, tt), (refl, (refl, (allowed (length_checks g z) (u.lower.words, (u.lower.children, (u.upper.trees, (u.some_cpu, (omega (arith, u.few_cpus_lem), tt))))), tt))))

  -- so a call on an open zone refuses by its own list alone
  pub open_skips : (l : List Refusal) (p : Plan) → guarded (not_open z ++ l) p ≡ guarded l p
  unfolding guarded
  open_skips l p = pick_no _ _ _ is_open.0 ∙ (pick_no _ _ _ is_open.1.0 ∙ (pick_no _ _ _ is_open.1.1.0 ∙ pick_no _ _ _ is_open.1.1.1.0))

  pub step_is : (r : Record) → Passes (step_range g r) → step z r ≡ carried g z (act g r)
  unfolding step
  step_is r p = open_skips _ _ ∙ (guarded_none _ _ (allowed _ (subst (λ g. Passes (step_range g r)) (sym shape_is) p), tt) ∙ ap (λ g. carried g z (act g r)) shape_is)

  -- ---- room

  free_room : (t : ℕ) → free_tree g z.children z.words t ≤ capacity g t
  unfolding free_tree
  free_room t = omega (arith, sum_bound (children_of g t) child_frames _ (λ c h. free_most n z.children z.words _ _ _ u.lower (t * per_tree g + c)))

  -- a tree's count, one entry's and one record's share of it, together
  pub room : (t i j : ℕ) → t < trees_of g → i < length z.cpus → j < length z.cpus → tally_at z.trees t + share t (entry_at g z.cpus i) + owed g (cs j).latest t ≤ capacity g t
  room t i j h k m = omega (arith, u.upper.tallies t h, free_room t, sum_part (length z.cpus) (λ q. share t (entry_at g z.cpus q)) i k, sum_part (length z.cpus) (λ q. owed g (cs q).latest t) j m)

  -- a reservation that a record carries is set
  pub reserved : (t j : ℕ) → t < trees_of g → j < length z.cpus → reserves (cs j).latest t ≤ flag_at z.trees t
  reserved t j h m = omega (arith, u.upper.flags t h, sum_part (length z.cpus) (λ q. reserves (cs q).latest t) j m)

  -- a child below which something is under way has a count, with room for it
  pub under_way : (i j b : ℕ) → i < n → j < length z.cpus → 0 < b → b ≤ low_of g (cs j).latest i → (k : ℕ) × (child_says (get_or z.children i 0) ≡ Some (ChildEntry.Counts k)) × (k + b ≤ child_frames)
  under_way i j b h m b+ d =
      let s = sum_part (length z.cpus) (λ q. low_of g (cs q).latest i) j m in
      let c = low_clear n z.children z.words _ _ _ u.lower i h (omega arith) in
      (c.0, c.1, omega (arith, c.2, free_most n z.children z.words _ _ _ u.lower i))

  -- ---- a step carried out, by the entry that it reads

  pub read_cpu : (Q : Plan → Type 0) (i : ℕ) (a : Made CpuEntry) (f : Tree → ℕ → ℕ → Made CpuEntry) → i < length z.cpus → (cpu_entry_at g z i ≡ Some CpuEntry.Absent → Q (to_cpu g i a))
      → ((t : Tree) (s k : ℕ) → cpu_entry_at g z i ≡ Some (CpuEntry.Holds t s k) → Passes (holds_checks g t s k) → Q (to_cpu g i (f t s k))) → Q (carried g z (cpu_entry i a f))
  unfolding carried
  read_cpu Q i a f h x y = cpu_elim Q (cpu_entry_at g z i) (λ e. absurd (u.upper.sound i h e)) x (λ t s k e. y t s k e (holds_in g (get_or z.cpus i 0) t s k e))

  pub tree_says_lem : (t : Tree) → t.0 < trees_of g → tree_entry_at g z t ≡ Some (tallied (flag_at z.trees t.0) (tally_at z.trees t.0))
  unfolding tree_says
  tree_says_lem t h = pick_yes _ _ _ (le-leb (tally_at z.trees t.0) (capacity g t.0) (omega (arith, room t.0 0 0 h u.some_cpu u.some_cpu)))

  pub read_tree : (Q : Plan → Type 0) (t : Tree) (f : ℕ → ℕ → Made Tally) → t.0 < trees_of g → Q (to_tree g t (f (flag_at z.trees t.0) (tally_at z.trees t.0))) → Q (carried g z (tree_entry t f))
  unfolding carried by_tree
  read_tree Q t f h x = rw (tree_says_lem t h) x

  pub read_child : (Q : Plan → Type 0) (t : Tree) (c : ℕ) (f : ℕ → Made ℕ) → c < children_of g t.0 → Q (to_child g t c (f (get_or z.children (t.0 * per_tree g + c) 0))) → Q (carried g z (child_entry t c f))
  unfolding carried
  read_child Q t c f h x = rw (part_at (t.0 * per_tree g) (children_of g t.0) z.children c 0 h) x

  pub read_word : (Q : Plan → Type 0) (t : Tree) (i : ℕ) (f : ℕ → Made ℕ) → i < child_words * children_of g t.0 → Q (to_word g t i (f (get_or z.words (child_words * (t.0 * per_tree g) + i) 0))) → Q (carried g z (word_entry t i f))
  unfolding carried
  read_word Q t i f h x = rw (part_at (child_words * (t.0 * per_tree g)) (child_words * children_of g t.0) z.words i 0 h) x
