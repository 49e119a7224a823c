-- The stages of a put on an open zone: what the low level says of its table is the step of the stage; and the run that goes on after it.
use mathlib.Core.Path.{◌≡◌, refl, sym, ap, subst, ◌∙◌}
use mathlib.Core.Bool.{Bool, true, false}
use mathlib.Core.List.{List, ◌++◌}
use Prim.Native.Nat.{ℕ, ◌+◌, ◌-◌, ◌≤◌, ◌<◌}
use native.Mathlib.Omega.{arith}
use Rattle.laws.specs.Tests.{passes, Passes}
use Rattle.laws.specs.Tables.{Outcome, outcome}
use Rattle.laws.proofs.Tests.{pick_no, all_passed}
use Rattle.rules.specs.Numbers.{Shape as Rules}
use Rattle.rules.specs.Blocks.{run_size, size_of, first_of, word_of, bit_of}
use Rattle.rules.specs.Ranges.{block_in, cpu_in, giving_in, step_range}
use Rattle.std.specs.Prelude.{Result as Said, Ok, Err}
use Rattle.rules.specs.Answers.{number, answer_of}
use Rattle.rules.specs.Zone.{Zone}
use Rattle.rules.specs.Lower.{give_count, clear_huge}
use Rattle.rules.specs.Plan.{plain, clears, Made, Tally, cpu_entry, tree_entry, child_entry, word_entry}
use Rattle.rules.specs.Give.{clear, give}
use Rattle.rules.specs.Step.{act, step, Ran, follow}
use Rattle.lower.specs.Steps.{give_in, clear_huge_in, clear_run_in}
use Rattle.entries.specs.Steps.{add_count_in}
use Rattle.cpu_entries.specs.Steps.{add_own_in}
use Rattle.places.specs.Shapes.{shape_of, ranged}
use Rattle.lending.specs.Answers.{given_answer}
use Rattle.lending.proofs.Lending.{count_same, huge_same}
use Rattle.cpu_stages.specs.Tables.{in_cpus}
use Rattle.cpu_stages.specs.Answers.{held_answer}
use Rattle.cpu_stages.proofs.Rules.{to_entry_rule}
use Rattle.tree_stages.specs.Tables.{in_trees}
use Rattle.tree_stages.proofs.Rules.{to_tree_rule}
use Rattle.child_stages.specs.Tables.{lent_children, in_children}
use Rattle.child_stages.proofs.Rules.{given_there}
use Rattle.word_stages.specs.Tables.{lent_words, in_words}
use Rattle.word_stages.proofs.Rules.{cleared_there, run_fits}
use Rattle.upper.proofs.Arms.{given_back, put_cpu, put_tree, put_child, put_word}
use Rattle.upper.proofs.Stepped.{step_refused, step_out, step_acts, cpu_out, stage_out}
use Rattle.upper.proofs.Runs.{stays, went, goes}
use Rattle.calls.specs.Results.{zone, Result, result_of, done, Fits, Opened, way_by, way_of, went_to, WentOn}
use Rattle.calls.proofs.Opened.{checked_in, checked_open}
use Rattle.put_runs.specs.Types.{Frame, Huge, Tree, Run, Block, Giving, Record, CpuEntry, Answer, Fault, Shape, Way}
use Rattle.put_runs.specs.Stands.{steps_to_entry, ends_with, LiesAt}

-- ---- a put's numbers are its block's

given_range : (g : Rules) (x : Giving) → giving_in g x ≡ block_in g (given_back x)
unfolding giving_in
given_range g (Giving.Clear b) = refl
given_range g (Giving.Raise v f) = refl
given_range g (Giving.ToEntry b) = refl
given_range g (Giving.ToTree b) = refl

-- ---- a stage's table outcome is its step

-- the step of record r on zone z ends so
pub record Steps (z : Zone) (r : Record) (y : Result) : Type 0 where
  pub says : y ≡ done z (step z r)

module _ {s : Shape} {cpu : ℕ} {h w c t p : List ℕ} (o : Opened s cpu h w c t p) (x : Giving) where
  abbrev g : Rules
  g = shape_of s

  abbrev z : Zone
  z = zone h w c t p

  -- its block is outside the zone: 11
  put_out : passes (block_in g (given_back x)) ≡ false → Steps z (Record.Put cpu x) (result_of Answer.BadRecord z)
  unfolding step_range
  put_out b = record { says = step_out h w c t p (Record.Put cpu x) o.checks refl (stage_out s.cpus cpu (giving_in g x) refl (ap passes (given_range g x) ∙ b)) }

  -- tables that fit, and numbers in range
  abbrev InRange : Type 0
  InRange = Fits s w c t p × Passes (cpu_in g cpu ++ giving_in g x)

  -- a stage with a table back in the zone as F puts it: its block is outside the zone, or all is in range
  by_range : (F : Outcome Answer → Result) (f : List ℕ → Outcome Answer) (l : List ℕ) {y : Outcome Answer} → F (outcome Answer.BadRecord l) ≡ result_of Answer.BadRecord z → (InRange → Steps z (Record.Put cpu x) (F y))
      → y ≡ ranged g (given_back x) f l → Steps z (Record.Put cpu x) (F y)
  unfolding ranged
  by_range F f l {y} k q e = go (passes (block_in g (given_back x))) refl
    where
      go : (b : Bool) → passes (block_in g (given_back x)) ≡ b → Steps z (Record.Put cpu x) (F y)
      go true b = q ((checked_open h w c t p o.checks).2, (o.cpu_is_in, subst Passes (sym (given_range g x)) (all_passed (block_in g (given_back x)) b)))
      go false b = record { says = ap F (e ∙ pick_no _ _ _ b) ∙ (k ∙ (put_out b).says) }

  -- by the table that the step's entry stands in
  module _ {r : Answer} {m : List ℕ} where
    cpu_steps : {j : ℕ} {a : Made CpuEntry} {f : Tree → ℕ → ℕ → Made CpuEntry} → give g cpu x ≡ cpu_entry j a f → outcome r m ≡ ranged g (given_back x) (in_cpus g (give g cpu x)) p
        → Steps z (Record.Put cpu x) (result_of r (zone h w c t m))
    unfolding step_range act
    cpu_steps q e = by_range (λ y. result_of y.said (zone h w c t y.table)) (in_cpus g (give g cpu x)) p refl (λ k. record { says = step_acts h w c t p _ o.checks refl k.1 (put_cpu cpu x k refl q e) }) e

    tree_steps : {u : Tree} {f : ℕ → ℕ → Made Tally} → give g cpu x ≡ tree_entry u f → outcome r m ≡ ranged g (given_back x) (in_trees g (give g cpu x)) t
        → Steps z (Record.Put cpu x) (result_of r (zone h w c m p))
    unfolding step_range act
    tree_steps q e = by_range (λ y. result_of y.said (zone h w c y.table p)) (in_trees g (give g cpu x)) t refl (λ k. record { says = step_acts h w c t p _ o.checks refl k.1 (put_tree cpu x k refl q e) }) e

    child_steps_lem : {u : Tree} {i : ℕ} {f : ℕ → Made ℕ} → give g cpu x ≡ child_entry u i f → outcome r m ≡ ranged g (given_back x) (in_children g (give g cpu x)) c
        → Steps z (Record.Put cpu x) (result_of r (zone h w m t p))
    unfolding step_range act
    child_steps_lem q e = by_range (λ y. result_of y.said (zone h w y.table t p)) (in_children g (give g cpu x)) c refl (λ k. record { says = step_acts h w c t p _ o.checks refl k.1 (put_child cpu x k refl q e) }) e

    word_steps : {u : Tree} {i : ℕ} {f : ℕ → Made ℕ} → give g cpu x ≡ word_entry u i f → outcome r m ≡ ranged g (given_back x) (in_words g (give g cpu x)) w
        → Steps z (Record.Put cpu x) (result_of r (zone h m c t p))
    unfolding step_range act
    word_steps q e = by_range (λ y. result_of y.said (zone h y.table c t p)) (in_words g (give g cpu x)) w refl (λ k. record { says = step_acts h w c t p _ o.checks refl k.1 (put_word cpu x k refl q e) }) e

-- ---- the stages, from what the low level says

module _ {s : Shape} {cpu : ℕ} {h w c t p : List ℕ} (o : Opened s cpu h w c t p) {r : Answer} {m : List ℕ} {u : Tree} {i : ℕ} where
  pub to_tree_step : {b : Block} {n : ℕ} {a : Said Unit Fault} → LiesAt s b u i → n ≡ size_of b → outcome a m ≡ add_count_in s.size u n t
      → r ≡ given_answer (Answer.Done (first_of b)) a → Steps (zone h w c t p) (Record.Put cpu (Giving.ToTree b)) (result_of r (zone h w c m p))
  unfolding give
  to_tree_step {b} {n} q f d a = tree_steps o (Giving.ToTree b) refl (to_tree_rule s cpu b t refl q refl f d a)

  pub to_entry_step : {b : Block} {n : ℕ} {a : Said Bool Fault} → LiesAt s b u i → n ≡ size_of b → outcome a m ≡ add_own_in s.size cpu u n p
      → r ≡ held_answer (Answer.Done (first_of b)) (Answer.UnderWay (Record.Put cpu (Giving.ToTree b))) a → Steps (zone h w c t p) (Record.Put cpu (Giving.ToEntry b)) (result_of r (zone h w c t m))
  unfolding give
  to_entry_step {b} {n} q f d a = cpu_steps o (Giving.ToEntry b) refl (to_entry_rule s cpu b p refl q refl f refl d a)

  pub raise_step : {v : Run} {f : Frame} {n : ℕ} {a : Said Unit Fault} → LiesAt s (Block.Run v f) u i → n ≡ run_size v → outcome a m ≡ lent_children (shape_of s) u (Err Fault.NoChild) (λ l. give_in n l i) c
      → r ≡ given_answer (Answer.UnderWay (Record.Put cpu (Giving.ToEntry (Block.Run v f)))) a → Steps (zone h w c t p) (Record.Put cpu (Giving.Raise v f)) (result_of r (zone h w m t p))
  unfolding give in_children
  raise_step {v} {f} q n d a = child_steps_lem o (Giving.Raise v f) refl (given_there (shape_of s) c (Block.Run v f) _ refl q _ plain a (give_count (run_size v)) (count_same _ _ (run_size v)) (rw n at d) refl)

  pub clear_whole_step : {y : Huge} {a : Said Unit Fault} → LiesAt s (Block.Whole y) u i → outcome a m ≡ lent_children (shape_of s) u (Err Fault.NoChild) (λ l. clear_huge_in l i) c
      → r ≡ given_answer (Answer.UnderWay (Record.Put cpu (Giving.ToEntry (Block.Whole y)))) a → Steps (zone h w c t p) (Record.Put cpu (Giving.Clear (Block.Whole y))) (result_of r (zone h w m t p))
  unfolding give clear in_children
  clear_whole_step {y} q d a = child_steps_lem o (Giving.Clear (Block.Whole y)) refl (given_there (shape_of s) c (Block.Whole y) _ refl q _ (clears (Block.Whole y)) a clear_huge (huge_same _ _) d refl)

  pub clear_run_step : {v : Run} {f : Frame} {a : Said Unit Fault} → LiesAt s (Block.Run v f) u i → outcome a m ≡ lent_words (shape_of s) u (Err Fault.NoChild) (λ l. clear_run_in (run_size v) l i (word_of f) (bit_of f)) w
      → r ≡ given_answer (Answer.UnderWay (Record.Put cpu (Giving.Raise v f))) a → Steps (zone h w c t p) (Record.Put cpu (Giving.Clear (Block.Run v f))) (result_of r (zone h m c t p))
  unfolding give clear in_words
  clear_run_step {v} {f} q d a = word_steps o (Giving.Clear (Block.Run v f)) refl (cleared_there (shape_of s) w (Block.Run v f) _ refl q _ (clears (Block.Run v f)) a (run_size v) (bit_of f) (omega arith) (run_fits (shape_of s) v f refl q) d refl)

-- ---- a fault: the answer is a refusal

pub fault_refused : (f : Fault) → 2 ≤ number (answer_of f)
fault_refused Fault.Damaged = omega arith
fault_refused Fault.NotTaken = omega arith
fault_refused Fault.NoEntry = omega arith
fault_refused Fault.NoChild = omega arith
fault_refused Fault.NoWord = omega arith
fault_refused Fault.NoBit = omega arith
fault_refused Fault.NoField = omega arith
fault_refused Fault.TooMany = omega arith

-- ---- the run goes on

-- no step is made
pub run_stands : (fuel : ℕ) (r : Record) (z : Zone) {k n : ℕ} → k ≡ n → WentOn step fuel k r (Way.Goes r n) z z
unfolding went_to
run_stands fuel r z q = ap (λ j. follow step (fuel - j) j (Answer.UnderWay r) z) (sym q)

module _ {k : ℕ} {z z' : Zone} {r : Record} where
  -- the next step is refused
  pub run_stays : (fuel : ℕ) (a : Answer) {n : ℕ} → Steps z r (result_of a z') → 2 ≤ number a → k ≡ n → WentOn step fuel k r (Way.Goes r n) z' z
  run_stays fuel a {n} e q d = subst (λ y. WentOn step fuel k r (Way.Goes r n) y z) (sym (stays fuel k r z e.says q)) (run_stands fuel r z d)

  module _ {fuel : ℕ} (b : k < fuel) where
    -- as the answer says
    pub run_answers : {a : Answer} {y : Way} → Steps z r (result_of a z') → y ≡ way_of a (k + 1) → WentOn step fuel k r y z' z
    run_answers e q = went fuel k r z e.says b q

    -- to its end
    pub run_ends : (x : Block) {n : ℕ} → Steps z r (result_of (Answer.Done (first_of x)) z') → n ≡ k + 1 → WentOn step fuel k r (ends_with x n) z' z
    unfolding way_by
    run_ends x e q = run_answers e (ap (ends_with x) q)

    -- with the next record
    pub run_follows : {x : Record} {y : Ran} → Steps z r (result_of (Answer.UnderWay x) z') → y ≡ follow step (fuel - (k + 1)) (k + 1) (Answer.UnderWay x) z' → y ≡ follow step (fuel - k) k (Answer.UnderWay r) z
    run_follows e d = d ∙ goes fuel k r z e.says b refl

-- at most two steps lead to the entry
pub steps_few : {k : ℕ} (b : Block) → k ≡ steps_to_entry b → k ≤ 2
steps_few (Block.Run v f) e = omega arith
steps_few (Block.Whole h) e = omega arith

-- ---- what a put that begins is refused for

module _ {h w c t p : List ℕ} {cpu : ℕ} {x : Giving} where
  pub refused : {a : Answer} → checked_in h w c t p ≡ Err a → Steps (zone h w c t p) (Record.Put cpu x) (result_of a (zone h w c t p))
  refused e = record { says = step_refused h w c t p (Record.Put cpu x) e }

  pub no_cpu : {s : Shape} → checked_in h w c t p ≡ Ok s → s.cpus ≤ cpu → Steps (zone h w c t p) (Record.Put cpu x) (result_of Answer.BadRecord (zone h w c t p))
  unfolding step_range
  no_cpu {s} e b = record { says = step_out h w c t p (Record.Put cpu x) e refl (cpu_out s.cpus cpu _ b) }
