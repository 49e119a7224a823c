-- The steps of a get on an open zone: what a stage says of its table is the step of its record. And a run, one step on.
use mathlib.Core.Path.{◌≡◌, refl, sym, ap, ◌∙◌}
use mathlib.Core.Bool.{Bool, true, false}
use mathlib.Core.List.{List, [], ◌++◌}
use Prim.Native.Nat.{ℕ, ◌+◌, ◌-◌, ◌≤◌, ◌<◌, max}
use native.Mathlib.Decide.{dec_lt}
use native.Mathlib.Nat.{max-eq_left, max-eq_right}
use native.Mathlib.Omega.{arith}
use Rattle.laws.specs.Tests.{passes, Passes}
use Rattle.laws.specs.Tables.{Outcome, outcome}
use Rattle.laws.proofs.Tests.{pick_no, all_passed, fails_of, passes_of, true_false}
use Rattle.rules.specs.declared.Run.{Run}
use Rattle.rules.specs.Ranges.{cpu_in, child_in, block_in, place_in, taking_in, step_range}
use Rattle.std.specs.Prelude.{Option, Some, Result, Ok, Err}
use Rattle.rules.specs.Answers.{number, answer_of}
use Rattle.rules.specs.Plan.{carried}
use Rattle.rules.specs.Blocks.{size, first_of}
use Rattle.rules.specs.Places.{place_tree}
use Rattle.rules.specs.Take.{get, take}
use Rattle.rules.specs.Step.{act, step, Ran, follow}
use Rattle.places.specs.Shapes.{shape_of, block_at_in, ranged}
use Rattle.places.specs.declared.BlockAt.{BlockAt}
use Rattle.calls.specs.Results.{zone, result_of, done, way_by, went_to, Fits, Opened}
use Rattle.calls.proofs.Opened.{checked_open}
use Rattle.cpu_entries.specs.declared.Claimed.{Claimed as Owned}
use Rattle.cpu_entries.specs.Steps.{claim_own_in, set_start_in}
use Rattle.cpu_stages.specs.Tables.{in_cpus}
use Rattle.cpu_stages.specs.Answers.{own_answer, held_answer}
use Rattle.cpu_stages.proofs.Rules.{own_rule, last_rule}
use Rattle.child_stages.specs.Tables.{in_children}
use Rattle.word_stages.specs.Tables.{in_words, eighth}
use Rattle.upper.proofs.Arms.{get_cpu, get_child, get_word, get_last}
use Rattle.upper.proofs.Stepped.{step_out, step_acts}
use Rattle.upper.proofs.Runs.{Makes, still, went, goes}
use Rattle.get_runs.specs.Types.{Frame, Tree, Order, Block, Place, Taking, Record, Answer, Fault, Shape, Way}

-- ---- steps, by the table that holds the stage's entry

module _ {s : Shape} {cpu : ℕ} {h w c t p : List ℕ} (o : Opened s cpu h w c t p) where
  ready : (x : Taking) → Passes (taking_in (shape_of s) cpu x) → Fits s w c t p × Passes (cpu_in (shape_of s) cpu ++ taking_in (shape_of s) cpu x)
  ready x b = ((checked_open h w c t p o.checks).2, (o.cpu_is_in, b))

  acts : (x : Taking) → Passes (taking_in (shape_of s) cpu x) → {a : Answer} {w' c' t' p' : List ℕ} → result_of a (zone [] w' c' t' p') ≡ done (zone [] w c t p) (carried (shape_of s) (zone [] w c t p) (take (shape_of s) cpu x))
      → Makes (zone h w c t p) (Record.Get cpu x) a (zone h w' c' t' p')
  unfolding step_range act
  acts x b d = step_acts h w c t p (Record.Get cpu x) o.checks refl (o.cpu_is_in, b) d

  module _ {a : Answer} {m : List ℕ} where
    own_step : (q : Order) → outcome a m ≡ in_cpus (shape_of s) (take (shape_of s) cpu (Taking.Own q)) p → Makes (zone h w c t p) (Record.Get cpu (Taking.Own q)) a (zone h w c t m)
    unfolding take taking_in
    own_step q e = acts (Taking.Own q) tt (get_cpu cpu (Taking.Own q) (ready (Taking.Own q) tt) refl refl e)

    pub child_step : (q : Order) (u : Place) (i k : ℕ) → Passes (taking_in (shape_of s) cpu (Taking.Child q u i k)) → outcome a m ≡ in_children (shape_of s) (take (shape_of s) cpu (Taking.Child q u i k)) c
        → Makes (zone h w c t p) (Record.Get cpu (Taking.Child q u i k)) a (zone h w m t p)
    unfolding take
    child_step q u i k b e = acts (Taking.Child q u i k) b (get_child cpu (Taking.Child q u i k) (ready (Taking.Child q u i k) b) refl refl e)

    pub word_step : (v : Run) (u : Place) (i k j : ℕ) → Passes (taking_in (shape_of s) cpu (Taking.Word v u i k j)) → outcome a m ≡ eighth j (in_words (shape_of s) (take (shape_of s) cpu (Taking.Word v u i k j))) w
        → Makes (zone h w c t p) (Record.Get cpu (Taking.Word v u i k j)) a (zone h m c t p)
    word_step v u i k j b e = acts (Taking.Word v u i k j) b (get_word cpu (Taking.Word v u i k j) (ready (Taking.Word v u i k j) b) refl e)

    -- a block outside the zone answers 11
    pub last_step : (b : Block) → outcome a m ≡ ranged (shape_of s) b (in_cpus (shape_of s) (take (shape_of s) cpu (Taking.Last b))) p → Makes (zone h w c t p) (Record.Get cpu (Taking.Last b)) a (zone h w c t m)
    unfolding taking_in ranged step_range
    last_step b e = go (passes (block_in (shape_of s) b)) refl
      where
        go : (y : Bool) → passes (block_in (shape_of s) b) ≡ y → Makes (zone h w c t p) (Record.Get cpu (Taking.Last b)) a (zone h w c t m)
        go true q = let d = all_passed (block_in (shape_of s) b) q in acts (Taking.Last b) d (get_last cpu (Taking.Last b) (ready (Taking.Last b) d) refl e)
        go false q =
            ap (λ (x : Outcome Answer). result_of x.said (zone h w c t x.table)) (e ∙ pick_no _ _ _ q)
            ∙ step_out h w c t p (Record.Get cpu (Taking.Last b)) o.checks refl (fails_of (step_range (shape_of s) (Record.Get cpu (Taking.Last b))) (λ k. true_false (sym (passes_of (block_in (shape_of s) b) k.1) ∙ q)))

-- ---- a fault: the answer is a refusal

pub fault_refused : (f : Fault) → 2 ≤ number (answer_of f)
fault_refused Fault.Damaged = omega arith
fault_refused Fault.NotTaken = omega arith
fault_refused Fault.NoEntry = omega arith
fault_refused Fault.NoChild = omega arith
fault_refused Fault.NoWord = omega arith
fault_refused Fault.NoBit = omega arith
fault_refused Fault.NoField = omega arith
fault_refused Fault.TooMany = omega arith

-- ---- the last step

-- the entry is the CPU's own or another's: the answer is the same
held_both : (a : Answer) (b : Bool) → held_answer a a (Ok b) ≡ a
held_both a true = refl
held_both a false = refl

module _ {s : Shape} {cpu : ℕ} {h w c t p : List ℕ} (o : Opened s cpu h w c t p) (fuel k : ℕ) (l : k < fuel) (b : Block) {d : Block} (n : d ≡ b) {x : Option BlockAt} {u : BlockAt} (e : x ≡ block_at_in (shape_of s) d) (q : x ≡ Some u)
    {a : Result Bool Fault} {m : List ℕ} (f : outcome a m ≡ set_start_in s.size cpu u.tree u.child p) where
  abbrev last_answer : Answer
  last_answer = held_answer (Answer.Done (first_of b)) (Answer.Done (first_of b)) a

  last_told : Makes (zone h w c t p) (Record.Get cpu (Taking.Last b)) last_answer (zone h w c t m)
  last_told = last_step o b (last_rule s cpu b p (rw n at e) q refl f refl)

  abbrev Ending : Ran
  Ending = follow step (fuel - k) k (get (shape_of s) cpu (Taking.Last b)) (zone h w c t p)

  pub last_done : {v : Frame} {y : Bool} → a ≡ Ok y → v ≡ first_of d → went_to step fuel (Way.Ends (record { answer = Answer.Done v; steps = k + 1 })) (zone h w c t m) ≡ Ending
  unfolding way_by
  last_done {v} {y} r z = went fuel k _ _ last_told l (rw (z, n, r, held_both (Answer.Done (first_of b)) y) refl)

  pub last_stands : {y : Fault} → a ≡ Err y → went_to step fuel (Way.Goes (Record.Get cpu (Taking.Last b)) k) (zone h w c t m) ≡ Ending
  last_stands {y} r = still fuel k _ _ last_told (rw r (fault_refused y))

-- ---- the own entry

-- a fuel that is not 0
pub some_fuel : {fuel : ℕ} → (fuel ≡ 0 → ⊥) → 0 < fuel
some_fuel h = omega (arith, h)

-- the code's test of a search's numbers
pub search_in_lem : (s : Shape) (cpu : ℕ) (q : Order) (p : Place) (i k : ℕ) {b : Bool} → b ≡ passes (place_in (shape_of s) cpu p ++ (child_in (shape_of s) (place_tree p) i ++ child_in (shape_of s) (place_tree p) k)) → b ≡ true → Passes (taking_in (shape_of s) cpu (Taking.Child q p i k))
unfolding taking_in
search_in_lem s cpu q p i k e r = all_passed _ (sym e ∙ r)

module _ (s : Shape) (cpu : ℕ) (q : Order) (n : ℕ) {h w c t p : List ℕ} (o : Opened s cpu h w c t p) (fuel : ℕ) (l : fuel ≡ 0 → ⊥) (d : n ≡ size q) {x : Result Owned Fault} {m : List ℕ} (e : outcome x m ≡ claim_own_in s.size cpu n p) where
  own_told : Makes (zone h w c t p) (Record.Get cpu (Taking.Own q)) (own_answer (shape_of s) cpu q x) (zone h w c t m)
  own_told = own_step o q (own_rule s cpu q p n d e refl)

  abbrev Begun : Ran
  Begun = follow step (fuel - 0) 0 (get (shape_of s) cpu (Taking.Own q)) (zone h w c t p)

  pub own_claimed : {u : Tree} {i : ℕ} {y : Ran} → x ≡ Ok (Owned.Claimed u i) → y ≡ follow step (fuel - 1) 1 (get (shape_of s) cpu (Taking.Child q (Place.Own u) i i)) (zone h w c t m) → y ≡ Begun
  own_claimed r f = f ∙ goes fuel 0 _ _ own_told (some_fuel l) (ap (own_answer (shape_of s) cpu q) r)

  pub own_goes : {v : Owned} {r : Record} → x ≡ Ok v → own_answer (shape_of s) cpu q (Ok v) ≡ Answer.UnderWay r → went_to step fuel (Way.Goes r 1) (zone h w c t m) ≡ Begun
  unfolding way_by
  own_goes u r = went fuel 0 _ _ own_told (some_fuel l) (rw (u, r) refl)

  pub own_stands : {v : Fault} → x ≡ Err v → went_to step fuel (Way.Goes (Record.Get cpu (Taking.Own q)) 0) (zone h w c t m) ≡ Begun
  own_stands {v} u = still fuel 0 _ _ own_told (rw u (fault_refused v))

-- ---- where a count from a up to b ends

pub counted_to : (a b n : ℕ) → (a ≤ b → n ≤ b) → (b ≤ a → n ≡ a) → b ≤ n → max a b ≡ n
counted_to a b n p q l = elim (dec_lt a b) [
  | yes h ↦ let m = p (omega arith) in max-eq_right (omega arith) ∙ omega arith
  | no h ↦ max-eq_left (omega arith) ∙ sym (q (omega arith))
]
