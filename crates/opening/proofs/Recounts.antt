-- Runs of open: the recount in one loop, where each child is a step, and the steps that are left.
use mathlib.Core.Path.{◌≡◌, refl, sym, ap, ◌∙◌}
use mathlib.Core.List.{List}
use Prim.Native.Nat.{ℕ, ◌+◌, ◌-◌, ◌*◌, ◌≤◌, ◌<◌}
use native.Mathlib.Omega.{arith}
use native.Mathlib.Nat.{sub-zero}
use lib.ListN.{length}
use Rattle.std.specs.Prelude.{Result, Ok, Err}
use Rattle.laws.specs.Tests.{Passes}
use Rattle.laws.specs.Tables.{outcome}
use Rattle.laws.proofs.Tests.{passes_of}
use Rattle.rules.specs.Numbers.{child_words}
use Rattle.rules.specs.Conversions.{huge, tree}
use Rattle.rules.specs.Zone.{Zone}
use Rattle.rules.specs.Answers.{answer_of}
use Rattle.rules.specs.Ranges.{opening_in}
use Rattle.rules.specs.Open.{opening, open_step}
use Rattle.rules.specs.Step.{Ran, follow}
use Rattle.lower.specs.Steps.{recount_in}
use Rattle.entries.specs.Sizes.{huge_of}
use Rattle.places.specs.Shapes.{shape_of}
use Rattle.calls.specs.declared.Ended.{Ended}
use Rattle.calls.specs.declared.Way.{Way}
use Rattle.calls.specs.Results.{zone, result_of, done, ran_to, checked, way_of, went_to, WentOn}
use Rattle.calls.proofs.Opened.{checked_in, checked_open}
use Rattle.calls.proofs.Runs.{stepped, way_goes}
use Rattle.opening.specs.Types.{Fault, Opening, Record, Answer, Shape}
use Rattle.opening.specs.Opens.{open_at}
use Rattle.opening.proofs.Stages.{child_zone, child_fails, child_next, child_last, children_ready, children_aside}
use Rattle.opening.proofs.Steps.{step_acts}

module _ (h w t p : List ℕ) (fuel : ℕ) where
  -- a run with the children c that stands at child i after k steps
  abbrev pub at_child_lem : List ℕ → ℕ → ℕ → Ran
  at_child_lem c i k = follow open_step (fuel - k) k (opening (Opening.Children (huge i))) (zone h w c t p)

  -- child i is recounted, and the children are m afterwards; the checks were made on j children
  module _ (s : Shape) (j : ℕ) (c m : List ℕ) (i k : ℕ) (e : checked h (length w) j (length t) (length p) ≡ Ok s) (l : length c ≡ j) {n : ℕ} (b : n ≡ huge_of s.size) (d : i < n) (f : k < fuel) {x : Result Unit Fault} (o : outcome x m ≡ recount_in c w i) where
    abbrev stage : Opening
    stage = Opening.Children (huge i)

    -- a run that goes on so from child i
    abbrev Ends : Way → Type 0
    Ends y = went_to open_step fuel y (zone h w m t p) ≡ at_child_lem c i k

    checks : checked_in h w c t p ≡ Ok s
    checks = ap (λ a. checked h (length w) a (length t) (length p)) l ∙ e

    in_range : Passes (opening_in (shape_of s) stage)
    unfolding opening_in
    in_range = (omega (arith, b, d), tt)

    ready : (child_words * huge_of s.size ≡ length w) × (huge_of s.size ≡ length c) × (i < huge_of s.size)
    ready = children_ready (checked_open h w c t p checks).2 stage in_range refl

    module _ {a : Answer} (r : result_of a (child_zone w m) ≡ done (child_zone w c) (open_at (shape_of s) (child_zone w c) stage)) where
      child_step : result_of a (zone h w m t p) ≡ done (zone h w c t p) (open_step (zone h w c t p) (Record.Open stage))
      child_step = step_acts h w c t p (Record.Open stage) checks refl refl (passes_of (opening_in (shape_of s) stage) in_range) (children_aside w c t p s refl r)

      child_goes : follow open_step (fuel - (k + 1)) (k + 1) a (zone h w m t p) ≡ at_child_lem c i k
      child_goes = sym (stepped open_step fuel k (zone h w c t p) (Record.Open stage) f child_step refl)

      child_way : {y : Way} → y ≡ way_of a (k + 1) → Ends y
      child_way q = ap (λ y. went_to open_step fuel y (zone h w m t p)) q ∙ way_goes open_step fuel (k + 1) a (zone h w m t p) ∙ child_goes

    pub fails_ends : {f : Fault} {a : Answer} {y : Way} → x ≡ Err f → a ≡ answer_of f → y ≡ way_of a (k + 1) → Ends y
    fails_ends g a q = child_way (child_fails s (huge i) w c m ready o g a) q

    pub goes_on_lem : x ≡ Ok tt → i + 1 < n → at_child_lem m (i + 1) (k + 1) ≡ at_child_lem c i k
    goes_on_lem g u = child_goes (child_next s (huge i) w c m ready o g b u refl)

    pub goes_to_trees : x ≡ Ok tt → n ≤ i + 1 → follow open_step (fuel - (k + 1)) (k + 1) (opening (Opening.Trees (tree 0))) (zone h w m t p) ≡ at_child_lem c i k
    goes_to_trees g u = child_goes (child_last s (huge i) w c m ready o g b u refl)

-- the run of a record that is x
pub of_record : (fuel : ℕ) (z : Zone) {r x : Record} {u : Ran} → r ≡ x → u ≡ follow open_step (fuel - 0) 0 (Answer.UnderWay x) z → u ≡ follow open_step (fuel - 0) 0 (Answer.UnderWay r) z
of_record fuel z q o = o ∙ sym (ap (λ y. follow open_step (fuel - 0) 0 (Answer.UnderWay y) z) q)

-- ---- a run of n steps at most that went on so from its first step: it has ended, or the steps that are left end it
module _ (fuel : ℕ) (r : Record) (y : Way) (z' z : Zone) {n : ℕ} (e : fuel ≡ n) (o : WentOn open_step fuel 0 r y z' z) where
  from_first : {x : Way} → y ≡ x → went_to open_step fuel x z' ≡ follow open_step n 0 (Answer.UnderWay r) z
  from_first q = sym (ap (λ x. went_to open_step fuel x z') q) ∙ o ∙ ap (λ i. follow open_step i 0 (Answer.UnderWay r) z) (sub-zero fuel ∙ e)

  pub run_ended : {x : Ended} → y ≡ Way.Ends x → ran_to x z' ≡ follow open_step n 0 (Answer.UnderWay r) z
  unfolding went_to
  run_ended q = from_first q

  pub run_went_on : {x : Record} {k : ℕ} {u : Ran} → y ≡ Way.Goes x k → u ≡ follow open_step (fuel - k) k (Answer.UnderWay x) z' → u ≡ follow open_step n 0 (Answer.UnderWay r) z
  unfolding went_to
  run_went_on q d = d ∙ from_first q
