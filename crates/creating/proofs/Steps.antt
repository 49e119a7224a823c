-- The steps of create: the first, and each later one.
use mathlib.Core.Path.{◌≡◌, sym, ap, ◌∙◌}
use mathlib.Core.Bool.{Bool, true, false, not}
use mathlib.Core.List.{List, [], ◌∷◌}
use Prim.Native.Nat.{ℕ}
use native.Mathlib.Omega.{arith}
use lib.ListN.{length, set}
use Rattle.std.specs.Prelude.{Result as OkOr, Ok, Err}
use Rattle.laws.specs.Tests.{passes, Passes}
use Rattle.laws.specs.Tables.{Outcome, outcome}
use Rattle.laws.proofs.Tests.{all_passed}
use Rattle.rules.specs.Numbers.{Shape as Rules}
use Rattle.rules.specs.Zone.{Zone, shaped, Store, stored}
use Rattle.rules.specs.Plan.{Plan, says, guarded}
use Rattle.rules.specs.Checks.{unless}
use Rattle.rules.specs.Ranges.{creating_in, create_range}
use Rattle.rules.specs.Create.{creating, create_zone, create_act, create_step}
use Rattle.rules.proofs.Ways.{allowed}
use Rattle.entries.specs.Steps.{stored_in}
use Rattle.places.specs.Shapes.{shape_of}
use Rattle.calls.specs.Results.{zone, Result, result_of, done, Fits}
use Rattle.calls.proofs.Opened.{stores_nothing, stands, passed_by}
use Rattle.calls.proofs.Stored.{entry_stored, stored_said}
use Rattle.creating.specs.Types.{Fault, Answer, Creating, Record, Shape}
use Rattle.creating.specs.Creates.{creatable_in}
use Rattle.creating.proofs.Checked.{creatable_by, creatable_ready, creatable_refused, creatable_zone}

-- what a stage in range may take as given; h is the header slice's length
pub stage_ready : (n h : ℕ) (w c t p : List ℕ) {s : Shape} → creatable_in n h (length w) (length c) (length t) (length p) ≡ Ok s → (stage : Creating) {b : Bool} → b ≡ passes (creating_in (shape_of s) stage) → b ≡ true → (h ≡ 1) × Fits s w c t p × Passes (creating_in (shape_of s) stage)
stage_ready n h w c t p {s} e stage d b = let k = creatable_ready n h w c t p e in (k.0, k.1, all_passed (creating_in (shape_of s) stage) (sym d ∙ b))

module _ (n : ℕ) (h w c t p : List ℕ) where
  abbrev z : Zone
  z = zone h w c t p

  -- ---- the first step

  abbrev begun : Plan
  begun = says (Store.header 0) (creating (Creating.Words 0))

  pub create_refused : {a : Answer} → creatable_by n h w c t p ≡ Err a → result_of a z ≡ done z (create_zone n z)
  unfolding create_zone
  create_refused e = stores_nothing z (creatable_refused n h w c t p e [] begun)

  module _ {s : Shape} (e : creatable_by n h w c t p ≡ Ok s) (m : List ℕ) {x : OkOr Unit Fault} (o : outcome x m ≡ stored_in 0 0 h) where
    unborn : outcome x m ≡ outcome (Ok tt) (set h 0 0)
    unborn = o ∙ entry_stored 0 h (omega (arith, (creatable_ready n (length h) w c t p e).0)) 0

    pub create_none : {r : Answer} {f : Fault} → x ≡ Err f → result_of r (zone m w c t p) ≡ done z (create_zone n z)
    create_none q = stored_said unborn q

    pub create_begun : {r : Answer} → r ≡ creating (Creating.Words 0) → result_of r (zone m w c t p) ≡ done z (create_zone n z)
    unfolding create_zone guarded stored
    create_begun {r} q = ap (λ (v : Outcome (OkOr Unit Fault)). result_of r (zone v.table w c t p)) unborn ∙ (ap (λ a. result_of a (zone (set h 0 0) w c t p)) q ∙ sym (ap (done z) ((creatable_zone n h w c t p e).1 [] begun)))

  -- ---- a later step
  module _ (r : Record) where
    pub step_refused : {a : Answer} → creatable_by n h w c t p ≡ Err a → result_of a z ≡ done z (create_step n z r)
    unfolding create_step
    step_refused e = stores_nothing z (creatable_refused n h w c t p e (unless (create_range (shaped n z) r) Answer.BadRecord ∷ []) (create_act (shaped n z) r))

    module _ {s : Shape} (e : creatable_by n h w c t p ≡ Ok s) {x : Record} (q : r ≡ x) where
      abbrev g : Rules
      g = shape_of s

      step_open : create_step n z r ≡ guarded (unless (create_range g x) Answer.BadRecord ∷ []) (create_act g x)
      unfolding create_step
      step_open =
          let k = creatable_zone n h w c t p e in
          k.1 (unless (create_range (shaped n z) r) Answer.BadRecord ∷ []) (create_act (shaped n z) r)
          ∙ (ap (λ (i : Rules). guarded (unless (create_range i r) Answer.BadRecord ∷ []) (create_act i r)) k.0
          ∙ ap (λ (y : Record). guarded (unless (create_range g y) Answer.BadRecord ∷ []) (create_act g y)) q)

      pub step_out : passes (create_range g x) ≡ false → result_of Answer.BadRecord z ≡ done z (create_step n z r)
      step_out b = stores_nothing z (step_open ∙ stands (unless (create_range g x) Answer.BadRecord) [] (create_act g x) (ap not b))

      pub step_acts : Passes (create_range g x) → {a : Answer} {z' : Zone} → result_of a z' ≡ done z (create_act g x) → result_of a z' ≡ done z (create_step n z r)
      unfolding guarded
      step_acts b d = d ∙ sym (ap (done z) (step_open ∙ passed_by (unless (create_range g x) Answer.BadRecord) [] (create_act g x) (allowed (create_range g x) b)))

-- a later step of so many huge frames, known by an equation
pub with_huge : {n m : ℕ} {o : Result} → n ≡ m → (z : Zone) (r : Record) → o ≡ done z (create_step n z r) → o ≡ done z (create_step m z r)
with_huge e z r q = q ∙ ap (λ n. done z (create_step n z r)) e
