-- A step of a get or put on an open zone.
use mathlib.Core.Path.{◌≡◌, refl, sym, ap, ◌∙◌}
use mathlib.Core.Bool.{Bool, true, false, not}
use mathlib.Core.List.{List, [], ◌∷◌}
use Prim.Native.Nat.{ℕ, ◌≤◌, ◌<◌}
use Rattle.std.specs.Prelude.{Ok, Err}
use native.Mathlib.Omega.{arith}
use Rattle.laws.specs.Tests.{Check, ◌below◌, passes, Passes}
use Rattle.laws.proofs.Tests.{true_false, all_passed, passes_of, fails_of}
use Rattle.rules.specs.Numbers.{format1, Shape as Rules}
use Rattle.rules.specs.Zone.{Zone, stored, shape_of}
use Rattle.rules.specs.Plan.{Step, no_entry, cpu_entry, tree_entry, child_entry, word_entry, carried, guarded}
use Rattle.rules.specs.Checks.{unless}
use Rattle.rules.specs.Ranges.{step_range}
use Rattle.rules.specs.Step.{act, step}
use Rattle.rules.proofs.Guards.{stores}
use Rattle.rules.proofs.Ways.{allowed}
use Rattle.places.specs.Shapes as Shapes
use Rattle.upper.specs.Types.{Record, Answer, Shape}
use Rattle.calls.specs.Results.{zone, Result, result_of, done}
use Rattle.calls.proofs.Opened.{stores_nothing, stands, passed_by, checked_in, checked_refused, checked_open}

-- ---- the header stands aside: no stage reads it and none stores it
module _ (h w c t p : List ℕ) (g : Rules) where
  abbrev with_header : Result → Result
  with_header r = result_of r.answer (zone h r.zone.words r.zone.children r.zone.trees r.zone.cpus)

  header_unread : (st : Step) → carried g (zone [] w c t p) st ≡ carried g (zone h w c t p) st
  unfolding carried
  header_unread (no_entry a) = refl
  header_unread (cpu_entry j a f) = refl
  header_unread (tree_entry u f) = refl
  header_unread (child_entry u i f) = refl
  header_unread (word_entry u i f) = refl

  header_kept : (st : Step) → with_header (done (zone [] w c t p) (carried g (zone h w c t p) st)) ≡ done (zone h w c t p) (carried g (zone h w c t p) st)
  unfolding stored
  header_kept st = stores g (zone h w c t p) (λ x. with_header (result_of (carried g (zone h w c t p) st).answer (stored format1 (zone [] w c t p) x)) ≡ result_of (carried g (zone h w c t p) st).answer (stored format1 (zone h w c t p) x))
      refl st (λ j e. refl) (λ i r k. refl) (λ i v. refl) (λ i v. refl)

  pub header_aside : (st : Step) {a : Answer} {w' c' t' p' : List ℕ} → result_of a (zone [] w' c' t' p') ≡ done (zone [] w c t p) (carried g (zone [] w c t p) st)
      → result_of a (zone h w' c' t' p') ≡ done (zone h w c t p) (carried g (zone h w c t p) st)
  header_aside st e = ap with_header e ∙ ap (λ q. with_header (done (zone [] w c t p) q)) (header_unread st) ∙ header_kept st

-- ---- a step
module _ (h w c t p : List ℕ) (r : Record) where
  abbrev z : Zone
  z = zone h w c t p

  pub step_refused : {a : Answer} → checked_in h w c t p ≡ Err a → result_of a z ≡ done z (step z r)
  unfolding step
  step_refused e = stores_nothing z (checked_refused h w c t p e (unless (step_range (shape_of z) r) Answer.BadRecord ∷ []) (carried (shape_of z) z (act (shape_of z) r)))

  module _ {s : Shape} (e : checked_in h w c t p ≡ Ok s) {x : Record} (q : r ≡ x) where
    abbrev g : Rules
    g = Shapes.shape_of s

    step_open : step z r ≡ guarded (unless (step_range g x) Answer.BadRecord ∷ []) (carried g z (act g x))
    unfolding step
    step_open =
        let k = checked_open h w c t p e in
        k.1 (unless (step_range (shape_of z) r) Answer.BadRecord ∷ []) (carried (shape_of z) z (act (shape_of z) r))
        ∙ (ap (λ (i : Rules). guarded (unless (step_range i r) Answer.BadRecord ∷ []) (carried i z (act i r))) k.0
        ∙ ap (λ (y : Record). guarded (unless (step_range g y) Answer.BadRecord ∷ []) (carried g z (act g y))) q)

    pub step_out : passes (step_range g x) ≡ false → result_of Answer.BadRecord z ≡ done z (step z r)
    step_out b = stores_nothing z (step_open ∙ stands (unless (step_range g x) Answer.BadRecord) [] (carried g z (act g x)) (ap not b))

    pub step_acts : Passes (step_range g x) → {a : Answer} {w' c' t' p' : List ℕ} → result_of a (zone [] w' c' t' p') ≡ done (zone [] w c t p) (carried g (zone [] w c t p) (act g x)) → result_of a (zone h w' c' t' p') ≡ done z (step z r)
    unfolding guarded
    step_acts b d = header_aside h w c t p g (act g x) d ∙ sym (ap (done z) (step_open ∙ passed_by (unless (step_range g x) Answer.BadRecord) [] (carried g z (act g x)) (allowed (step_range g x) b)))

-- a get's or put's record: its CPU of n, then its stage's numbers
module _ (n cpu : ℕ) (l : List Check) where
  pub cpu_out : n ≤ cpu → passes (cpu below n ∷ l) ≡ false
  cpu_out b = fails_of (cpu below n ∷ l) (λ k. omega (arith, k.0))

  pub stage_out : {t : Bool} → t ≡ passes l → t ≡ false → passes (cpu below n ∷ l) ≡ false
  stage_out e b = fails_of (cpu below n ∷ l) (λ k. true_false (sym (passes_of l k.1) ∙ (sym e ∙ b)))

  pub all_in : cpu < n → {t : Bool} → t ≡ passes l → t ≡ true → Passes (cpu below n ∷ l)
  all_in b e k = (b, all_passed l (sym e ∙ k))
