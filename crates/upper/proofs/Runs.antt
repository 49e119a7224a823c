-- A run of a get or put on an open zone, one step on.
use mathlib.Core.Path.{◌≡◌, refl, sym, ap, subst, ◌∙◌}
use mathlib.Core.List.{List}
use Prim.Native.Nat.{ℕ, ◌+◌, ◌-◌, ◌≤◌, ◌<◌}
use lib.ListN.{length}
use Rattle.rules.specs.Zone.{Zone, stored}
use Rattle.rules.specs.Answers.{number}
use Rattle.rules.specs.Step.{step, follow}
use Rattle.rules.proofs.Refusals.{refusals}
use Rattle.calls.specs.declared.Way.{Way}
use Rattle.calls.specs.Results.{Result, result_of, done, way_of, went_to, Opened}
use Rattle.calls.proofs.Runs.{stepped, way_goes}
use Rattle.upper.specs.Types.{Record, Answer, Shape}

-- tables of the same lengths are an open zone's too
pub still_open : {s : Shape} {cpu : ℕ} {h w c t p w' c' t' p' : List ℕ} → Opened s cpu h w c t p → length w' ≡ length w → length c' ≡ length c → length t' ≡ length t → length p' ≡ length p → Opened s cpu h w' c' t' p'
still_open o i j k l = record { checks = rw (i, j, k, l) o.checks; cpu_is_in = o.cpu_is_in }

-- the step of record r in zone z answers a and leaves the zone z'
abbrev pub Makes : Zone → Record → Answer → Zone → Type 0
Makes z r a z' = result_of a z' ≡ done z (step z r)

module _ (fuel k : ℕ) (r : Record) (z : Zone) {z' : Zone} {a : Answer} (e : Makes z r a z') where
  -- a refusal leaves the zone as it was
  pub stays : 2 ≤ number a → z' ≡ z
  unfolding stored
  stays n = ap (λ (y : Result). y.zone) e ∙ ap (stored _ z) ((refusals.step z r).quiet (subst (λ x. 2 ≤ number x) (ap (λ (y : Result). y.answer) e) n))

  -- the run stands still before a stage that is refused
  pub still : 2 ≤ number a → went_to step fuel (Way.Goes r k) z' ≡ follow step (fuel - k) k (Answer.UnderWay r) z
  unfolding went_to
  still n = ap (λ y. follow step (fuel - k) k (Answer.UnderWay r) y) (stays n)

  module _ (l : k < fuel) where
    -- it goes on as the step's answer says
    pub went : {y : Way} → y ≡ way_of a (k + 1) → went_to step fuel y z' ≡ follow step (fuel - k) k (Answer.UnderWay r) z
    went q = ap (λ x. went_to step fuel x z') q ∙ (way_goes step fuel (k + 1) a z' ∙ sym (stepped step fuel k z r l e refl))

    -- it stands at the answer's record
    pub goes : {b : Answer} → a ≡ b → follow step (fuel - (k + 1)) (k + 1) b z' ≡ follow step (fuel - k) k (Answer.UnderWay r) z
    goes q = ap (λ b. follow step (fuel - (k + 1)) (k + 1) b z') (sym q) ∙ sym (stepped step fuel k z r l e refl)
