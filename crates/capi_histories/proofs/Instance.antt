-- The instance, by computation from the fresh zone.
use mathlib.Core.Path.{◌≡◌, refl, sym, ap, ◌∙◌, subst}
use mathlib.Core.List.{[], ◌∷◌}
use Prim.Native.Nat.{ℕ, ◌+◌, ◌*◌, ◌^◌}
use native.Mathlib.Omega.{arith}
use lib.ListN.{length}
use Rattle.laws.specs.Sum.{upd}
use Rattle.rules.specs.Zone.{Zone}
use Rattle.rules.specs.Fresh.{fresh, listed, Fitting}
use Rattle.rules.specs.Events as Events
use Rattle.rules.specs.Events.{Cpu, State, get, step_of, planned, answered_by, call, next, started, start, then}
use Rattle.rules.specs.Exhibit.{begins}
use Rattle.rules.proofs.Computed.{by_computation}
use Rattle.rules.proofs.Fresh.{runs}
use Rattle.records.specs.Layout.{pass_spot}
use Rattle.records.specs.Encoding.{fields_of, taking_fields, encode}
use Rattle.rules.specs.Bounds.{zone_shape}
use Rattle.capi_histories.specs.Driven.{words, latest_of, does, begun, Instance}

abbrev first : State
first = started (fresh (zone_shape 1 2))

-- what create leaves is the fresh zone
begins_first : (z : Zone) → Fitting 1 z → length z.cpus ≡ 2 → begins 1 z ≡ first
begins_first z h e = ap started ((runs.create 1 z h).zone ∙ ap (λ c. fresh (zone_shape 1 c)) e)

-- CPU 0's get has begun
abbrev got : State → State
got s = next s (call (get 0 0))

-- every definition on the way of the step and its two words
unfoldable by_words : Unit {0}
unfolding by_computation next answered_by planned upd fresh listed encode fields_of taking_fields pass_spot
by_words = tt

first_called : Events.Called (got first) (step_of 0)
unfolding by_words
first_called = (refl, λ q. let b = ap (λ (c : Cpu). c.begun) q in let k : ◌≡◌ {A = ℕ} 0 1 = cc in omega arith)

first_lent : words ((got first).cpus 0).latest ≡ 2 ^ 56 ∷ 0 ∷ []
unfolding by_words
first_lent = refl

first_says : (does (got first) (step_of 0) (latest_of 0)).said ≡ record { number = 1; frame = 0 }
unfolding by_words
first_says = refl

first_left : (does (got first) (step_of 0) (latest_of 0)).rec ≡ (8 * 2 ^ 56 + 3 * 2 ^ 32) ∷ 0 ∷ []
unfolding by_words
first_left = refl

pub shown : (z : Zone) → Fitting 1 z → length z.cpus ≡ 2 → Instance (begun z)
shown z h e =
    let b : first ≡ begins 1 z = sym (begins_first z h e) in
    record {
      reached = then (call (get 0 0)) (start z h) (refl, refl);
      called = subst (λ s. Events.Called (got s) (step_of 0)) b first_called;
      lent = subst (λ s. words ((got s).cpus 0).latest ≡ 2 ^ 56 ∷ 0 ∷ []) b first_lent;
      says = subst (λ s. (does (got s) (step_of 0) (latest_of 0)).said ≡ record { number = 1; frame = 0 }) b first_says;
      left = subst (λ s. (does (got s) (step_of 0) (latest_of 0)).rec ≡ (8 * 2 ^ 56 + 3 * 2 ^ 32) ∷ 0 ∷ []) b first_left;
    }
