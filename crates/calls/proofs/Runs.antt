-- A run of steps, of any operation: what the next record tells of the answer, one step more, and a run whose steps are calls of a closure.
use mathlib.Core.Path.{◌≡◌, refl, sym, ap, subst, ◌∙◌}
use mathlib.Core.List.{List}
use Prim.Native.Nat.{ℕ, zero, suc, ◌+◌, ◌-◌, ◌≤◌, ◌<◌}
use native.Mathlib.Nat.{sub-zero}
use native.Mathlib.Omega.{arith}
use native.Mathlib.Numerals.{add-one}
use Rattle.std.specs.Prelude.{Option, Some, None}
use Rattle.rules.specs.Zone.{Zone}
use Rattle.rules.specs.Plan.{Plan}
use Rattle.rules.specs.Answers.{number, Next, ends, goes_on, next_of, by_next}
use Rattle.rules.specs.Step.{Ran, ran, follow}
use Rattle.rules.proofs.Histories.{answer_elim}
use Rattle.calls.specs.Types.{Record, Answer, Ended}
use Rattle.calls.specs.Results.{zone, Result, result_of, done, ran_to, next_in, way_by, way_of, went_to}
use Rattle.calls.specs.Runs.{Runs}

-- what the next record tells of the answer
abbrev pub NextTells : Answer → Option Record → Type 0
NextTells a (Some x) = a ≡ Answer.UnderWay x
NextTells a None = next_of a ≡ ends

pub next_tells : (a : Answer) → NextTells a (next_in a)
next_tells a = answer_elim (NextTells a) a (λ b. None) Some None (λ b q. ap next_of q) (λ r q. q) ended
  where
    ended : 2 ≤ number a → next_of a ≡ ends
    ended l = answer_elim (λ x. x ≡ ends) a (λ b. ends) goes_on ends (λ b q. refl) (λ r q. let n : number a ≡ 1 = ap number q in absurd (omega arith)) (λ k. refl)

-- an answer that is not under way ends the operation
pub ended_at : (a : Answer) → ((x : Record) → a ≡ Answer.UnderWay x → ⊥) → next_of a ≡ ends
ended_at a q = by_told (next_in a) (next_tells a)
  where
    by_told : (n : Option Record) → NextTells a n → next_of a ≡ ends
    by_told None e = e
    by_told (Some x) e = absurd (q x e)

-- an answer that ends the operation is the run's
pub follow_ended : (f : Zone → Record → Plan) (n k : ℕ) (a : Answer) (z : Zone) → next_of a ≡ ends → follow f n k a z ≡ ran a k z
unfolding follow
follow_ended f zero k a z e = refl
follow_ended f (suc n) k a z e = rw e

-- one step more
module _ (f : Zone → Record → Plan) (fuel k : ℕ) (z : Zone) (r : Record) {a : Answer} {z' : Zone} {m : Option Record} (h : k < fuel) (e : result_of a z' ≡ done z (f z r)) (n : m ≡ next_in a) where
  pub stepped : follow f (fuel - k) k (Answer.UnderWay r) z ≡ follow f (fuel - (k + 1)) (k + 1) a z'
  unfolding follow
  stepped =
      let d : fuel - k ≡ suc (fuel - (k + 1)) = omega arith in
      rw (d, add-one) (ap (λ (o : Result). follow f (fuel - suc k) (suc k) o.answer o.zone) (sym e))

-- a run that goes on as an answer says
module _ (f : Zone → Record → Plan) (fuel k : ℕ) (a : Answer) (z : Zone) where
  by_next_lem : (n : Option Record) → NextTells a n → went_to f fuel (way_by a k n) z ≡ follow f (fuel - k) k a z
  unfolding went_to way_by
  by_next_lem None e = sym (follow_ended f (fuel - k) k a z e)
  by_next_lem (Some r) e = ap (λ y. follow f (fuel - k) k y z) (sym e)

  pub way_goes : went_to f fuel (way_of a k) z ≡ follow f (fuel - k) k a z
  way_goes = by_next_lem (next_in a) (next_tells a)

-- the tables as a run leaves them, each known by an equation
pub handed_back : {e : Ended} {h h' w w' c c' t t' p p' : List ℕ} {o : Ran} → ran_to e (zone h' w' c' t' p') ≡ o → h ≡ h' → w ≡ w' → c ≡ c' → t ≡ t' → p ≡ p' → ran_to e (zone h w c t p) ≡ o
handed_back e i j k l m = rw (i, j, k, l, m) e

-- a run from its first step on
pub from_first : (f : Zone → Record → Plan) (a : Answer) (z : Zone) {n m : ℕ} {o : Ran} → n ≡ m → o ≡ follow f (n - 0) 0 a z → o ≡ follow f m 0 a z
from_first f a z e q = q ∙ ap (λ i. follow f i 0 a z) (sub-zero _ ∙ e)

-- ---- a run whose steps are calls of a closure

module _ {F : Type 0} (R : F → Record → Answer → F → Type 0) where
  -- an answer that is not under way is the run's
  pub call_ends : (n k : ℕ) (a : Answer) (f : F) → ((x : Record) → a ≡ Answer.UnderWay x → ⊥) → Runs R n k a f (record { answer = a; steps = k }) f
  call_ends zero k a f q = (refl, refl)
  call_ends (suc n) k a f q = rw (ended_at a q) (refl, refl)

  -- one call, and the run after it
  module _ (fuel k : ℕ) (r : Record) {f h : F} {a b : Answer} (l : k < fuel) (q : a ≡ Answer.UnderWay r) (c : R f r b h) where
    pub call_goes : (e : Ended) (g : F) → Runs R (fuel - (k + 1)) (k + 1) b h e g → Runs R (fuel - k) k a f e g
    call_goes e g x =
        let d : fuel - k ≡ suc (fuel - (k + 1)) = omega arith in
        rw (q, d) (b, h, c, subst (λ j. Runs R (fuel - (k + 1)) j b h e g) (add-one _) x)

-- n steps after k, from the zone as it stands
abbrev after_lem : (Zone → Record → Plan) → ℕ → ℕ → Result → Ran
after_lem p n k o = follow p n k o.answer o.zone

module _ {F : Type 0} (R : F → Record → Answer → F → Type 0) (T : F → Zone) (K : F → Type 0) (p : Zone → Record → Plan) where
  -- while K holds, a call makes the step that p plans for the tables T
  abbrev pub Makes : Type 0
  Makes = (f : F) (r : Record) (b : Answer) (h : F) → K f → R f r b h → (result_of b (T h) ≡ done (T f) (p (T f) r)) × K h

  module _ (made : Makes) where
    one_more : (n k : ℕ) (a : Answer) (f : F) (e : Ended) (g : F) (x : Next) → K f → ((b : Answer) (h : F) → K h → Runs R n (suc k) b h e g → (ran_to e (T g) ≡ follow p n (suc k) b (T h)) × K g) → by_next x ((e ≡ record { answer = a; steps = k }) × (g ≡ f)) (λ r. (b : Answer) × (h : F) × R f r b h × Runs R n (suc k) b h e g) → (ran_to e (T g) ≡ by_next x (ran a k (T f)) (λ r. after_lem p n (suc k) (done (T f) (p (T f) r)))) × K g
    one_more n k a f e g ends i t m = (rw (m.0, m.1) refl, rw m.1 i)
    one_more n k a f e g (goes_on r) i t (b, h, m, l) =
        let c : _ = made f r b h i m in
        let j : _ = t b h c.1 l in
        (j.0 ∙ ap (after_lem p n (suc k)) c.0, j.1)

    follow_lem : (n k : ℕ) (a : Answer) (f : F) (e : Ended) (g : F) → K f → Runs R n k a f e g → (ran_to e (T g) ≡ follow p n k a (T f)) × K g
    unfolding follow
    follow_lem zero k a f e g i m = (rw (m.0, m.1) refl, rw m.1 i)
    follow_lem (suc n) k a f e g i m = one_more n k a f e g (next_of a) i (λ b h j l. follow_lem n (suc k) b h e g j l) m

-- a run of calls that make the steps that p plans for a closure's tables T, and keep what K says of the first closure and a later one
pub calls_follow : {F : Type 0} (R : F → Record → Answer → F → Type 0) (n k : ℕ) (a : Answer) (f : F) (e : Ended) (g : F) → Runs R n k a f e g → (T : F → Zone) (K : F → F → Type 0) (p : Zone → Record → Plan) → K f f → Makes R T (K f) p → (ran_to e (T g) ≡ follow p n k a (T f)) × K f g
calls_follow R n k a f e g m T K p i h = follow_lem R T (K f) p h n k a f e g i m
