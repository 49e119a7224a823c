-- A plan that nothing refuses, and a run of an operation alone, by the steps that are left to it.
use mathlib.Core.Path.{◌≡◌, refl, ap, ◌∙◌}
use mathlib.Core.Bool.{false, not}
use mathlib.Core.List.{List, [], ◌∷◌}
use Prim.Native.Nat.{ℕ, zero, suc, ◌+◌, ◌-◌, ◌<◌, min}
use native.Mathlib.Nat.{sub-zero, zero-sub, suc-sub-suc}
use native.Mathlib.Omega.{arith}
use lib.Dec.{ltb}
use borrow.Author.Tests.{ltb-true, ltb-false}
use Rattle.laws.specs.Tests.{pick, Check, passes, Passes}
use Rattle.laws.proofs.Tests.{pick_elim, pick_no, passes_of}
use Rattle.rules.specs.Types.{Record, Answer}
use Rattle.rules.specs.Zone.{Zone}
use Rattle.rules.specs.Plan.{Plan, Refusal, guarded}
use Rattle.rules.specs.Step.{after, follow}
use Rattle.rules.specs.Create.{done}
use Rattle.rules.proofs.Guards.{NoRefusal}

pub guarded_none : (l : List Refusal) (p : Plan) → NoRefusal l → guarded l p ≡ p
unfolding guarded
guarded_none [] p h = refl
guarded_none (x ∷ l) p h = pick_no x.test _ _ h.0 ∙ guarded_none l p h.1

-- checks that have passed refuse nothing
pub allowed : (l : List Check) → Passes l → not (passes l) ≡ false
allowed l h = ap not (passes_of l h)

-- after entry i of a table of n: the next entry, or the next table
pub onward : {A : Type 0} (Q : A → Type 0) (i n : ℕ) {x y : A} → i < n → (suc i < n → Q x) → (suc i ≡ n → Q y) → Q (pick (ltb (suc i) n) x y)
onward Q i n h f k = pick_elim Q (ltb (suc i) n) (λ b. f (ltb-true (suc i) n b)) (λ b. let e = ltb-false (suc i) n b in k (omega arith))

-- an operation of stages s: At d s z where d steps are left at the tables z, End z after the last
module _ {S : Type 0} (rec : S → Record) (At : ℕ → S → Zone → Type 0) (End : Zone → Type 0) where
  abbrev pub Way : ℕ → Answer → Zone → Type 0
  Way zero a z = (a ≡ done) × End z
  Way (suc d) a z = (s : S) × (a ≡ Answer.UnderWay (rec s)) × At (suc d) s z

  pub goes : (d : ℕ) (s : S) (z : Zone) → 0 < d → At d s z → Way d (Answer.UnderWay (rec s)) z
  goes zero s z h k = absurd (omega arith)
  goes (suc d) s z h k = (s, refl, k)

  pub over : (d : ℕ) (z : Zone) → d ≡ 0 → End z → Way d done z
  over d z e h = rw e (refl, h)

  -- a step of each stage leaves one less: so does a run, whatever its fuel
  pub way : (f : Zone → Record → Plan) → ((d : ℕ) (s : S) (z : Zone) → At (suc d) s z → Way d (f z (rec s)).answer (after z (f z (rec s))))
      → (fuel d k : ℕ) (a : Answer) (z : Zone) → Way d a z → Way (d - fuel) (follow f fuel k a z).answer (follow f fuel k a z).zone × ((follow f fuel k a z).steps ≡ k + min d fuel)
  unfolding follow
  way f next zero d k a z h = (rw (sub-zero d) h, omega arith)
  way f next (suc fuel) zero k a z h = rw (h.0, zero-sub (suc fuel)) ((refl, h.1), omega arith)
  way f next (suc fuel) (suc d) k a z h =
      let ih = way f next fuel d (suc k) _ _ (next d h.0 z h.2) in
      rw (h.1, suc-sub-suc d fuel) (ih.0, omega (arith, ih.1))
