-- A list of refusals and a list of rules that say the same: the call answers the first number whose rule holds, and a refusal stores nothing.
use mathlib.Core.Path.{◌≡◌, refl, sym, ◌∙◌}
use mathlib.Core.Logic.{◌⊎◌, inl, inr}
use mathlib.Core.Bool.{Bool, true, false, not, ◌&&◌}
use mathlib.Core.List.{List, [], ◌∷◌, ◌++◌}
use Prim.Native.Nat.{ℕ, ◌≤◌, ◌<◌}
use native.Mathlib.Omega.{arith}
use lib.Dec.{leb, eqb}
use borrow.Author.Tests.{not-true, not-false, leb-true, leb-false, eqb-true, eqb-false}
use Rattle.laws.specs.Tests.{every, Check, Passed, passes, Passes}
use Rattle.laws.proofs.Tests.{pick_elim, true_false, all_passed, passes_of, passes_left, passes_right, passes_both, every_at, every_not}
use Rattle.rules.specs.Answers.{number}
use Rattle.rules.specs.Plan.{Plan, Refusal, guarded}
use Rattle.rules.specs.Refusals.{Rule, First, Quiet}
use Rattle.rules.proofs.Guards.{NoRefusal}

-- a test that decides a fact
pub record Decides (b : Bool) (P : Type 0) : Type 0 where
  pub when_true : b ≡ true → P
  pub when_false : b ≡ false → P → ⊥

-- each refusal carries its rule's number and decides its rule, where no rule before it holds
abbrev pub Matches : List Refusal → List Rule → Type 0
Matches [] [] = Unit {0}
Matches [] (r ∷ rs) = ⊥
Matches (x ∷ l) [] = ⊥
Matches (x ∷ l) (r ∷ rs) = (number x.answer ≡ r.no) × Decides x.test r.holds × ((r.holds → ⊥) → Matches l rs)

abbrev pub NoneHolds : List Rule → Type 0
NoneHolds [] = Unit {0}
NoneHolds (r ∷ rs) = (r.holds → ⊥) × NoneHolds rs

pub first_guarded : (l : List Refusal) (rs rest : List Rule) (Else : ℕ → Type 0) (p : Plan) → Matches l rs → (NoneHolds rs → First rest Else (number p.answer)) → First (rs ++ rest) Else (number (guarded l p).answer)
unfolding guarded
first_guarded [] [] rest Else p m k = k tt
first_guarded [] (r ∷ rs) rest Else p m k = absurd m
first_guarded (x ∷ l) [] rest Else p m k = absurd m
first_guarded (x ∷ l) (r ∷ rs) rest Else p m k = pick_elim (λ (y : Plan). (r.holds × (number y.answer ≡ r.no)) ⊎ ((r.holds → ⊥) × First (rs ++ rest) Else (number y.answer))) x.test
    (λ e. inl (m.1.when_true e, m.0))
    (λ e. let h : r.holds → ⊥ = m.1.when_false e in inr (h, first_guarded l rs rest Else p (m.2 h) (λ n. k (h, n))))

pub quiet_guarded : (l : List Refusal) (p : Plan) → (NoRefusal l → Quiet p) → Quiet (guarded l p)
unfolding guarded
quiet_guarded [] p q = q tt
quiet_guarded (x ∷ l) p q = pick_elim Quiet x.test (λ e h. refl) (λ e. quiet_guarded l p (λ n. q (e, n)))

-- ---- tests and what they decide

pub decides_not : (b : Bool) (P : Type 0) → Decides b P → Decides (not b) (P → ⊥)
decides_not b P d = record {
  when_true = λ e. d.when_false (not-true b e);
  when_false = λ e h. h (d.when_true (not-false b e));
}

pub decides_passes : (l : List Check) → Decides (passes l) (Passes l)
decides_passes l = record { when_true = all_passed l; when_false = λ e h. true_false (sym (passes_of l h) ∙ e) }

pub decides_iff : (b : Bool) (P Q : Type 0) → (P → Q) → (Q → P) → Decides b P → Decides b Q
decides_iff b P Q f g d = record { when_true = λ e. f (d.when_true e); when_false = λ e q. d.when_false e (g q) }

pub decides_le : (a b : ℕ) → Decides (leb a b) (a ≤ b)
decides_le a b = record { when_true = leb-true a b; when_false = λ e h. omega (arith, leb-false a b e) }

-- one of two tests fails
pub decides_either : (a b : Bool) (P Q : Type 0) → Decides (not a) P → Decides (not b) Q → Decides (not (a && b)) (P ⊎ Q)
decides_either true b P Q d e = record { when_true = λ q. inr (e.when_true q); when_false = λ q. go (e.when_false q) (d.when_false refl) }
  where
    go : (Q → ⊥) → (P → ⊥) → P ⊎ Q → ⊥
    go f h (inl p) = h p
    go f h (inr p) = f p
decides_either false b P Q d e = record { when_true = λ q. inl (d.when_true refl); when_false = λ q. true_false q }

-- one of many tests fails
pub decides_some : (n : ℕ) (f : ℕ → Bool) (P : ℕ → Type 0) → ((i : ℕ) → i < n → Decides (not (f i)) (P i)) → Decides (not (every n f)) ((i : ℕ) × (i < n) × P i)
decides_some n f P d = record {
  when_true = λ e. let s = every_not n f (not-true (every n f) e) in (s.0, s.1, (d s.0 s.1).when_true (rw s.2 refl));
  when_false = λ e s. (d s.0 s.1).when_false (rw (every_at n f (not-false (every n f) e) s.0 s.1) refl) s.2;
}

-- all of many tests hold
pub decides_all : (n : ℕ) (f : ℕ → Bool) (P : ℕ → Type 0) → ((i : ℕ) → i < n → Decides (f i) (P i)) → Decides (every n f) ((i : ℕ) → i < n → P i)
decides_all n f P d = record {
  when_true = λ e i l. (d i l).when_true (every_at n f e i l);
  when_false = λ e h. let s = every_not n f e in (d s.0 s.1).when_false s.2 (h s.0 s.1);
}

pub decides_eq : (a b : ℕ) → Decides (eqb a b) (a ≡ b)
decides_eq a b = record { when_true = eqb-true a b; when_false = eqb-false a b }

pub decides_both : (a b : Bool) (P Q : Type 0) → Decides a P → Decides b Q → Decides (a && b) (P × Q)
decides_both true b P Q d e = record { when_true = λ q. (d.when_true refl, e.when_true q); when_false = λ q h. e.when_false q h.1 }
decides_both false b P Q d e = record { when_true = λ q. true_false (sym q); when_false = λ q h. d.when_false refl h.0 }

-- ---- lists of checks and what they mean

pub record Means (l : List Check) (P : Type 0) : Type 0 where
  pub so : Passes l → P
  pub back : P → Passes l

pub nothing : Means [] (Unit {0})
nothing = record { so = λ p. p; back = λ q. q }

pub one : {x : Check} → Means (x ∷ []) (Passed x)
one = record { so = λ p. p.0; back = λ q. (q, tt) }

module _ {A B : Type 0} {a b : List Check} (f : Means a A) (h : Means b B) where
  pub both : Means (a ++ b) (A × B)
  both = record { so = λ p. (f.so (passes_left a b p), h.so (passes_right a b p)); back = λ q. passes_both a b (f.back q.0) (h.back q.1) }

module _ {A B C : Type 0} {a b c : List Check} (f : Means a A) (h : Means b B) (i : Means c C) where
  pub three : Means (a ++ (b ++ c)) (A × B × C)
  three = let m = both f (both h i) in record { so = λ p. let q = m.so p in (q.0, q.1.0, q.1.1); back = λ q. m.back (q.0, (q.1, q.2)) }

module _ {A B C D : Type 0} {a b c d : List Check} (f : Means a A) (h : Means b B) (i : Means c C) (j : Means d D) where
  pub four : Means (a ++ (b ++ (c ++ d))) (A × B × C × D)
  four = let m = both f (three h i j) in record { so = λ p. let q = m.so p in (q.0, q.1.0, q.1.1, q.1.2); back = λ q. m.back (q.0, (q.1, q.2, q.3)) }

module _ {l : List Check} {P : Type 0} (m : Means l P) where
  pub decides_unless : Decides (not (passes l)) (P → ⊥)
  decides_unless = decides_not (passes l) P (decides_iff _ _ _ m.so m.back (decides_passes l))

  -- what is not refuted has passed
  pub stable : ((P → ⊥) → ⊥) → Passes l
  stable h = go (passes l) refl
    where
      go : (b : Bool) → passes l ≡ b → Passes l
      go true e = all_passed l e
      go false e = absurd (h (λ q. (decides_passes l).when_false e (m.back q)))
