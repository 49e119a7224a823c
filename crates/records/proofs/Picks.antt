-- What equals a choice by a test of two numbers: what equals the side that it takes.
use mathlib.Core.Path.{◌≡◌, sym, ◌∙◌}
use mathlib.Core.Logic.{◌≢◌}
use Prim.Native.Nat.{ℕ, ◌≤◌, ◌<◌}
use lib.Dec.{eqb, ltb}
use borrow.Author.Tests.{eq-eqb, ne_eqb, lt-ltb, le-ltb}
use Rattle.laws.specs.Tests.{pick}
use Rattle.laws.proofs.Tests.{pick_yes, pick_no}

module _ {A : Type 0} {n k : ℕ} where
  pub same : (y : A) {x z : A} → n ≡ k → z ≡ x → z ≡ pick (eqb n k) x y
  same y e q = q ∙ sym (pick_yes _ _ y (eq-eqb n k e))

  pub other : (x : A) {y z : A} → n ≢ k → z ≡ y → z ≡ pick (eqb n k) x y
  other x e q = q ∙ sym (pick_no _ x _ (ne_eqb n k e))

  pub below : (y : A) {x z : A} → n < k → z ≡ x → z ≡ pick (ltb n k) x y
  below y e q = q ∙ sym (pick_yes _ _ y (lt-ltb n k e))

  pub above : (x : A) {y z : A} → k ≤ n → z ≡ y → z ≡ pick (ltb n k) x y
  above x e q = q ∙ sym (pick_no _ x _ (le-ltb n k e))
