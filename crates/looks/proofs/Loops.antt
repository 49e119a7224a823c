-- A look at every number below n, from 0 on: all pass a test, or their sum. And tests made one after the other.
use mathlib.Core.Path.{◌≡◌, refl, sym, ap, ap₂, subst, ◌∙◌}
use mathlib.Core.Bool.{Bool, true, false, ◌&&◌}
use mathlib.Core.List.{List, map}
use Prim.Native.Nat.{ℕ, zero, suc, ◌+◌, ◌-◌, ◌≤◌, ◌<◌}
use native.Mathlib.Omega.{arith}
use lib.Dec.{leb}
use lib.ListN.{length, get_or}
use denote.Param.Members.{Mut}
use borrow.Author.Tests.{le-leb, lt-leb}
use Rattle.std.specs.declared.option.Option.{Option}
use Rattle.std.specs.declared.ops.Range.{Range}
use Rattle.std.specs.Bool.{MatchBool}
use Rattle.std.specs.Fn.{Called}
use Rattle.std.specs.Iterator.{YieldsThen}
use Rattle.std.specs.List.{FoldsTo, range_with_len, AllWithin, HoldsAt, fold}
use Rattle.std.specs.Option.{MatchOption}
use Rattle.std.proofs.iter.Yields.{nat_range_steps}
use Rattle.std.proofs.lemmas.Iterator.{cases_from_all, YieldsList-from_range}
use Rattle.std.proofs.lemmas.List.FromFn.{length-range_with_len, get_or-range_with_len, map-range_with_len_more}
use Rattle.std.proofs.lemmas.List.Sums.{fold_push}
use Rattle.laws.specs.Tests.{pick, every}
use Rattle.laws.specs.Sum.{sum_to}
use Rattle.laws.proofs.Tests.{pick_yes, pick_no, true_false, every_at, every_all}

-- ---- the numbers below n, as a range yields them
module _ (n : ℕ) where
  abbrev numbers : List ℕ
  numbers = range_with_len 0 (n - 0)

  pub so_many : length numbers ≡ n
  so_many = omega (arith, length-range_with_len 0 (n - 0))

  number_at : (i : ℕ) → i < n → get_or numbers i 0 ≡ i
  number_at i l = omega (arith, get_or-range_with_len 0 (n - 0) i 0 (omega arith))

  module _ (p : ℕ → Bool) where
    every_by : (r : Bool) → MatchBool r (AllWithin (λ x. p x ≡ true) numbers 0 (length numbers)) ((k : ℕ) × (k < length numbers) × HoldsAt (λ x. p x ≡ false) numbers k) → r ≡ every n p
    every_by true h = sym (every_all n p (λ i l. subst (λ x. p x ≡ true) (number_at i l) (h i 0 (omega arith) (omega (arith, so_many)))))
    every_by false h = go (every n p) refl
      where
        below : h.0 < n
        below = omega (arith, h.1, so_many)

        go : (b : Bool) → every n p ≡ b → false ≡ every n p
        go false e = sym e
        go true e = true_false (sym (every_at n p e h.0 below) ∙ subst (λ x. p x ≡ false) (number_at h.0 below) (h.2 0))

    -- what `all` answers over them, where its closure tests p
    pub every_ran : {F : Type 0} {g : Mut F (ℕ × Unit {0}) Bool} {s u : Range ℕ} {f : F} {r : Bool}
        → (xs : List ℕ) × (o : Option ℕ) × (j : F) × YieldsThen nat_range_steps s xs o u × FoldsTo (λ p x q. Called g p (x, tt) true q) f xs j × MatchOption o (r ≡ true) (λ x. (r ≡ false) × ((h : F) × Called g j (x, tt) false h))
        → s ≡ record { start = 0; end = n } → ((x : ℕ) (b : Bool) (q : F) → Called g f (x, tt) b q → (q ≡ f) × (b ≡ p x)) → r ≡ every n p
    every_ran {u = u} {f = f} {r = r} d e k = every_by r (cases_from_all u f r (λ x. p x ≡ true) (λ x. p x ≡ false) d (YieldsList-from_range 0 n (n - 0) e refl) (λ x q c. let m = k x true q c in (m.0, sym m.1)) (λ x q c. sym (k x false q c).1))

-- the sum of f over them, as `sum` folds it
pub folded : (f : ℕ → ℕ) (n : ℕ) → fold (λ a x. a + x) 0 (map f (range_with_len 0 n)) ≡ sum_to n f
unfolding sum_to
folded f zero = refl
folded f (suc n) =
    let e : suc n ≡ n + 1 = omega arith in
    ap (λ i. fold (λ a x. a + x) 0 (map f (range_with_len 0 i))) e
    ∙ ap (fold (λ a x. a + x) 0) (map-range_with_len_more f 0 n n (omega arith))
    ∙ fold_push (λ a x. a + x) 0 (map f (range_with_len 0 n)) (f n)
    ∙ ap (λ a. a + f n) (folded f n)

-- ---- n entries are looked at, in a table of b
module _ {n a b : ℕ} (e : n ≡ a) where
  pub lacks : (x : Bool) → b < n → false ≡ pick (leb a b) x false
  lacks x h = sym (pick_no _ _ _ (lt-leb a b (omega arith)))

  pub has : n ≤ b → {r x : Bool} → r ≡ x → r ≡ pick (leb a b) x false
  has h q = q ∙ sym (pick_yes _ _ _ (le-leb a b (omega arith)))

-- the same test of the same numbers
pub every_same : {n m : ℕ} {f g : ℕ → Bool} → n ≡ m → ((i : ℕ) → i < n → f i ≡ g i) → every n f ≡ every m g
unfolding every
every_same {n} {m} {f} {g} e k = go n k ∙ ap (λ i. every i g) e
  where
    go : (n : ℕ) → ((i : ℕ) → i < n → f i ≡ g i) → every n f ≡ every n g
    go zero k = refl
    go (suc n) k = ap₂ ◌&&◌ (k n (omega arith)) (go n (λ i l. k i (omega arith)))

-- ---- two tests, one after the other
module _ (a b : Bool) {r : Bool} (e : r ≡ a) where
  pub first_fails : r ≡ false → false ≡ (a && b)
  first_fails h = ap (λ x. x && b) (sym h ∙ e)

  pub first_passes : r ≡ true → {q : Bool} → q ≡ b → q ≡ (a && b)
  first_passes h k = k ∙ ap (λ x. x && b) (sym h ∙ e)
