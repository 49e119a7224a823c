-- A tree's entry in code: split and joined, what it says by its fields, and the steps on it.
use Rattle.std.specs.Prelude.{Option, Some, None, Result, Ok, Err, IsErrAnd}
use mathlib.Core.Path.{◌≡◌, refl, sym, ap, ◌∙◌}
use mathlib.Core.Logic.{◌≢◌}
use mathlib.Core.Bool.{Bool, true, false, ◌&&◌, and-false}
use mathlib.Core.List.{List}
use Prim.Native.Nat.{ℕ, ◌-◌, ◌*◌, ◌/◌, ◌%◌, ◌^◌, ◌≤◌, ◌<◌}
use native.Mathlib.Omega.{arith}
use lib.Dec.{leb, ltb, eqb}
use lib.Bits.{bit_and, bit_or}
use lib.ListN.{length, set}
use borrow.Author.Tests.{ltb-true, ltb-false, lt-ltb, le-ltb, lt-leb, le-leb, eq-eqb, ne_eqb}
use Rattle.laws.specs.Fields.{width, split, join}
use Rattle.laws.specs.Tables.{Outcome, outcome}
use Rattle.laws.proofs.Tests.{pick_elim, pick_yes, pick_no}
use Rattle.laws.proofs.Fields.{joined, shifted}
use Rattle.rules.specs.Numbers.{Shape, capacity}
use Rattle.rules.specs.Entries.{field, tree_layout, tallied, tree_says, tree_word}
use Rattle.rules.specs.Places.{Class, allocated, partial, free, low_edge, high_edge, class_of, fits, pass_tree}
use Rattle.rules.specs.Plan.{Tally}
use Rattle.entries.specs.Types.{Tree, TreeEntry, Pass, Fault, Size, TreeFields}
use Rattle.entries.specs.Sizes.{shape_of}
use Rattle.entries.specs.Split.{tree_fields}
use Rattle.entries.specs.Turns.{Turn}
use Rattle.entries.specs.Steps.{look_tree_in, count_in, tree_step, reserve_in, store_count_in}
use Rattle.entries.proofs.Fields.{top_field, low_field}
use Rattle.entries.proofs.Turns.{within_in, TreeRead, count_past, count_within, tree_refused, tree_kept, tree_stored}

pub tree_split : (x : ℕ) → x < 2 ^ 16 → record { reserved = x / 2 ^ 15; count = bit_and x (2 ^ 15 - 1) } ≡ tree_fields x
unfolding field split width
tree_split x h =
    let a : x / 2 ^ 15 ≡ x / 2 ^ 15 % 2 ^ 1 = top_field x 15 1 h in
    let b : bit_and x (2 ^ 15 - 1) ≡ x / 2 ^ 0 % 2 ^ 15 = low_field x 15 in
    cc

pub tree_join : (r k : ℕ) → r < 2 → k < 2 ^ 15 → bit_or ((r * 2 ^ 15) % 2 ^ 16) k ≡ tree_word r k
unfolding tree_word join width
tree_join r k h l = joined 15 (shifted 16 r 15 (omega arith)) refl (omega arith) l ∙ omega arith

-- ---- what the fields say

module _ (g : Shape) (t : Tree) (x : ℕ) {f : TreeFields} {n : ℕ} (e : f ≡ tree_fields x) (c : n ≡ capacity g t.0) where
  pub says_damaged : n < f.count → None ≡ tree_says g t x
  unfolding tree_says
  says_damaged h = sym (pick_no _ _ _ (lt-leb (field tree_layout 1 x) (capacity g t.0) (omega (arith, ap (λ (f : TreeFields). f.count) e))))

  pub says_counts : f.count ≤ n → Some (tallied f.reserved f.count) ≡ tree_says g t x
  unfolding tree_says
  says_counts h = rw e (sym (pick_yes _ _ _ (le-leb (field tree_layout 1 x) (capacity g t.0) (omega (arith, ap (λ (f : TreeFields). f.count) e)))))

-- ---- the classes that a pass takes

class_elim : (P : Class → Type 0) (k : ℕ) → (k < low_edge → P allocated) → (low_edge ≤ k → k ≤ high_edge → P partial) → (high_edge < k → P free) → P (class_of k)
unfolding class_of
class_elim P k x y z = pick_elim P (ltb k low_edge) (λ e. x (ltb-true k low_edge e)) (λ e. pick_elim P (ltb high_edge k) (λ h. z (ltb-true high_edge k h)) (λ h. y (ltb-false k low_edge e) (ltb-false high_edge k h)))

module _ (k : ℕ) {p : Pass} where
  pub near_fits : {t b : Tree} → p ≡ Pass.Near t b → leb low_edge k ≡ fits p (class_of k)
  unfolding fits
  near_fits {t} {b} e = rw e (class_elim (λ c. leb low_edge k ≡ fits (Pass.Near t b) c) k (lt-leb low_edge k) (λ h l. le-leb low_edge k h) (λ h. le-leb low_edge k (omega arith)))

  pub partial_low : {t : Tree} → p ≡ Pass.Partial t → k < low_edge → false ≡ fits p (class_of k)
  unfolding fits
  partial_low {t} e low = rw e (class_elim (λ c. false ≡ fits (Pass.Partial t) c) k (λ h. refl) (λ h l. absurd (omega arith)) (λ h. refl))

  pub partial_fits : {t : Tree} → p ≡ Pass.Partial t → low_edge ≤ k → leb k high_edge ≡ fits p (class_of k)
  unfolding fits
  partial_fits {t} e high = rw e (class_elim (λ c. leb k high_edge ≡ fits (Pass.Partial t) c) k (λ h. absurd (omega arith)) (λ h l. le-leb k high_edge l) (lt-leb k high_edge))

  pub free_fits : {t : Tree} → p ≡ Pass.Free t → ltb high_edge k ≡ fits p (class_of k)
  unfolding fits
  free_fits {t} e = rw e (class_elim (λ c. ltb high_edge k ≡ fits (Pass.Free t) c) k (λ h. le-ltb high_edge k (omega arith)) (λ h l. le-ltb high_edge k l) (lt-ltb high_edge k))

  pub any_fits : {t : Tree} → p ≡ Pass.Any t → true ≡ fits p (class_of k)
  unfolding fits
  any_fits e = rw e refl

-- ---- a tree reserved: r clear, a class that fits, a count of at least s

-- a step at a tree that goes by two names
same_tree : {A : Type 0} (m : Size) (f : ℕ → ℕ → Turn Tally (Result A Fault)) (l : List ℕ) {t u : Tree} {o : Outcome (Result A Fault)} → t ≡ u → o ≡ tree_step m t f l → o ≡ tree_step m u f l
same_tree m f l e q = q ∙ ap (λ t. tree_step m t f l) e

module _ (m : Size) (p : Pass) (s : ℕ) (l : List ℕ) {t : Tree} (a : t ≡ pass_tree p) where
  pub reserve_refused : {r : Result (Option ℕ) Fault} {x : Fault} → IsErrAnd r (λ y. y ≡ x) → Err x ≡ look_tree_in m t l → outcome r l ≡ reserve_in m p s l
  reserve_refused u q = same_tree _ _ l a (tree_refused _ _ _ _ u q)

  module _ {e : TreeEntry} (d : TreeRead m t l e) where
    abbrev reserves : Bool
    reserves = eqb e.reserved 0 && (fits p (class_of e.count) && leb s e.count)

    passed : reserves ≡ false → outcome (Ok None) l ≡ reserve_in m p s l
    passed q = same_tree _ _ l a (tree_kept _ _ _ _ d (pick_no reserves _ _ q))

    pub reserve_set : e.reserved ≢ 0 → outcome (Ok None) l ≡ reserve_in m p s l
    reserve_set n = passed (rw (ne_eqb e.reserved 0 n) refl)

    pub reserve_few : e.count < s → outcome (Ok None) l ≡ reserve_in m p s l
    reserve_few n = passed (rw (lt-leb s e.count n, and-false (fits p (class_of e.count))) (and-false (eqb e.reserved 0)))

    pub reserve_other : {f : Bool} → f ≡ fits p (class_of e.count) → f ≡ false → outcome (Ok None) l ≡ reserve_in m p s l
    reserve_other q n = passed (rw (sym q ∙ n) (and-false (eqb e.reserved 0)))

    pub reserve_taken : {f : Bool} {v : ℕ} → e.reserved ≡ 0 → s ≤ e.count → f ≡ fits p (class_of e.count) → f ≡ true → v ≡ tree_word 1 0 → outcome (Ok (Some e.count)) (set l t.0 v) ≡ reserve_in m p s l
    reserve_taken z n q y w = same_tree _ _ l a (tree_stored _ _ _ _ d (pick_yes reserves _ _ (rw (eq-eqb e.reserved 0 z, sym q ∙ y) (le-leb s e.count n))) (omega arith) w)

-- ---- a count stored whatever the entry was

module _ (m : Size) (t : Tree) (k : ℕ) (l : List ℕ) (h : t.0 < length l) where
  pub store_past : {r : Result Unit Fault} {x : Fault} → IsErrAnd r (λ y. y ≡ x) → Err x ≡ count_in m t k → outcome r l ≡ store_count_in m t k l
  unfolding store_count_in
  store_past u q = let p = count_past m t k u q in within_in _ _ l h (rw p.0 (sym (pick_no _ _ _ (lt-leb k (capacity (shape_of m) t.0) p.1))))

  pub store_within : {n v : ℕ} → Ok n ≡ count_in m t k → v ≡ tree_word 0 n → outcome (Ok tt) (set l t.0 v) ≡ store_count_in m t k l
  unfolding store_count_in
  store_within q w = let p = count_within m t k q in within_in _ _ l h (rw (w, p.0) (sym (pick_yes _ _ _ (le-leb k (capacity (shape_of m) t.0) p.1))))
