-- A step on one entry of a table: what each return has to show.
use Rattle.std.specs.Prelude.{Option, Some, None, Result, Ok, Err, IsErrAnd, ok_or}
use mathlib.Core.Path.{◌≡◌, refl, sym, ap, ◌∙◌}
use mathlib.Core.List.{List}
use Prim.Native.Nat.{ℕ, ◌≤◌, ◌<◌}
use native.Mathlib.Omega.{arith}
use lib.Dec.{leb, ltb}
use lib.ListN.{length, get_or, set}
use borrow.Author.Tests.{ltb-true, ltb-false, lt-ltb, le-ltb, leb-true, leb-false, lt-leb, le-leb}
use Rattle.laws.specs.Tables.{Outcome, outcome}
use Rattle.laws.proofs.Tests.{pick_elim, pick_yes, pick_no}
use Rattle.rules.specs.Numbers.{capacity}
use Rattle.rules.specs.Entries.{field, tree_layout, tree_says, tree_word}
use Rattle.rules.specs.Plan.{Tally, tally, by_change, by_tree}
use Rattle.rules.proofs.Readings.{flag_small}
use Rattle.entries.specs.Types.{Tree, TreeEntry, Fault, Size}
use Rattle.entries.specs.Sizes.{shape_of}
use Rattle.entries.specs.Turns.{Turn, looks, stores, tree_turned, on_tree, within, entry_read}
use Rattle.entries.specs.Steps.{look_tree_in, count_in, tree_step, stored_in}

-- what a `?` passes up
pub passed_up : {T : Type 0} {r : Result T Fault} {x : Fault} → IsErrAnd r (λ y. y ≡ x) → r ≡ Err x
passed_up {r = Ok v} h = absurd h
passed_up {r = Err y} h = ap Err h

-- ---- a table without the entry, and one with it

module _ {A : Type 0} (none : A) (i : ℕ) (l : List ℕ) where
  pub within_out : (o : Outcome A) → length l ≤ i → outcome none l ≡ within none i l o
  unfolding within
  within_out o h = sym (pick_no _ _ _ (le-ltb i (length l) h))

  pub within_in : {o p : Outcome A} → i < length l → o ≡ p → o ≡ within none i l p
  unfolding within
  within_in h e = e ∙ sym (pick_yes _ _ _ (lt-ltb i (length l) h))

-- ---- an entry stored whatever it was

module _ (i v : ℕ) (l : List ℕ) where
  pub stored_out : length l ≤ i → outcome (Err Fault.NoEntry) l ≡ stored_in i v l
  unfolding stored_in
  stored_out h = within_out _ i l _ h

  pub stored_in_lem : {w : ℕ} → i < length l → w ≡ v → outcome (Ok tt) (set l i w) ≡ stored_in i v l
  unfolding stored_in
  stored_in_lem h e = within_in _ i l h (ap (λ w. outcome (Ok tt) (set l i w)) e)

-- ---- an entry read

module _ {E : Type 0} (says : ℕ → Option E) (i : ℕ) (l : List ℕ) where
  -- the table has it, and it is not malformed
  pub record Read (e : E) : Type 0 where
    pub there : i < length l
    pub told : says (get_or l i 0) ≡ Some e

  pub read : {e : E} → Ok e ≡ entry_read says i l → Read e
  read {e} q = pick_elim (λ (o : Result E Fault). Ok e ≡ o → Read e) (ltb i (length l)) (λ b. go (says (get_or l i 0)) refl (ltb-true _ _ b)) (λ b q. let z : ◌≡◌ {A = ℕ} 0 1 = cc in absurd (omega arith)) q
    where
      go : (o : Option E) → says (get_or l i 0) ≡ o → i < length l → Ok e ≡ ok_or o Fault.Damaged → Read e
      go None s h q = let z : ◌≡◌ {A = ℕ} 0 1 = cc in absurd (omega arith)
      go (Some d) s h q = let p : d ≡ e = cc in record { there = h; told = s ∙ ap Some p }

  -- it is not there, or malformed: the fault is passed up
  pub refused : {A : Type 0} {r : Result A Fault} {x : Fault} {o : Outcome (Result A Fault)} → IsErrAnd r (λ y. y ≡ x) → Err x ≡ entry_read says i l
      → (says (get_or l i 0) ≡ None → outcome (Err Fault.Damaged) l ≡ o) → outcome r l ≡ within (Err Fault.NoEntry) i l o
  refused {A} {r} {x} {o} u q d = pick_elim (λ (v : Result E Fault). Err x ≡ v → outcome r l ≡ within (Err Fault.NoEntry) i l o) (ltb i (length l))
      (λ b. go (says (get_or l i 0)) refl (ltb-true _ _ b))
      (λ b q. let p : x ≡ Fault.NoEntry = cc in rw (passed_up u, p) (within_out _ i l _ (ltb-false _ _ b))) q
    where
      go : (v : Option E) → says (get_or l i 0) ≡ v → i < length l → Err x ≡ ok_or v Fault.Damaged → outcome r l ≡ within (Err Fault.NoEntry) i l o
      go None s h q = let p : x ≡ Fault.Damaged = cc in rw (passed_up u, p) (within_in _ i l h (d s))
      go (Some e) s h q = let z : ◌≡◌ {A = ℕ} 0 1 = cc in absurd (omega arith)

-- ---- tree t's entry

module _ (m : Size) (t : Tree) (l : List ℕ) where
  abbrev pub TreeRead : TreeEntry → Type 0
  TreeRead e = Read (tree_says (shape_of m) t) t.0 l e

  pub tree_read : {e : TreeEntry} → Ok e ≡ look_tree_in m t l → TreeRead e
  unfolding look_tree_in
  tree_read q = read _ _ _ q

  abbrev word : ℕ
  word = get_or l t.0 0

  module _ {e : TreeEntry} (r : TreeRead e) where
    -- r is one bit
    pub flag_bit : e.reserved < 2
    unfolding tree_says
    flag_bit = pick_elim (λ o. o ≡ Some e → e.reserved < 2) (leb (field tree_layout 1 word) (capacity (shape_of m) t.0))
        (λ b q. let a : field tree_layout 0 word ≡ e.reserved = cc in omega (arith, flag_small word))
        (λ b q. let z : ◌≡◌ {A = ℕ} 0 1 = cc in absurd (omega arith)) r.told

-- a count above the capacity, and one that is not
module _ (m : Size) (t : Tree) (k : ℕ) where
  pub count_past : {T : Type 0} {r : Result T Fault} {x : Fault} → IsErrAnd r (λ y. y ≡ x) → Err x ≡ count_in m t k → (r ≡ Err Fault.Damaged) × (capacity (shape_of m) t.0 < k)
  unfolding count_in
  count_past {r = r} {x = x} u q = pick_elim (λ (o : Result ℕ Fault). Err x ≡ o → (r ≡ Err Fault.Damaged) × (capacity (shape_of m) t.0 < k)) (leb k (capacity (shape_of m) t.0))
      (λ b q. let z : ◌≡◌ {A = ℕ} 0 1 = cc in absurd (omega arith))
      (λ b q. let p : x ≡ Fault.Damaged = cc in (passed_up u ∙ ap Err p, leb-false _ _ b)) q

  pub count_within : {n : ℕ} → Ok n ≡ count_in m t k → (n ≡ k) × (k ≤ capacity (shape_of m) t.0)
  unfolding count_in
  count_within {n} q = pick_elim (λ (o : Result ℕ Fault). Ok n ≡ o → (n ≡ k) × (k ≤ capacity (shape_of m) t.0)) (leb k (capacity (shape_of m) t.0))
      (λ b q. let p : n ≡ k = cc in (p, leb-true _ _ b))
      (λ b q. let z : ◌≡◌ {A = ℕ} 0 1 = cc in absurd (omega arith)) q

-- ---- a step on tree t's entry, by what it says

module _ {A : Type 0} (m : Size) (t : Tree) (f : ℕ → ℕ → Turn Tally (Result A Fault)) (l : List ℕ) where
  -- no such entry, and a malformed one
  pub tree_refused : {r : Result A Fault} {x : Fault} → IsErrAnd r (λ y. y ≡ x) → Err x ≡ look_tree_in m t l → outcome r l ≡ tree_step m t f l
  unfolding look_tree_in on_tree by_tree
  tree_refused u q = refused (tree_says (shape_of m) t) t.0 l u q (λ s. rw s refl)

  module _ {e : TreeEntry} (r : TreeRead m t l e) where
    turned : {o : Outcome (Result A Fault)} → o ≡ tree_turned (shape_of m) (Err Fault.Damaged) t (f e.reserved e.count) l → o ≡ tree_step m t f l
    unfolding on_tree by_tree
    turned q = within_in _ t.0 l r.there (rw r.told q)

    -- nothing is stored
    pub tree_kept : {a : Result A Fault} → f e.reserved e.count ≡ looks a → outcome a l ≡ tree_step m t f l
    unfolding tree_turned by_change
    tree_kept q = turned (rw q refl)

    -- a count to be stored that is above the capacity, and one that is not
    pub tree_past : {a : Result A Fault} {q n : ℕ} → f e.reserved e.count ≡ stores (tally q n) a → capacity (shape_of m) t.0 < n → outcome (Err Fault.Damaged) l ≡ tree_step m t f l
    unfolding tree_turned by_change
    tree_past {n = n} q p = turned (rw q (sym (pick_no _ _ _ (lt-leb n (capacity (shape_of m) t.0) p))))

    pub tree_stored : {a : Result A Fault} {v q n : ℕ} → f e.reserved e.count ≡ stores (tally q n) a → n ≤ capacity (shape_of m) t.0 → v ≡ tree_word q n → outcome a (set l t.0 v) ≡ tree_step m t f l
    unfolding tree_turned by_change
    tree_stored {n = n} q p w = turned (rw (q, w) (sym (pick_yes _ _ _ (le-leb n (capacity (shape_of m) t.0) p))))
