-- What a return of a one-entry step has to show, and what a step leaves of its table.
use mathlib.Core.Path.{◌≡◌, refl, sym, ap, ◌∙◌}
use mathlib.Core.List.{List}
use Prim.Native.Nat.{ℕ, ◌≤◌, ◌<◌}
use lib.ListN.{length, get_or, set, length-set}
use borrow.Author.Tests.{lt-ltb, le-ltb}
use Rattle.laws.specs.Tables.{Outcome, outcome, wrapped}
use Rattle.laws.proofs.Tests.{pick_yes, pick_no}
use Rattle.rules.specs.Lower.{Change, keep, become, Lowered, told, changed}
use Rattle.lower.specs.Tables.{turned, step_at, step_in}

module _ {A : Type 0} (f : ℕ → Lowered A) (l : List ℕ) (i : ℕ) where
  -- nothing is stored; v is stored
  pub step_told : {a : A} → f (get_or l i 0) ≡ told a → outcome a l ≡ step_at f l i
  unfolding step_at turned
  step_told e = rw e refl

  pub step_changed : {a : A} {v : ℕ} → f (get_or l i 0) ≡ changed a v → outcome a (set l i v) ≡ step_at f l i
  unfolding step_at turned
  step_changed e = rw e refl

  module _ {B : Type 0} (say : A → B) (none : B) where
    pub step_out : length l ≤ i → outcome none l ≡ step_in say none f l i
    unfolding step_in
    step_out h = sym (pick_no _ _ _ (le-ltb i (length l) h))

    pub step_in_lem : {a : A} {m : List ℕ} → i < length l → outcome a m ≡ step_at f l i → outcome (say a) m ≡ step_in say none f l i
    unfolding step_in
    step_in_lem h e = ap (wrapped say) e ∙ sym (pick_yes _ _ _ (lt-ltb i (length l) h))

-- a step on an entry that the table has
pub step_there : {A : Type 0} (f : ℕ → Lowered A) (l : List ℕ) (i : ℕ) (none : A) → i < length l → {o : Outcome A} → o ≡ step_in (λ s. s) none f l i → o ≡ step_at f l i
unfolding step_in
step_there f l i none h e = e ∙ pick_yes _ _ _ (lt-ltb i (length l) h)

-- ---- the table afterwards

turned_length : (l : List ℕ) (i : ℕ) (x : Change ℕ) → length (turned l i x) ≡ length l
unfolding turned
turned_length l i keep = refl
turned_length l i (become v) = length-set l i v

module _ {A : Type 0} (f : ℕ → Lowered A) (l : List ℕ) (i : ℕ) where
  module _ {a : A} {m : List ℕ} (e : outcome a m ≡ step_at f l i) where
    -- a step keeps the table's length
    pub step_length : length m ≡ length l
    unfolding step_at
    step_length = ap (λ (o : Outcome A). length o.table) e ∙ turned_length l i _

    -- a step that keeps its entry keeps the table
    pub step_kept : ((f (get_or l i 0)).said ≡ a → (f (get_or l i 0)).change ≡ keep) → m ≡ l
    unfolding step_at turned
    step_kept k = ap (λ (o : Outcome A). o.table) e ∙ rw (k (sym (ap (λ (o : Outcome A). o.said) e))) refl
