-- The steps on a child, by what its entry says: what each return has to show.
use Rattle.std.specs.Prelude.{Option, Some, None, Result, Ok, Err, ok_or}
use mathlib.Core.Path.{◌≡◌, refl, ap, ◌∙◌}
use mathlib.Core.Logic.{◌≢◌}
use mathlib.Core.List.{List, [], ◌∷◌}
use Prim.Native.Nat.{ℕ, ◌+◌, ◌-◌, ◌≤◌, ◌<◌}
use lib.Dec.{ltb}
use lib.ListN.{length, get_or, set}
use borrow.Author.Tests.{lt-leb, le-leb, eq-eqb, ne_eqb, ltb-true, ltb-false}
use Rattle.laws.specs.Fields.{join}
use Rattle.laws.specs.Tables.{outcome}
use Rattle.laws.proofs.Tests.{pick_elim, pick_yes, pick_no}
use Rattle.rules.specs.Numbers.{child_frames}
use Rattle.rules.specs.Lower.{Lowered, told, child_layout, child_says, count_word, flagged_word, by_child, claim, take_huge, give_count, clear_huge, recount}
use Rattle.lower.specs.Types.{ChildEntry, Took, Fault}
use Rattle.lower.specs.Steps.{claim_in, take_huge_in, give_in, clear_huge_in, recounted, look_in}
use Rattle.lower.specs.Tables.{step_at, step_in}
use Rattle.lower.proofs.Tables.{step_told, step_changed, step_out, step_in_lem}

-- what a look at an entry says, read back
pub said_some : (o : Option ChildEntry) {e : ChildEntry} → ok_or o Fault.Damaged ≡ Ok e → o ≡ Some e
said_some None q = absurd cc
said_some (Some e) q = cc

pub said_none : (o : Option ChildEntry) {f : Fault} → ok_or o Fault.Damaged ≡ Err f → (o ≡ None) × (f ≡ Fault.Damaged)
said_none None q = (refl, cc)
said_none (Some e) q = absurd cc

module _ (l : List ℕ) (i : ℕ) where
  abbrev Says : Option ChildEntry → Type 0
  Says o = child_says (get_or l i 0) ≡ o

  -- what a look at child i says
  abbrev Looks : ChildEntry → Type 0
  Looks e = look_in l i ≡ Ok e

  pub look_there : {e : ChildEntry} → Looks e → (i < length l) × Says (Some e)
  unfolding look_in
  look_there {e} = pick_elim (λ r. r ≡ Ok e → (i < length l) × Says (Some e)) (ltb i (length l)) (λ b q. (ltb-true i (length l) b, said_some _ q)) (λ b q. absurd cc)

  -- a step on a child that is looked at; one that is refused it refuses too
  module _ {A : Type 0} (f : ℕ → Lowered (Result A Fault)) where
    stepped : {e : ChildEntry} → Looks e → {a : Result A Fault} {m : List ℕ} → (Says (Some e) → outcome a m ≡ step_at f l i) → outcome a m ≡ step_in (λ s. s) (Err Fault.NoChild) f l i
    stepped h k = let t = look_there h in step_in_lem f l i (λ s. s) (Err Fault.NoChild) t.0 (k t.1)

    refused : ((x : ℕ) → child_says x ≡ None → f x ≡ told (Err Fault.Damaged)) → {e : Fault} → look_in l i ≡ Err e → outcome (Err e) l ≡ step_in (λ s. s) (Err Fault.NoChild) f l i
    unfolding look_in
    refused d {e} = pick_elim (λ r. r ≡ Err e → outcome (Err e) l ≡ step_in (λ s. s) (Err Fault.NoChild) f l i) (ltb i (length l))
        (λ b q. let s : (child_says (get_or l i 0) ≡ None) × (e ≡ Fault.Damaged) = said_none _ q in ap (λ e. outcome (Err e) l) s.1 ∙ step_in_lem f l i (λ s. s) (Err Fault.NoChild) (ltb-true i (length l) b) (step_told f l i (d _ s.0)))
        (λ b q. let s : e ≡ Fault.NoChild = cc in ap (λ e. outcome (Err e) l) s ∙ step_out f l i (λ s. s) (Err Fault.NoChild) (ltb-false i (length l) b))

  -- ---- claim

  pub claim_refused : (s : ℕ) {e : Fault} → look_in l i ≡ Err e → outcome (Err e) l ≡ claim_in s l i
  unfolding claim by_child
  claim_refused s = refused (claim s) (λ x e. rw e refl)

  pub claim_flagged : (s : ℕ) → Looks ChildEntry.Flagged → outcome (Ok Took.Passed) l ≡ claim_in s l i
  unfolding claim by_child
  claim_flagged s h = stepped (claim s) h (λ e. step_told (claim s) l i (rw e refl))

  pub claim_short : (s k : ℕ) → Looks (ChildEntry.Counts k) → k < s → outcome (Ok Took.Passed) l ≡ claim_in s l i
  unfolding claim by_child
  claim_short s k h j = stepped (claim s) h (λ e. step_told (claim s) l i (rw e (pick_no _ _ _ (lt-leb s k j))))

  pub claim_taken : (s k v : ℕ) → Looks (ChildEntry.Counts k) → s ≤ k → v ≡ join child_layout (0 ∷ 0 ∷ (k - s) ∷ []) → outcome (Ok Took.Taken) (set l i v) ≡ claim_in s l i
  unfolding claim by_child count_word
  claim_taken s k v h j q = rw q (stepped (claim s) h (λ e. step_changed (claim s) l i (rw e (pick_yes _ _ _ (le-leb s k j)))))

  -- ---- a huge frame taken

  pub huge_refused : {e : Fault} → look_in l i ≡ Err e → outcome (Err e) l ≡ take_huge_in l i
  unfolding take_huge by_child
  huge_refused = refused take_huge (λ x e. rw e refl)

  pub huge_flagged : Looks ChildEntry.Flagged → outcome (Ok Took.Passed) l ≡ take_huge_in l i
  unfolding take_huge by_child
  huge_flagged h = stepped take_huge h (λ e. step_told take_huge l i (rw e refl))

  pub huge_short : (k : ℕ) → Looks (ChildEntry.Counts k) → k ≢ child_frames → outcome (Ok Took.Passed) l ≡ take_huge_in l i
  unfolding take_huge by_child
  huge_short k h j = stepped take_huge h (λ e. step_told take_huge l i (rw e (pick_no _ _ _ (ne_eqb k child_frames j))))

  pub huge_taken : (k v : ℕ) → Looks (ChildEntry.Counts k) → k ≡ child_frames → v ≡ join child_layout (1 ∷ 0 ∷ 0 ∷ []) → outcome (Ok Took.Taken) (set l i v) ≡ take_huge_in l i
  unfolding take_huge by_child flagged_word
  huge_taken k v h j q = rw q (stepped take_huge h (λ e. step_changed take_huge l i (rw e (pick_yes _ _ _ (eq-eqb k child_frames j)))))

  -- ---- a count given back

  pub give_refused : (s : ℕ) {e : Fault} → look_in l i ≡ Err e → outcome (Err e) l ≡ give_in s l i
  unfolding give_count by_child
  give_refused s = refused (give_count s) (λ x e. rw e refl)

  pub give_flagged : (s : ℕ) → Looks ChildEntry.Flagged → outcome (Err Fault.Damaged) l ≡ give_in s l i
  unfolding give_count by_child
  give_flagged s h = stepped (give_count s) h (λ e. step_told (give_count s) l i (rw e refl))

  pub give_past : (s k : ℕ) → Looks (ChildEntry.Counts k) → child_frames < k + s → outcome (Err Fault.Damaged) l ≡ give_in s l i
  unfolding give_count by_child
  give_past s k h j = stepped (give_count s) h (λ e. step_told (give_count s) l i (rw e (pick_no _ _ _ (lt-leb (k + s) child_frames j))))

  pub give_given : (s k v : ℕ) → Looks (ChildEntry.Counts k) → k + s ≤ child_frames → v ≡ join child_layout (0 ∷ 0 ∷ (k + s) ∷ []) → outcome (Ok tt) (set l i v) ≡ give_in s l i
  unfolding give_count by_child count_word
  give_given s k v h j q = rw q (stepped (give_count s) h (λ e. step_changed (give_count s) l i (rw e (pick_yes _ _ _ (le-leb (k + s) child_frames j)))))

  -- ---- a huge frame cleared

  pub clear_refused : {e : Fault} → look_in l i ≡ Err e → outcome (Err e) l ≡ clear_huge_in l i
  unfolding clear_huge by_child
  clear_refused = refused clear_huge (λ x e. rw e refl)

  pub clear_counts : (k : ℕ) → Looks (ChildEntry.Counts k) → outcome (Err Fault.NotTaken) l ≡ clear_huge_in l i
  unfolding clear_huge by_child
  clear_counts k h = stepped clear_huge h (λ e. step_told clear_huge l i (rw e refl))

  pub clear_flagged : (v : ℕ) → Looks ChildEntry.Flagged → v ≡ join child_layout (0 ∷ 0 ∷ child_frames ∷ []) → outcome (Ok tt) (set l i v) ≡ clear_huge_in l i
  unfolding clear_huge by_child count_word
  clear_flagged v h q = rw q (stepped clear_huge h (λ e. step_changed clear_huge l i (rw e refl)))

  -- ---- an entry recounted

  pub recount_damaged : (z : ℕ) → Says None → outcome (Err Fault.Damaged) l ≡ step_at (recounted z) l i
  unfolding recounted by_child
  recount_damaged z e = step_told (recounted z) l i (rw e refl)

  pub recount_counts : (z k v : ℕ) → Says (Some (ChildEntry.Counts k)) → v ≡ join child_layout (0 ∷ 0 ∷ z ∷ []) → outcome (Ok tt) (set l i v) ≡ step_at (recounted z) l i
  unfolding recounted recount by_child count_word
  recount_counts z k v e q = rw q (step_changed (recounted z) l i (rw e refl))

  pub recount_flagged : (z : ℕ) → Says (Some ChildEntry.Flagged) → outcome (Ok tt) (set l i (get_or l i 0)) ≡ step_at (recounted z) l i
  unfolding recounted recount by_child
  recount_flagged z e = step_changed (recounted z) l i (rw e refl)
