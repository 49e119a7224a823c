-- A tree's part of a table, lent to the lower level, and what a step on one of its entries makes of the whole table.
use mathlib.Core.Path.{◌≡◌, refl, sym, ap, ◌∙◌}
use mathlib.Core.Bool.{Bool, true, false}
use mathlib.Core.List.{List}
use Prim.Native.Nat.{ℕ, ◌+◌, ◌-◌, ◌^◌, ◌≤◌, ◌<◌}
use native.Mathlib.Omega.{arith}
use lib.Dec.{eqb, leb, ltb}
use lib.ListN.{length, get_or, set}
use lib.Seq.{drop-drop}
use borrow.Author.Tests.{ltb-true, leb-true, le-ltb, le-leb, lt-leb}
use borrow.Rule.Slice.PartMut.{mid_of, put_mid}
use Rattle.std.specs.Prelude.{Option, Some, None, Result, Ok, Err}
use Rattle.laws.specs.Tests.{pick}
use Rattle.laws.specs.Parts.{part, replaced}
use Rattle.laws.specs.Tables.{Outcome, outcome, wrapped}
use Rattle.laws.specs.Words.{bits}
use Rattle.laws.proofs.Tests.{pick_elim, pick_yes, pick_no}
use Rattle.laws.proofs.Parts.{part_length, part_at, replaced_same, replaced_set}
use Rattle.rules.specs.declared.ChildEntry.{ChildEntry}
use Rattle.rules.specs.Numbers.{child_frames, Shape}
use Rattle.rules.specs.Blocks.{tree_of_block, child_of_block}
use Rattle.rules.specs.Lower.{Change, keep, become, Lowered, told, changed, child_says, by_child, count_word, give_count, clear_huge, clear_run}
use Rattle.rules.specs.Plan.{Mark, Made, by_change, by_gave, on_gave}
use Rattle.lower.specs.Tables.{turned, step_at}
use Rattle.places.specs.Shapes.{block_at_in, ranged}
use Rattle.places.specs.declared.BlockAt.{BlockAt}
use Rattle.places.proofs.Blocks.{block_in_lem}
use Rattle.lending.specs.Types.{Tree, Block, Fault, Answer}
use Rattle.lending.specs.Tables.{lent, made_at, made_in}
use Rattle.lending.specs.Answers.{given_answer}

-- ---- the lending

module _ {A : Type 0} (none : A) (a k : ℕ) (f : List ℕ → Outcome A) (l : List ℕ) {n : ℕ} (e : n ≡ k) where
  -- the part is back as the callee left it
  pub lent_back : {r : A} {m : List ℕ} → a + n ≤ length l → outcome r m ≡ f (mid_of a (a + n - a) l) → outcome r (put_mid a (a + n - a) l m) ≡ lent none a k f l
  unfolding lent
  lent_back {r} {m} h q =
      let s : a + n - a ≡ k = omega arith in
      rw (s, drop-drop k a l) (ap (λ o. outcome o.said (replaced a k l o.table)) (rw s at q) ∙ sym (pick_yes _ _ _ (le-leb (a + k) (length l) (omega arith))))

  -- a part that the table has not
  pub not_lent : length l < a + n → outcome none l ≡ lent none a k f l
  unfolding lent
  not_lent h = sym (pick_no _ _ _ (lt-leb (a + k) (length l) (omega arith)))

-- ---- what was said, said in an answer

pub answered : {B : Type 0} (h : B → Answer) {s : B} {m : List ℕ} {r : Answer} {o : Outcome B} → outcome s m ≡ o → r ≡ h s → outcome r m ≡ wrapped h o
answered h {s} {m} p q = ap (λ r. outcome r m) q ∙ ap (wrapped h) p

-- an entry that the part has not
pub made_past : (a k i : ℕ) (f : ℕ → Made ℕ) (l : List ℕ) {n : ℕ} → n ≡ k → n ≤ i → outcome Answer.BadRecord l ≡ made_in a k i f l
unfolding made_in
made_past a k i f l e h = pick_elim (λ y. outcome Answer.BadRecord l ≡ y) (leb (a + k) (length l)) (λ t. sym (pick_no _ _ _ (le-ltb i k (omega arith)))) (λ t. refl)

-- the outcome of a part, the part put back
abbrev put_back : ℕ → ℕ → List ℕ → Outcome Answer → Outcome Answer
put_back a k l o = outcome o.said (replaced a k l o.table)

module _ {B : Type 0} (none : B) (h : B → Answer) (refused : h none ≡ Answer.BadRecord) (a k : ℕ) (g : List ℕ → Outcome B) (l : List ℕ) where
  lent_answered : {o : Outcome Answer} → (a + k ≤ length l → put_back a k l (wrapped h (g (part a k l))) ≡ o) → wrapped h (lent none a k g l) ≡ pick (leb (a + k) (length l)) o (outcome Answer.BadRecord l)
  unfolding lent
  lent_answered {o} q =
      pick_elim (λ y. wrapped h y ≡ pick (leb (a + k) (length l)) o (outcome Answer.BadRecord l)) (leb (a + k) (length l))
      (λ t. q (leb-true _ _ t) ∙ sym (pick_yes _ _ _ t))
      (λ t. ap (λ r. outcome r l) refused ∙ sym (pick_no _ _ _ t))

  -- what refuses the part refuses the table
  pub lent_refused : wrapped h (g (part a k l)) ≡ outcome Answer.BadRecord (part a k l) → wrapped h (lent none a k g l) ≡ outcome Answer.BadRecord l
  lent_refused q = lent_answered (λ m. ap (put_back a k l) q ∙ ap (outcome Answer.BadRecord) (replaced_same a k l)) ∙ pick_elim (λ y. y ≡ outcome Answer.BadRecord l) (leb (a + k) (length l)) (λ t. refl) (λ t. refl)

  module _ {A : Type 0} (say : A → B) (F : ℕ → Lowered A) (f : ℕ → Made ℕ) (same : (x : ℕ) → ((F x).change ≡ (f x).change) × (h (say (F x).said) ≡ (f x).answer)) (i : ℕ) where
    step_made : a + k ≤ length l → i < k → put_back a k l (wrapped h (wrapped say (step_at F (part a k l) i))) ≡ made_at (a + i) f l
    unfolding step_at made_at turned by_change
    step_made m b = rw (part_at a k l i 0 b, (same (get_or l (a + i) 0)).0, (same (get_or l (a + i) 0)).1) (go (f (get_or l (a + i) 0)).change (f (get_or l (a + i) 0)).answer)
      where
        go : (c : Change ℕ) (y : Answer) → outcome y (replaced a k l (turned (part a k l) i c)) ≡ by_change c (outcome y l) (λ v. outcome y (set l (a + i) v))
        go keep y = ap (outcome y) (replaced_same a k l)
        go (become v) y = ap (outcome y) (replaced_set a k l i v b m)

    -- a step on entry i of the part is the step on the table's entry
    pub lent_made : (length (part a k l) ≡ k → g (part a k l) ≡ pick (ltb i k) (wrapped say (step_at F (part a k l) i)) (outcome none (part a k l))) → wrapped h (lent none a k g l) ≡ made_in a k i f l
    unfolding made_in pick
    lent_made q = lent_answered (λ m. ap (λ o. put_back a k l (wrapped h o)) (q (part_length a k l m)) ∙ go m (ltb i k) refl)
      where
        go : a + k ≤ length l → (b : Bool) → ltb i k ≡ b → put_back a k l (wrapped h (pick b (wrapped say (step_at F (part a k l) i)) (outcome none (part a k l)))) ≡ pick b (made_at (a + i) f l) (outcome Answer.BadRecord l)
        go m true t = step_made m (ltb-true _ _ t)
        go m false t = rw refused (ap (outcome Answer.BadRecord) (replaced_same a k l))

-- ---- the change is the lower level's, the answer is of what it said

module _ (x : Answer) (k : Mark) where
  abbrev pub SameGave : Lowered (Result Unit Fault) → Type 0
  SameGave o = (o.change ≡ (on_gave o x k).change) × (given_answer x o.said ≡ (on_gave o x k).answer)

  -- a count given back, a huge frame's child cleared, a run of bits cleared
  pub count_same : (s v : ℕ) → SameGave (give_count s v)
  unfolding give_count by_child by_gave
  count_same s v = go (child_says v)
    where
      go : (d : Option ChildEntry) → SameGave (by_child d (told (Err Fault.Damaged)) (λ n. pick (leb (n + s) child_frames) (changed (Ok tt) (count_word (n + s))) (told (Err Fault.Damaged))) (told (Err Fault.Damaged)))
      go None = (refl, refl)
      go (Some (ChildEntry.Counts n)) = pick_elim SameGave (leb (n + s) child_frames) (λ e. (refl, refl)) (λ e. (refl, refl))
      go (Some ChildEntry.Flagged) = (refl, refl)

  pub huge_same : (v : ℕ) → SameGave (clear_huge v)
  unfolding clear_huge by_child by_gave
  huge_same v = go (child_says v)
    where
      go : (d : Option ChildEntry) → SameGave (by_child d (told (Err Fault.Damaged)) (λ n. told (Err Fault.NotTaken)) (changed (Ok tt) (count_word child_frames)))
      go None = (refl, refl)
      go (Some (ChildEntry.Counts n)) = (refl, refl)
      go (Some ChildEntry.Flagged) = (refl, refl)

  pub run_same : (s b v : ℕ) → SameGave (clear_run s b v)
  unfolding clear_run by_gave
  run_same s b v = pick_elim SameGave (eqb (bits s b v) (2 ^ s - 1)) (λ e. (refl, refl)) (λ e. (refl, refl))

-- ---- a block's tree and child

-- what is done with the tree and the child where the block lies is done with the block's
pub block_there : (g : Shape) (b : Block) (f : List ℕ → Outcome Answer) (l : List ℕ) {r : Option BlockAt} → r ≡ block_at_in g b → {a : BlockAt} (F : Tree → ℕ → Outcome Answer) {o : Outcome Answer} → r ≡ Some a → o ≡ F a.tree a.child
    → F (tree_of_block g b) (child_of_block g b) ≡ f l → o ≡ ranged g b f l
block_there g b f l e {a} F q p z = block_in_lem g b f l e q (λ u v. p ∙ ap (λ y. F y a.child) u ∙ ap (F (tree_of_block g b)) v ∙ z)
