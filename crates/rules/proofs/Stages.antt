-- A stage of a get or put answers 12 where the entry that it reads, or would store, is damaged, 6 where the block is not taken, and goes on otherwise.
use Rattle.std.specs.Prelude.{Option, Result, Ok, Err, Some, None}
use mathlib.Core.Path.{◌≡◌, refl, sym, ◌∙◌, ap, subst}
use mathlib.Core.Logic.{◌⊎◌, inl, inr, ◌≢◌}
use mathlib.Core.Bool.{Bool, ◌&&◌}
use Prim.Native.Nat.{ℕ, suc, ◌+◌, ◌-◌, ◌*◌, ◌/◌, ◌%◌, ◌^◌, ◌≤◌, ◌<◌}
use native.Mathlib.Omega.{arith}
use native.Mathlib.Decide.{dec_le}
use lib.Dec.{eqb, leb, ltb}
use lib.ListN.{length, get_or}
use borrow.Author.Tests.{eqb-true, eqb-false, leb-true, leb-false}
use Rattle.laws.specs.Tests.{pick, passes, Passes}
use Rattle.laws.specs.Words.{bit, bits}
use Rattle.laws.proofs.Tests.{pick_elim, passes_left, passes_right, all_passed}
use Rattle.laws.proofs.Words.{bits_taken, some_free}
use Rattle.laws.proofs.Parts.{part_at}
use Rattle.rules.specs.Types.{Tree, Run, Order, Block, ChildEntry, TreeEntry, CpuEntry, Took, Fault, Place, Taking, Giving, Record, Answer}
use Rattle.rules.specs.Numbers.{child_frames, child_words, Shape, per_tree, trees_of, children_of, capacity}
use Rattle.rules.specs.Conversions.{tree}
use Rattle.rules.specs.Blocks.{run_size, size, size_of, tree_of_block, child_of_block, huge_of_block}
use Rattle.rules.specs.Answers.{number}
use Rattle.rules.specs.Entries.{holds_checks, tallied}
use Rattle.rules.specs.Lower.{Lowered, told, changed, child_says, by_child, claim, take_huge, give_count, clear_huge, take_run, clear_run}
use Rattle.rules.specs.Zone.{Zone, Store, shaped, tree_entry_at, cpu_entry_at, child_part, word_part}
use Rattle.rules.specs.Plan.{Mark, plain, Plan, says, refuse, Made, look, store, Tally, tally, no_entry, cpu_entry, tree_entry, child_entry, word_entry, laid_out, to_cpu, to_tree, to_child, to_word, carried, by_change, by_cpu, by_tree, by_took, by_bit, by_gave, on_took, on_bit, on_gave}
use Rattle.rules.specs.Ranges.{taking_in, giving_in, block_in, found_in, place_in}
use Rattle.rules.specs.Places.{class_of, fits, pass_tree, found_tree, place_tree}
use Rattle.rules.specs.Take.{if_own_holds, claim_own, release, write, steal_count, next_child, search_child, search_word, take}
use Rattle.rules.specs.Give.{clear, give}
use Rattle.rules.specs.InRange.{run_frames, order_frames, block_frames, capacity_in}
use Rattle.rules.specs.Refusals.{First, Quiet, CpuPasses, TreePasses, ChildPasses, child, taken, Damage, NotTaken, entry_rules, StepElse}
use Rattle.rules.proofs.Guards.{look_plan, absent_plan, holds_plan, tree_look_plan, cpu_elim, tree_elim, child_elim, holds_in, count_in_lem}
use Rattle.rules.proofs.Checks.{run_size_lem, order_size, block_size}
use Rattle.rules.proofs.Falls.{found_tree_lem}
use Rattle.rules.proofs.Shapes.{kids_some, number_in}
use Rattle.rules.proofs.Sizes.{bit_ends}
use Rattle.rules.proofs.Fresh.{child_at_lem}

clash : {A : Type 0} (e : Option CpuEntry) (t : Tree) (s k : ℕ) → e ≡ Some (CpuEntry.Holds t s k) → e ≡ None → A
clash e t s k p q = let z : ◌≡◌ {A = ℕ} 0 1 = cc in absurd (omega arith)

absent_clash : {A : Type 0} (e : Option CpuEntry) → e ≡ Some CpuEntry.Absent → e ≡ None → A
absent_clash e p q = let z : ◌≡◌ {A = ℕ} 0 1 = cc in absurd (omega arith)

absent_holds : {A : Type 0} (e : Option CpuEntry) (t : Tree) (s k : ℕ) → e ≡ Some CpuEntry.Absent → e ≡ Some (CpuEntry.Holds t s k) → A
absent_holds e t s k p q = let z : ◌≡◌ {A = ℕ} 0 1 = cc in absurd (omega arith)

count_clash : {A : Type 0} (e : Option TreeEntry) (r k : ℕ) → e ≡ Some (tallied r k) → e ≡ None → A
count_clash e r k p q = let z : ◌≡◌ {A = ℕ} 0 1 = cc in absurd (omega arith)

count_no : (x k : ℕ) → child_says x ≡ Some (ChildEntry.Counts k) → child_says x ≡ None → ⊥
count_no x k p q = let z : ◌≡◌ {A = ℕ} 0 1 = cc in absurd (omega arith)

flag_no : (x : ℕ) → child_says x ≡ Some ChildEntry.Flagged → child_says x ≡ None → ⊥
flag_no x p q = let z : ◌≡◌ {A = ℕ} 0 1 = cc in absurd (omega arith)

count_flag : (x k : ℕ) → child_says x ≡ Some (ChildEntry.Counts k) → child_says x ≡ Some ChildEntry.Flagged → ⊥
count_flag x k p q = let z : ◌≡◌ {A = ℕ} 0 1 = cc in absurd (omega arith)

module _ (g : Shape) (z : Zone) (r : Record) where
  pub record Told (p : Plan) : Type 0 where
    pub answered : First (entry_rules g z r) (StepElse r) (number p.answer)
    pub quiet : Quiet p

  damaged : Damage g z r → Told (refuse Answer.Damaged)
  damaged d = record { answered = inl (d, refl); quiet = λ h. refl }

  free : (Damage g z r → ⊥) → NotTaken g z r → Told (refuse Answer.NotTaken)
  free d n = record { answered = inr (d, inl (n, refl)); quiet = λ h. refl }

  goes : (p : Plan) → (Damage g z r → ⊥) → (NotTaken g z r → ⊥) → (number p.answer ≡ 0) ⊎ (number p.answer ≡ 1) → Told p
  goes p d n e = record { answered = inr (d, inr (n, inl e)); quiet = λ h. absurd (go e h) }
    where
      go : (number p.answer ≡ 0) ⊎ (number p.answer ≡ 1) → 2 ≤ number p.answer → ⊥
      go (inl q) h = omega arith
      go (inr q) h = omega arith

  -- ---- by the entry read

  told_cpu : (j : ℕ) (a : Made CpuEntry) (f : Tree → ℕ → ℕ → Made CpuEntry) → (cpu_entry_at g z j ≡ None → Damage g z r)
      → (cpu_entry_at g z j ≡ Some CpuEntry.Absent → Told (to_cpu g j a))
      → ((t : Tree) (s k : ℕ) → cpu_entry_at g z j ≡ Some (CpuEntry.Holds t s k) → Passes (holds_checks g t s k) → Told (to_cpu g j (f t s k))) → Told (carried g z (cpu_entry j a f))
  unfolding carried
  told_cpu j a f d x y = cpu_elim Told (cpu_entry_at g z j) (λ e. damaged (d e)) x (λ t s k e. y t s k e (holds_in g (get_or z.cpus j 0) t s k e))

  told_tree : (t : Tree) (f : ℕ → ℕ → Made Tally) → (tree_entry_at g z t ≡ None → Damage g z r)
      → ((b k : ℕ) → tree_entry_at g z t ≡ Some (tallied b k) → k ≤ capacity g t.0 → Told (to_tree g t (f b k))) → Told (carried g z (tree_entry t f))
  unfolding carried
  told_tree t f d y = tree_elim Told (tree_entry_at g z t) (λ e. damaged (d e)) (λ b k e. y b k e (count_in_lem g t (get_or z.trees t.0 0) b k e))

  told_child : (t : Tree) (c : ℕ) (f : ℕ → Made ℕ) → Told (to_child g t c (f (get_or (child_part g z t) c 0))) → Told (carried g z (child_entry t c f))
  unfolding carried
  told_child t c f h = h

  told_word : (t : Tree) (i : ℕ) (f : ℕ → Made ℕ) → Told (to_word g t i (f (get_or (word_part g z t) i 0))) → Told (carried g z (word_entry t i f))
  unfolding carried
  told_word t i f h = h

  -- ---- by what is stored

  told_look : (j : ℕ) (a : Answer) → Told (refuse a) → Told (to_cpu g j (look a))
  told_look j a h = rw (look_plan g j a) h

  told_absent : (j : ℕ) (a : Answer) → Told (says (Store.cpu j CpuEntry.Absent) a) → Told (to_cpu g j (store CpuEntry.Absent a))
  told_absent j a h = rw (absent_plan g j a) h

  told_holds : (j : ℕ) (t : Tree) (s k : ℕ) (a : Answer) → Passes (holds_checks g t s k) → Told (says (Store.cpu j (CpuEntry.Holds t s k)) a) → Told (to_cpu g j (store (CpuEntry.Holds t s k) a))
  told_holds j t s k a p h = rw (holds_plan g j t s k a p) h

  told_passes : (j : ℕ) (t : Tree) (s k : ℕ) (a : Answer) → capacity g t.0 < k → Told (refuse Answer.Damaged) → Told (to_cpu g j (store (CpuEntry.Holds t s k) a))
  unfolding to_cpu by_change laid_out by_cpu
  told_passes j t s k a l h = pick_elim Told (passes (holds_checks g t s k)) (λ e. let p = all_passed (holds_checks g t s k) e in absurd (omega (arith, p.1.1.0))) (λ e. h)

  told_tree_look : (t : Tree) (a : Answer) → Told (refuse a) → Told (to_tree g t (look a))
  told_tree_look t a h = rw (tree_look_plan g t a) h

  -- a tree's count that fits, and one that does not
  told_count : (t : Tree) (b k : ℕ) (a : Answer) → (k ≤ capacity g t.0 → Told (record { store = Store.tree t.0 b k; answer = a; mark = plain })) → (capacity g t.0 < k → Damage g z r) → Told (to_tree g t (store (tally b k) a))
  unfolding to_tree by_change
  told_count t b k a h d = pick_elim Told (leb k (capacity g t.0)) (λ e. h (leb-true _ _ e)) (λ e. damaged (d (leb-false _ _ e)))

  -- ---- by what the lower level says

  -- a claim, and the taking of a huge frame
  told_took : (t : Tree) (c x : ℕ) (test : ℕ → Bool) (v : ℕ → ℕ) (a : Answer) (m : Mark) (p : Answer) → number a ≡ 1 → number p ≡ 1 → (child_says x ≡ None → Damage g z r)
      → ((child_says x ≡ None → ⊥) → Damage g z r → ⊥) → (NotTaken g z r → ⊥)
      → Told (to_child g t c (on_took (by_child (child_says x) (told (Err Fault.Damaged)) (λ k. pick (test k) (changed (Ok Took.Taken) (v k)) (told (Ok Took.Passed))) (told (Ok Took.Passed))) a m p))
  unfolding to_child by_change by_took
  told_took t c x test v a m p ea ep d s n =
      let Q : Lowered (Result Took Fault) → Type 0 = λ l. Told (to_child g t c (on_took l a m p)) in
      child_elim Q (child_says x)
      (λ e. damaged (d e))
      (λ k e. let u = s (count_no x k e) in pick_elim Q (test k) (λ b. goes _ u n (inr ea)) (λ b. goes _ u n (inr ep)))
      (λ e. goes _ (s (flag_no x e)) n (inr ep))

  -- a count given back
  told_give : (t : Tree) (c x s : ℕ) (a : Answer) (m : Mark) → number a ≡ 1 → (child_says x ≡ None → Damage g z r)
      → (child_says x ≡ Some ChildEntry.Flagged → Damage g z r) → ((k : ℕ) → child_says x ≡ Some (ChildEntry.Counts k) → child_frames < k + s → Damage g z r)
      → ((k : ℕ) → child_says x ≡ Some (ChildEntry.Counts k) → k + s ≤ child_frames → Damage g z r → ⊥) → (NotTaken g z r → ⊥) → Told (to_child g t c (on_gave (give_count s x) a m))
  unfolding give_count to_child by_change by_gave
  told_give t c x s a m ea d f o u n =
      let Q : Lowered (Result Unit Fault) → Type 0 = λ l. Told (to_child g t c (on_gave l a m)) in
      child_elim Q (child_says x)
      (λ e. damaged (d e))
      (λ k e. pick_elim Q (leb (k + s) child_frames) (λ b. goes _ (u k e (leb-true _ _ b)) n (inr ea)) (λ b. damaged (o k e (leb-false _ _ b))))
      (λ e. damaged (f e))

  -- a huge frame cleared
  told_clear_huge : (t : Tree) (c x : ℕ) (a : Answer) (m : Mark) → number a ≡ 1 → (child_says x ≡ None → Damage g z r)
      → ((child_says x ≡ None → ⊥) → Damage g z r → ⊥) → ((k : ℕ) → child_says x ≡ Some (ChildEntry.Counts k) → NotTaken g z r) → (child_says x ≡ Some ChildEntry.Flagged → NotTaken g z r → ⊥)
      → Told (to_child g t c (on_gave (clear_huge x) a m))
  unfolding clear_huge to_child by_change by_gave
  told_clear_huge t c x a m ea d s n f =
      let Q : Lowered (Result Unit Fault) → Type 0 = λ l. Told (to_child g t c (on_gave l a m)) in
      child_elim Q (child_says x) (λ e. damaged (d e)) (λ k e. free (s (count_no x k e)) (n k e)) (λ e. goes _ (s (flag_no x e)) (f e) (inr ea))

  -- a run of bits cleared, and one taken
  told_clear : (t : Tree) (i s b w : ℕ) (a : Answer) (m : Mark) → number a ≡ 1 → (Damage g z r → ⊥)
      → (bits s b w ≢ 2 ^ s - 1 → NotTaken g z r) → (bits s b w ≡ 2 ^ s - 1 → NotTaken g z r → ⊥) → Told (to_word g t i (on_gave (clear_run s b w) a m))
  unfolding clear_run to_word by_change by_gave
  told_clear t i s b w a m ea d n f = pick_elim (λ (l : Lowered (Result Unit Fault)). Told (to_word g t i (on_gave l a m))) (eqb (bits s b w) (2 ^ s - 1))
      (λ e. goes _ d (f (eqb-true _ _ e)) (inr ea)) (λ e. free d (n (eqb-false _ _ e)))

  told_run : (t : Tree) (i s w : ℕ) (a : ℕ → Answer) (m : ℕ → Mark) (p : Answer) → ((b : ℕ) → number (a b) ≡ 1) → number p ≡ 1 → (Damage g z r → ⊥) → (NotTaken g z r → ⊥) → Told (to_word g t i (on_bit (take_run s w) a m p))
  unfolding take_run to_word by_change by_bit
  told_run t i s w a m p ea ep d n = pick_elim (λ (l : Lowered (Option ℕ)). Told (to_word g t i (on_bit l a m p))) _ (λ e. goes _ d n (inr (ea _))) (λ e. goes _ d n (inr ep))

same_count : (e : Option ChildEntry) (k k' : ℕ) → e ≡ Some (ChildEntry.Counts k) → e ≡ Some (ChildEntry.Counts k') → k ≡ k'
same_count e k k' p q = cc

same_tally : (e : Option TreeEntry) (b b' k k' : ℕ) → e ≡ Some (tallied b k) → e ≡ Some (tallied b' k') → k ≡ k'
unfolding by_tree
same_tally e b b' k k' p q = let f : Option TreeEntry → ℕ = λ o. by_tree o 0 (λ r k. k) in sym (ap f p) ∙ ap f q

same_entry : (e : Option CpuEntry) (t : Tree) (s s' k k' : ℕ) → e ≡ Some (CpuEntry.Holds t s k) → e ≡ Some (CpuEntry.Holds t s' k') → k ≡ k'
same_entry e t s s' k k' p q = cc

pub block_huge : (g : Shape) (b : Block) → Passes (block_in g b) → (huge_of_block b).0 < g.huge
block_huge g (Block.Run v f) h = omega (arith, h.0)
block_huge g (Block.Whole h) q = q.0

-- ---- the stages of a get

module _ (n : ℕ) (z : Zone) (n+ : 0 < n) (j : ℕ) (l : j < length z.cpus) where
  abbrev g : Shape
  g = shaped n z

  full : (t : Tree) → capacity g t.0 ≡ capacity_in n t
  unfolding children_of
  full t = refl

  k+ : 0 < per_tree g
  k+ = omega arith

  -- child c of tree t, and huge frame h, as the zone's table has them; and the word of frame f
  told_in_tree : (r : Record) (t : Tree) (c : ℕ) (f : ℕ → Made ℕ) → c < children_of g t.0 → Told g z r (to_child g t c (f (get_or z.children (t.0 * 32 + c) 0))) → Told g z r (carried g z (child_entry t c f))
  told_in_tree r t c f m h = told_child g z r t c f (rw (part_at (t.0 * 32) (children_of g t.0) z.children c 0 m) h)

  told_huge : (r : Record) (i : ℕ) (f : ℕ → Made ℕ) → i < n → Told g z r (to_child g (tree (i / 32)) (i % 32) (f (get_or z.children i 0))) → Told g z r (carried g z (child_entry (tree (i / 32)) (i % 32) f))
  told_huge r i f m h = told_child g z r (tree (i / 32)) (i % 32) f (rw (child_at_lem g k+ z i m) h)

  next_number : (o : Order) (p : Place) (s c : ℕ) → number (next_child g j o p s c) ≡ 1
  unfolding next_child
  next_number o p s c = pick_elim (λ a. number a ≡ 1) _ (λ b. refl) (λ b. refl)

  -- the own entry, if it holds tree t
  told_own : (r : Record) (t : Tree) (f : ℕ → ℕ → Made CpuEntry) (a : Answer) → number a ≡ 1 ⊎ number a ≡ 0 → (cpu_entry_at g z j ≡ None → Damage g z r)
      → (NotTaken g z r → ⊥) → ((cpu_entry_at g z j ≡ None → ⊥) → ((s k : ℕ) → cpu_entry_at g z j ≡ Some (CpuEntry.Holds t s k) → ⊥) → Damage g z r → ⊥)
      → ((s k : ℕ) → cpu_entry_at g z j ≡ Some (CpuEntry.Holds t s k) → Passes (holds_checks g t s k) → Told g z r (to_cpu g j (f s k))) → Told g z r (carried g z (if_own_holds g j t f (look a)))
  told_own r t f a ea d n u y = told_cpu g z r j (look a) _ d
      (λ e. told_look g z r j a (goes g z r (refuse a) (u (absent_clash _ e) (λ s k q. absent_holds _ t s k e q)) n (flip ea)))
      (λ v s k e p. pick_elim (λ (m : Made CpuEntry). Told g z r (to_cpu g j m)) (eqb v.0 t.0)
      (λ b. let q : v ≡ t = ap (λ i. tree i) (eqb-true v.0 t.0 b) in y s k (rw q at e) (subst (λ w. Passes (holds_checks g w s k)) q p))
      (λ b. told_look g z r j a (goes g z r (refuse a) (u (clash _ v s k e) (λ s' k' e'. eqb-false v.0 t.0 b (same_tree v t s s' k k' e e'))) n (flip ea))))
    where
      flip : number a ≡ 1 ⊎ number a ≡ 0 → (number a ≡ 0) ⊎ (number a ≡ 1)
      flip (inl q) = inr q
      flip (inr q) = inl q

      same_tree : (v t : Tree) (s s' k k' : ℕ) → cpu_entry_at g z j ≡ Some (CpuEntry.Holds v s k) → cpu_entry_at g z j ≡ Some (CpuEntry.Holds t s' k') → v.0 ≡ t.0
      same_tree v t s s' k k' p q = let w : v ≡ t = cc in ap (λ (x : Tree). x.0) w

  sound : {A B : Type 0} → (A → ⊥) → (B → ⊥) → A ⊎ B → ⊥
  sound f h (inl a) = f a
  sound f h (inr b) = h b

  never : ⊥ → ⊥
  never x = x

  tree_fits : (t : Tree) (x b k : ℕ) → tree_entry_at g z t ≡ Some (tallied b k) → k + x ≤ capacity g t.0 → TreePasses g z t x → ⊥
  tree_fits t x b k e m q = let w : k ≡ q.1 = same_tally (tree_entry_at g z t) b q.0 k q.1 e q.2 in omega (arith, q.3, full t)

  cpu_fits : (t : Tree) (x s k : ℕ) → cpu_entry_at g z j ≡ Some (CpuEntry.Holds t s k) → k + x ≤ capacity g t.0 → CpuPasses g z j t x → ⊥
  cpu_fits t x s k e m q = let w : k ≡ q.1 = same_entry (cpu_entry_at g z j) t s q.0 k q.1 e q.2 in omega (arith, q.3, full t)

  -- x added to a tree's count
  told_add : (r : Record) (t : Tree) (x y : ℕ) → y ≡ x → (n : ℕ → ℕ) (a : Answer) → (number a ≡ 0) ⊎ (number a ≡ 1) → ((tree_entry_at g z t ≡ None) ⊎ TreePasses g z t y → Damage g z r)
      → (Damage g z r → (tree_entry_at g z t ≡ None) ⊎ TreePasses g z t y) → (NotTaken g z r → ⊥) → Told g z r (carried g z (tree_entry t (λ b k. store (tally (n b) (k + x)) a)))
  told_add r t x y same n a ea d u f = told_tree g z r t _ (λ e. d (inl e)) (λ b k e l. told_count g z r t (n b) (k + x) a
      (λ m. goes g z r _ (λ q. sound (count_clash _ b k e) (tree_fits t y b k e (omega arith)) (u q)) f ea) (λ m. d (inr (b, k, e, omega (arith, full t)))))

  -- x added to the own entry's count, if it holds tree t
  told_own_add : (r : Record) (t : Tree) (x y : ℕ) → y ≡ x → (a a' : Answer) → (number a ≡ 0) ⊎ (number a ≡ 1) → number a' ≡ 1 → ((cpu_entry_at g z j ≡ None) ⊎ CpuPasses g z j t y → Damage g z r)
      → (Damage g z r → (cpu_entry_at g z j ≡ None) ⊎ CpuPasses g z j t y) → (NotTaken g z r → ⊥) → Told g z r (carried g z (if_own_holds g j t (λ s k. store (CpuEntry.Holds t s (k + x)) a) (look a')))
  told_own_add r t x y same a a' ea eb d u f = told_own r t _ a' (inl eb) (λ e. d (inl e)) f (λ v w q. sound v (λ q. w q.0 q.1 q.2) (u q)) (λ s k e p. elim (dec_le (k + x) (capacity g t.0)) [
    | yes m ↦ told_holds g z r j t s (k + x) a (p.0, (p.1.0, (omega arith, tt))) (goes g z r _ (λ q. sound (clash _ t s k e) (cpu_fits t y s k e (omega arith)) (u q)) f ea)
    | no m ↦ told_passes g z r j t s (k + x) a (omega arith) (damaged g z r (d (inr (s, k, e, omega (arith, full t)))))
  ])

  claimed : (o : Order) (t : Tree) (s k : ℕ) (r : Record) → Passes (holds_checks g t s k) → (Damage g z r → ⊥) → (NotTaken g z r → ⊥) → Told g z r (to_cpu g j (claim_own g j o t s k))
  unfolding claim_own
  claimed o t s k r p d n = told_holds g z r j t s (k - size o) _ (p.0, (p.1.0, (omega (arith, p.1.1.0), tt))) (goes g z r _ d n (inr refl))

  steal_number : (o : Order) (i : ℕ) (t : Tree) (x : ℕ) → number (steal_count g j o i t x) ≡ 1
  unfolding steal_count
  steal_number o i t x = pick_elim (λ a. number a ≡ 1) _ (λ b. refl) (λ b. refl)

  child_fits : (i s k : ℕ) → child z i ≡ Some (ChildEntry.Counts k) → k + s ≤ child_frames → ChildPasses g z i s → ⊥
  child_fits i s k e l (inl q) = count_flag _ k e q
  child_fits i s k e l (inr q) = let w : k ≡ q.0 = same_count (child z i) k q.0 e q.1 in omega (arith, q.2)

  no_room_lem : Told g z (Record.Get j Taking.NoRoom) (carried g z (no_entry Answer.NoRoom))
  unfolding carried
  no_room_lem = record { answered = inr (sound never never, inr (never, inr (refl, (j, refl)))); quiet = λ h. refl }

  abbrev Now : Taking → Type 0
  Now s = Told g z (Record.Get j s) (carried g z (take g j s))

  pub take_told : (s : Taking) → Passes (taking_in g j s) → Now s
  unfolding take taking_in release write steal_count search_child search_word claim take_huge
  take_told (Taking.Own o) h =
      let r : Record = Record.Get j (Taking.Own o) in
      told_cpu g z r j _ _ inl (λ e. told_look g z r j _ (goes g z r _ (sound (absent_clash _ e) never) never (inr refl)))
      (λ t s k e p. let d : Damage g z r → ⊥ = sound (clash _ t s k e) never in pick_elim (λ (m : Made CpuEntry). Told g z r (to_cpu g j m)) (leb (size o) k)
      (λ b. claimed o t s k r p d never) (λ b. told_look g z r j _ (goes g z r _ d never (inr refl))))
  take_told (Taking.TakeCount o t) h = told_tree g z _ t _ inl (λ b k e l. told_count g z _ t b 0 _ (λ m. goes g z _ _ (sound (count_clash _ b k e) never) never (inr refl)) (λ m. absurd (omega arith)))
  take_told (Taking.FillEntry o t x) h = told_own_add _ t x x refl _ _ (inr refl) refl (λ d. d) (λ d. d) never
  take_told (Taking.ReturnHand o t x) h = told_add _ t x x refl (λ b. b) _ (inr refl) (λ d. d) (λ d. d) never
  take_told (Taking.LookAgain o t) h =
      let r : Record = Record.Get j (Taking.LookAgain o t) in
      told_own r t _ _ (inl refl) inl never (λ u v. sound u never) (λ s k e p.
      let d : Damage g z r → ⊥ = sound (clash _ t s k e) never in pick_elim (λ (m : Made CpuEntry). Told g z r (to_cpu g j m)) (leb (size o) k)
      (λ b. claimed o t s k r p d never) (λ b. told_absent g z r j _ (goes g z r _ d never (inr refl))))
  take_told (Taking.Release o p) h = told_own _ (place_tree p) _ _ (inl refl) inl never (λ u v. sound u never) (λ s k e q. told_absent g z _ j _ (goes g z _ _ (sound (clash _ _ s k e) never) never (inr refl)))
  take_told (Taking.Unreserve o p x) h = told_add _ (place_tree p) x x refl (λ b. 0) _ (inr refl) (λ d. d) (λ d. d) never
  take_told (Taking.Try o p) h =
      let r : Record = Record.Get j (Taking.Try o p) in
      told_tree g z r (pass_tree p) _ inl (λ b k e l. let d : Damage g z r → ⊥ = sound (count_clash _ b k e) never in
      pick_elim (λ (m : Made Tally). Told g z r (to_tree g (pass_tree p) m)) (eqb b 0 && (fits p (class_of k) && leb (size o) k))
      (λ c. told_count g z r (pass_tree p) 1 0 _ (λ m. goes g z r _ d never (inr refl)) (λ m. absurd (omega arith)))
      (λ c. told_tree_look g z r (pass_tree p) _ (goes g z r _ d never (inr refl))))
  take_told (Taking.Write o f x) h =
      let r : Record = Record.Get j (Taking.Write o f x) in
      let w : (cpu_entry_at g z j ≡ None → ⊥) → Told g z r (to_cpu g j (write g j o f x)) = λ u. pick_elim (λ (m : Made CpuEntry). Told g z r (to_cpu g j m)) (leb (size o) x)
      (λ b. let q = passes_right (found_in g j f) _ h in
      let t : (found_tree f).0 < trees_of g = found_tree_lem g k+ n+ j l f (passes_left (found_in g j f) _ h) in
      told_holds g z r j (found_tree f) 0 (x - size o) _ (t, (kids_some g k+ _ t, (omega (arith, q.0), tt))) (goes g z r _ (sound u (λ q. omega (arith, leb-true (size o) x b, q, order_size o))) never (inr refl)))
      (λ b. told_look g z r j _ (damaged g z r (inr (omega (arith, leb-false (size o) x b, order_size o))))) in
      told_cpu g z r j _ _ inl (λ e. w (absent_clash _ e)) (λ t s k e p. w (clash _ t s k e))
  take_told (Taking.Steal o i) h = told_cpu g z _ i _ _ inl (λ e. told_look g z _ i _ (goes g z _ _ (sound (absent_clash _ e) never) never (inr refl)))
      (λ t s k e p. told_absent g z _ i _ (goes g z _ _ (sound (clash _ t s k e) never) never (inr refl)))
  take_told (Taking.StealCount o i t x) h =
      let r : Record = Record.Get j (Taking.StealCount o i t x) in
      told_tree g z r t _ inl (λ b k e l. pick_elim (λ (m : Made Tally). Told g z r (to_tree g t m)) (leb (x + k) (capacity g t.0))
      (λ c. told_count g z r t b 0 _ (λ m. goes g z r _ (sound (count_clash _ b k e) (tree_fits t x b k e (let y : x + k ≤ capacity g t.0 = leb-true _ _ c in omega arith))) never (inr (steal_number o i t (x + k)))) (λ m. absurd (omega arith)))
      (λ c. told_tree_look g z r t _ (damaged g z r (inr (b, k, e, (let y : capacity g t.0 < x + k = leb-false _ _ c in omega (arith, full t)))))))
  take_told (Taking.Child (Order.Run v) p s c) h = told_in_tree _ (place_tree p) c _ (passes_right (place_in g j p) _ h).1.0 (told_took g z _ (place_tree p) c _ (λ k. leb (run_size v) k) _ _ _ _ refl (next_number (Order.Run v) p s c) inl (λ u. sound u never) never)
  take_told (Taking.Child Order.Nine p s c) h = told_in_tree _ (place_tree p) c _ (passes_right (place_in g j p) _ h).1.0 (told_took g z _ (place_tree p) c _ (λ k. eqb k child_frames) _ _ _ _ refl (next_number Order.Nine p s c) inl (λ u. sound u never) never)
  take_told (Taking.Word v p s c w) h = told_word g z _ (place_tree p) _ _ (told_run g z _ (place_tree p) _ (run_size v) _ _ _ _ (λ b. refl) (pick_elim (λ a. number a ≡ 1) (ltb (suc w) child_words) (λ b. refl) (λ b. refl)) (sound never never) never)
  take_told (Taking.GiveBack v p s c) h = told_in_tree _ (place_tree p) c _ (passes_right (place_in g j p) _ h).1.0 (told_give g z _ (place_tree p) c _ (run_size v) _ _ (next_number (Order.Run v) p s c) inl (λ e. inr (inl e)) (λ k e l. inr (inr (k, e, omega (arith, run_size_lem v))))
      (λ k e l. sound (count_no _ k e) (child_fits _ (run_frames v) k e (omega (arith, run_size_lem v)))) never)
  take_told (Taking.Last b) h = told_own _ (tree_of_block g b) _ _ (inr refl) inl never (λ u v. sound u never) (λ s k e p.
      told_holds g z _ j (tree_of_block g b) (child_of_block g b) k _ (p.0, (number_in g k+ _ (block_huge g b h), (p.1.1.0, tt))) (goes g z _ _ (sound (clash _ _ s k e) never) never (inl refl)))
  take_told (Taking.Fail o p) h = told_add _ (place_tree p) (size o) (order_frames o) (order_size o) (λ b. b) _ (inr refl) (λ d. d) (λ d. d) never
  take_told Taking.NoRoom h = no_room_lem

  -- ---- the stages of a put

  -- where a run's bits are all ones none is clear
  none_clear : (v : Run) (b w : ℕ) → bits (run_size v) b w ≡ 2 ^ run_size v - 1 → (i : ℕ) × (i < run_size v) × (bit (b + i) w ≡ 0) → ⊥
  none_clear v b w e q = omega (arith, bits_taken (run_size v) b w q.0 e q.1, q.2)

  -- a run's bits lie in its first frame's word
  frame_bit : (v : Run) (f i : ℕ) → f < n * 512 → f % run_size v ≡ 0 → i < run_size v → bit (f % 64 + i) (get_or (word_part g z (tree (f / 512 / 32))) (8 * (f / 512 % 32) + f % 512 / 64) 0) ≡ taken z (f + i)
  frame_bit v f i m a o =
      let e = part_at (8 * (f / 512 / 32 * 32)) (8 * children_of g (f / 512 / 32)) z.words (8 * (f / 512 % 32) + f % 512 / 64) 0 (omega (arith, number_in g k+ (f / 512) (omega arith))) in
      let w : 8 * (f / 512 / 32 * 32) + (8 * (f / 512 % 32) + f % 512 / 64) ≡ (f + i) / 64 = omega (arith, bit_ends v f a) in
      let b : f % 64 + i ≡ (f + i) % 64 = omega (arith, bit_ends v f a) in
      rw (e, w, b) refl

  pub give_told : (s : Giving) → Passes (giving_in g s) → Told g z (Record.Put j s) (carried g z (give g j s))
  unfolding give clear giving_in
  give_told (Giving.Clear (Block.Run v f)) h = told_word g z _ _ _ _ (told_clear g z _ _ _ (run_size v) _ _ _ _ refl (sound never never) (λ e. let q = some_free (run_size v) _ _ e in (q.0, omega (arith, q.1, run_size_lem v), sym (frame_bit v f.0 q.0 h.0 h.1.0 q.1) ∙ q.2))
      (λ e q. let m : q.0 < run_size v = omega (arith, q.1, run_size_lem v) in none_clear v _ _ e (q.0, m, frame_bit v f.0 q.0 h.0 h.1.0 m ∙ q.2)))
  give_told (Giving.Clear (Block.Whole b)) h = told_huge _ b.0 _ h.0 (told_clear_huge g z _ _ _ _ _ _ refl inl (λ u. sound u never) (λ k e. (k, e)) (λ e q. count_flag _ q.0 q.1 e))
  give_told (Giving.Raise v f) h = told_huge _ (f.0 / 512) _ (block_huge g (Block.Run v f) h) (told_give g z _ _ _ _ (run_size v) _ _ refl inl (λ e. inr (inl e)) (λ k e l. inr (inr (k, e, omega (arith, run_size_lem v)))) (λ k e l. sound (count_no _ k e) (child_fits _ (run_frames v) k e (omega (arith, run_size_lem v)))) never)
  give_told (Giving.ToEntry b) h = told_own_add _ (tree_of_block g b) (size_of b) (block_frames b) (block_size b) _ _ (inl refl) refl (λ d. d) (λ d. d) never
  give_told (Giving.ToTree b) h = told_add _ (tree_of_block g b) (size_of b) (block_frames b) (block_size b) (λ x. x) _ (inl refl) (λ d. d) (λ d. d) never
