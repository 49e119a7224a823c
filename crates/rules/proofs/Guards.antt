-- What is known where a plan goes on: of the refusals before it, of the entry read, of what the lower level said.
use Rattle.std.specs.Prelude.{Option, Some, None, Result, Ok, Err}
use mathlib.Core.Path.{◌≡◌, refl, ap}
use mathlib.Core.Bool.{false, not}
use mathlib.Core.List.{List, [], ◌∷◌}
use Prim.Native.Nat.{ℕ, ◌+◌, ◌*◌, ◌≤◌}
use native.Mathlib.Omega.{arith}
use lib.Dec.{leb}
use lib.ListN.{get_or}
use borrow.Author.Tests.{leb-true, le-leb, not-false}
use Rattle.laws.specs.Tests.{pick, Check, passes, Passes}
use Rattle.laws.proofs.Tests.{pick_elim, pick_yes, all_passed, passes_of}
use Rattle.rules.specs.Types.{Tree, ChildEntry, TreeEntry, CpuEntry, Took, Fault, Answer}
use Rattle.rules.specs.Numbers.{child_words, Shape, per_tree, capacity}
use Rattle.rules.specs.Entries.{field, tree_layout, holds_checks, tree_says, cpu_says, tallied}
use Rattle.rules.specs.Lower.{Change, keep, become, Lowered, told, changed, by_child}
use Rattle.rules.specs.Zone.{Zone, Store, nothing, word, child, tree as tree_store, cpu, tree_entry_at, cpu_entry_at, child_part, word_part}
use Rattle.rules.proofs.Layouts.{CpuView, broken_cpu, absent, holds, cpu_view}
use Rattle.rules.specs.Plan.{Mark, plain, Plan, says, refuse, Refusal, guarded, Made, look, store, Tally, tally, Step, no_entry, cpu_entry, tree_entry, child_entry, word_entry, by_change, by_cpu, by_tree, made, laid_out, to_cpu, to_tree, to_child, to_word, carried, lowered, by_took, by_bit, by_gave, on_took, on_bit, on_gave}

-- ---- refusals: each answer of the list, and what is known past it
abbrev pub EachRefusal : (Plan → Type 0) → List Refusal → Type 0
EachRefusal Q [] = Unit {0}
EachRefusal Q (x ∷ l) = Q (refuse x.answer) × EachRefusal Q l

abbrev pub NoRefusal : List Refusal → Type 0
NoRefusal [] = Unit {0}
NoRefusal (x ∷ l) = (x.test ≡ false) × NoRefusal l

pub guarded_elim : (Q : Plan → Type 0) (l : List Refusal) (p : Plan) → EachRefusal Q l → (NoRefusal l → Q p) → Q (guarded l p)
unfolding guarded
guarded_elim Q [] p h k = k tt
guarded_elim Q (x ∷ l) p h k = pick_elim Q x.test (λ e. h.0) (λ e. guarded_elim Q l p h.1 (λ n. k (e, n)))

-- checks that are not refused have passed
pub not_refused : (l : List Check) → not (passes l) ≡ false → Passes l
not_refused l e = all_passed l (not-false (passes l) e)

-- ---- the entry read
pub cpu_elim : {A : Type 0} (Q : A → Type 0) (e : Option CpuEntry) {d a : A} {f : Tree → ℕ → ℕ → A}
    → (e ≡ None → Q d) → (e ≡ Some CpuEntry.Absent → Q a) → ((t : Tree) (s k : ℕ) → e ≡ Some (CpuEntry.Holds t s k) → Q (f t s k)) → Q (by_cpu e d a f)
unfolding by_cpu
cpu_elim Q None x y z = x refl
cpu_elim Q (Some CpuEntry.Absent) x y z = y refl
cpu_elim Q (Some (CpuEntry.Holds t s k)) x y z = z t s k refl

pub tree_elim : {A : Type 0} (Q : A → Type 0) (e : Option TreeEntry) {d : A} {f : ℕ → ℕ → A} → (e ≡ None → Q d) → ((r k : ℕ) → e ≡ Some (tallied r k) → Q (f r k)) → Q (by_tree e d f)
unfolding by_tree
tree_elim Q None x y = x refl
tree_elim Q (Some e) x y = y e.reserved e.count refl

pub child_elim : {A : Type 0} (Q : A → Type 0) (e : Option ChildEntry) {d a : A} {f : ℕ → A} → (e ≡ None → Q d) → ((k : ℕ) → e ≡ Some (ChildEntry.Counts k) → Q (f k)) → (e ≡ Some ChildEntry.Flagged → Q a) → Q (by_child e d f a)
unfolding by_child
child_elim Q None x y w = x refl
child_elim Q (Some (ChildEntry.Counts k)) x y w = y k refl
child_elim Q (Some ChildEntry.Flagged) x y w = w refl

pub change_elim : {A B : Type 0} (Q : B → Type 0) (c : Change A) {k : B} {f : A → B} → (c ≡ keep → Q k) → ((v : A) → c ≡ become v → Q (f v)) → Q (by_change c k f)
unfolding by_change
change_elim Q keep x y = x refl
change_elim Q (become v) x y = y v refl

-- what a well-formed entry says is in range
pub holds_in : (g : Shape) (x : ℕ) (t : Tree) (s k : ℕ) → cpu_says g x ≡ Some (CpuEntry.Holds t s k) → Passes (holds_checks g t s k)
holds_in g x t s k = go (cpu_says g x) (cpu_view g x)
  where
    go : (c : Option CpuEntry) → CpuView g x c → c ≡ Some (CpuEntry.Holds t s k) → Passes (holds_checks g t s k)
    go None (broken_cpu n) e = let z : ◌≡◌ {A = ℕ} 0 1 = cc in absurd (omega arith)
    go (Some CpuEntry.Absent) (absent n) e = let z : ◌≡◌ {A = ℕ} 0 1 = cc in absurd (omega arith)
    go (Some (CpuEntry.Holds u a b)) (holds n m p) e =
        let q : u ≡ t = cc in
        let v : a ≡ s = cc in
        let w : b ≡ k = cc in
        rw (← q, ← v, ← w) p

pub count_in_lem : (g : Shape) (t : Tree) (x r k : ℕ) → tree_says g t x ≡ Some (tallied r k) → k ≤ capacity g t.0
unfolding tree_says by_tree
count_in_lem g t x r k = pick_elim (λ e. e ≡ Some (tallied r k) → k ≤ capacity g t.0) (leb (field tree_layout 1 x) (capacity g t.0))
    (λ b e. let a : field tree_layout 1 x ≡ k = ap (λ (o : Option TreeEntry). by_tree o 0 (λ r k. k)) e in omega (arith, leb-true (field tree_layout 1 x) (capacity g t.0) b))
    (λ b e. let z : ◌≡◌ {A = ℕ} 0 1 = cc in absurd (omega arith))

-- ---- the plan of a look, and of a store that keeps its layout
module _ (g : Shape) where
  pub look_plan : (j : ℕ) (a : Answer) → to_cpu g j (look a) ≡ refuse a
  unfolding to_cpu by_change
  look_plan j a = refl

  pub absent_plan : (j : ℕ) (a : Answer) → to_cpu g j (store CpuEntry.Absent a) ≡ says (cpu j CpuEntry.Absent) a
  unfolding to_cpu by_change laid_out by_cpu pick
  absent_plan j a = refl

  pub holds_plan : (j : ℕ) (t : Tree) (s k : ℕ) (a : Answer) → Passes (holds_checks g t s k) → to_cpu g j (store (CpuEntry.Holds t s k) a) ≡ says (cpu j (CpuEntry.Holds t s k)) a
  unfolding to_cpu by_change laid_out by_cpu
  holds_plan j t s k a p = pick_yes _ _ _ (passes_of (holds_checks g t s k) p)

  pub tree_look_plan : (t : Tree) (a : Answer) → to_tree g t (look a) ≡ refuse a
  unfolding to_tree by_change
  tree_look_plan t a = refl

  pub tally_plan : (t : Tree) (b k : ℕ) (a : Answer) → k ≤ capacity g t.0 → to_tree g t (store (tally b k) a) ≡ says (tree_store t.0 b k) a
  unfolding to_tree by_change
  tally_plan t b k a h = pick_yes _ _ _ (le-leb k (capacity g t.0) h)

  -- of a child or a word, by what the lower level said
  pub taken_plan : (t : Tree) (c v : ℕ) (a : Answer) (m : Mark) (p : Answer) → to_child g t c (on_took (changed (Ok Took.Taken) v) a m p) ≡ record { store = child (t.0 * per_tree g + c) v; answer = a; mark = m }
  unfolding to_child by_change by_took
  taken_plan t c v a m p = refl

  pub passed_plan : (t : Tree) (c : ℕ) (a : Answer) (m : Mark) (p : Answer) → to_child g t c (on_took (told (Ok Took.Passed)) a m p) ≡ refuse p
  unfolding to_child by_change by_took
  passed_plan t c a m p = refl

  pub given_plan : (t : Tree) (c v : ℕ) (a : Answer) (m : Mark) → to_child g t c (on_gave (changed (Ok tt) v) a m) ≡ record { store = child (t.0 * per_tree g + c) v; answer = a; mark = m }
  unfolding to_child by_change by_gave
  given_plan t c v a m = refl

  pub bit_plan : (t : Tree) (i b v : ℕ) (a : ℕ → Answer) (m : ℕ → Mark) (p : Answer) → to_word g t i (on_bit (changed (Some b) v) a m p) ≡ record { store = word (child_words * (t.0 * per_tree g) + i) v; answer = a b; mark = m b }
  unfolding to_word by_change by_bit
  bit_plan t i b v a m p = refl

  pub full_plan : (t : Tree) (i : ℕ) (a : ℕ → Answer) (m : ℕ → Mark) (p : Answer) → to_word g t i (on_bit (told None) a m p) ≡ refuse p
  unfolding to_word by_change by_bit
  full_plan t i a m p = refl

  pub cleared_plan : (t : Tree) (i v : ℕ) (a : Answer) (m : Mark) → to_word g t i (on_gave (changed (Ok tt) v) a m) ≡ record { store = word (child_words * (t.0 * per_tree g) + i) v; answer = a; mark = m }
  unfolding to_word by_change by_gave
  cleared_plan t i v a m = refl

-- ---- the answer of a step, by the entry that it reads
abbrev pub Answers : Shape → (Answer → Type 0) → Step → Type 0
Answers g P (no_entry a) = P a
Answers g P (cpu_entry j a f) = P a.answer × ((t : Tree) (s k : ℕ) → Passes (holds_checks g t s k) → P (f t s k).answer)
Answers g P (tree_entry t f) = (r k : ℕ) → k ≤ capacity g t.0 → P (f r k).answer
Answers g P (child_entry t c f) = (x : ℕ) → P (f x).answer
Answers g P (word_entry t i f) = (x : ℕ) → P (f x).answer

module _ (g : Shape) (z : Zone) (P : Answer → Type 0) (bad : P Answer.Damaged) where
  cpu_answer : (j : ℕ) (m : Made CpuEntry) → P m.answer → P (to_cpu g j m).answer
  unfolding to_cpu
  cpu_answer j m h = change_elim (λ (p : Plan). P p.answer) m.change {k = made _ m} (λ e. h) (λ v e. pick_elim (λ (p : Plan). P p.answer) (laid_out g v) (λ b. h) (λ b. bad))

  tree_answer : (t : Tree) (m : Made Tally) → P m.answer → P (to_tree g t m).answer
  unfolding to_tree
  tree_answer t m h = change_elim (λ (p : Plan). P p.answer) m.change {k = made _ m} (λ e. h) (λ v e. pick_elim (λ (p : Plan). P p.answer) (leb v.count (capacity g t.0)) (λ b. h) (λ b. bad))

  pub answers : (s : Step) → Answers g P s → P (carried g z s).answer
  unfolding carried to_child to_word
  answers (no_entry a) h = h
  answers (cpu_entry j a f) h = cpu_elim (λ (p : Plan). P p.answer) (cpu_entry_at g z j) (λ e. bad) (λ e. cpu_answer j a h.0) (λ t s k e. cpu_answer j (f t s k) (h.1 t s k (holds_in g (get_or z.cpus j 0) t s k e)))
  answers (tree_entry t f) h = tree_elim (λ (p : Plan). P p.answer) (tree_entry_at g z t) (λ e. bad) (λ r k e. tree_answer t (f r k) (h r k (count_in_lem g t (get_or z.trees t.0 0) r k e)))
  answers (child_entry t c f) h = let x : ℕ = get_or (child_part g z t) c 0 in change_elim (λ (p : Plan). P p.answer) (f x).change {k = made _ (f x)} {f = λ v. made _ (f x)} (λ e. h x) (λ v e. h x)
  answers (word_entry t i f) h = let x : ℕ = get_or (word_part g z t) i 0 in change_elim (λ (p : Plan). P p.answer) (f x).change {k = made _ (f x)} {f = λ v. made _ (f x)} (λ e. h x) (λ v e. h x)

-- ---- the store of a step, by the entry that it reads: that entry, or nothing
module _ (g : Shape) (z : Zone) (P : Store → Type 0) (none : P nothing) where
  pub stores : (s : Step) → ((j : ℕ) (e : CpuEntry) → P (cpu j e)) → ((i r k : ℕ) → P (tree_store i r k)) → ((i v : ℕ) → P (child i v)) → ((i v : ℕ) → P (word i v)) → P (carried g z s).store
  unfolding carried to_cpu to_tree to_child to_word
  stores (no_entry a) c t h w = none
  stores (cpu_entry j a f) c t h w = cpu_elim Q (cpu_entry_at g z j) (λ e. none) (λ e. to a) (λ u s k e. to (f u s k))
    where
      Q : Plan → Type 0
      Q p = P p.store

      to : (m : Made CpuEntry) → P (to_cpu g j m).store
      to m = change_elim Q m.change (λ e. none) (λ v e. pick_elim Q (laid_out g v) (λ b. c j v) (λ b. none))
  stores (tree_entry t' f) c t h w = tree_elim Q (tree_entry_at g z t') (λ e. none) (λ r k e. to (f r k))
    where
      Q : Plan → Type 0
      Q p = P p.store

      to : (m : Made Tally) → P (to_tree g t' m).store
      to m = change_elim Q m.change (λ e. none) (λ v e. pick_elim Q (leb v.count (capacity g t'.0)) (λ b. t t'.0 v.reserved v.count) (λ b. none))
  stores (child_entry t' i f) c t h w = change_elim (λ (p : Plan). P p.store) (f (get_or (child_part g z t') i 0)).change (λ e. none) (λ v e. h _ v)
  stores (word_entry t' i f) c t h w = change_elim (λ (p : Plan). P p.store) (f (get_or (word_part g z t') i 0)).change (λ e. none) (λ v e. w _ v)

-- ---- the answer, by what the lower level said
module _ (P : Answer → Type 0) (bad : P Answer.Damaged) where
  pub took_answer : (l : Lowered (Result Took Fault)) (a : Answer) (m : Mark) (p : Answer) → P a → P p → P (on_took l a m p).answer
  unfolding by_took
  took_answer l a m p x y = go l.said
    where
      go : (s : Result Took Fault) → P (by_took s (lowered l a m) (lowered l p plain) (lowered l Answer.Damaged plain)).answer
      go (Ok Took.Taken) = x
      go (Ok Took.Passed) = y
      go (Err f) = bad

  pub bit_answer : (l : Lowered (Option ℕ)) (a : ℕ → Answer) (m : ℕ → Mark) (p : Answer) → ((b : ℕ) → l.said ≡ Some b → P (a b)) → P p → P (on_bit l a m p).answer
  unfolding by_bit
  bit_answer l a m p x y = go l.said refl
    where
      go : (s : Option ℕ) → l.said ≡ s → P (by_bit s (λ b. lowered l (a b) (m b)) (lowered l p plain)).answer
      go (Some b) e = x b e
      go None e = y

  pub gave_answer : P Answer.NotTaken → (l : Lowered (Result Unit Fault)) (a : Answer) (m : Mark) → P a → P (on_gave l a m).answer
  unfolding by_gave
  gave_answer n l a m x = go l.said
    where
      go : (s : Result Unit Fault) → P (by_gave s (lowered l a m) (lowered l Answer.NotTaken plain) (lowered l Answer.Damaged plain)).answer
      go (Ok tt) = x
      go (Err Fault.NotTaken) = n
      go (Err Fault.Damaged) = bad
      go (Err Fault.NoEntry) = bad
      go (Err Fault.NoChild) = bad
      go (Err Fault.NoWord) = bad
      go (Err Fault.NoBit) = bad
      go (Err Fault.NoField) = bad
      go (Err Fault.TooMany) = bad
