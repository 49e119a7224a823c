-- What open and close look at, decided: damaged entries, fields under a flag, and whether the zone is settled.
use Rattle.std.specs.Prelude.{Option, Some, None}
use mathlib.Core.Path.{◌≡◌, refl, sym, ◌∙◌}
use mathlib.Core.Logic.{◌≢◌}
use mathlib.Core.Bool.{Bool, true, false, not}
use Prim.Native.Nat.{ℕ, ◌+◌, ◌-◌, ◌*◌, ◌≤◌, ◌<◌}
use native.Mathlib.Omega.{arith}
use native.Mathlib.Decide.{dec_le}
use lib.Dec.{eqb}
use lib.ListN.{length, get_or}
use borrow.Author.Tests.{eqb-true, eqb-false, not-true, not-false}
use Rattle.laws.specs.Tests.{pick}
use Rattle.laws.specs.Sum.{sum_to}
use Rattle.laws.proofs.Tests.{true_false}
use Rattle.laws.proofs.Sum.{sum_ext, sum_add, sum_const, sum_full, sum_some}
use Rattle.laws.proofs.Words.{bit_le}
use Rattle.laws.proofs.Parts.{part_at}
use Rattle.rules.specs.Types.{Tree, ChildEntry, TreeEntry, CpuEntry, Opening, Record}
use Rattle.rules.specs.Numbers.{Shape, trees_of, children_of}
use Rattle.rules.specs.Conversions.{huge, tree}
use Rattle.rules.specs.Lower.{child_says, by_child, well_formed, is_flagged, count_in, empty_field, part_sum}
use Rattle.rules.specs.Zone.{Zone, shaped, child_part, tree_entry_at, cpu_entry_at}
use Rattle.rules.specs.Plan.{by_tree, by_cpu}
use Rattle.rules.specs.Open.{child_at, zeros_at, empty_at, children_formed, flags_empty, trees_formed, cpus_formed, child_settled, tree_count, cpu_count, child_count, tree_settled, settled, opening_sound, open_step_sound}
use Rattle.rules.specs.InRange.{children_in, OpenIn}
use Rattle.rules.specs.Refusals.{of_child, of_tree, of_cpu, child, taken, BadChild, BadField, BadTree, BadCpu, BadOpening, Settled}
use Rattle.rules.proofs.Lists.{Decides, decides_iff, decides_some, decides_all, decides_eq, decides_both}
use Rattle.rules.proofs.Fields.{zero_frames}
use Rattle.rules.proofs.Fresh.{child_at_lem}
use Rattle.rules.proofs.Phases.{zeros_at_lem}

-- ---- one entry

formed_is : (x : ℕ) → Decides (not (well_formed x)) (child_says x ≡ None)
unfolding well_formed by_child
formed_is x = go (child_says x)
  where
    go : (e : Option ChildEntry) → Decides (not (by_child e false (λ k. true) true)) (e ≡ None)
    go None = record { when_true = λ q. refl; when_false = λ q. true_false q }
    go (Some (ChildEntry.Counts k)) = record { when_true = λ q. true_false (sym q); when_false = λ q h. let z : ◌≡◌ {A = ℕ} 0 1 = cc in omega arith }
    go (Some ChildEntry.Flagged) = record { when_true = λ q. true_false (sym q); when_false = λ q h. let z : ◌≡◌ {A = ℕ} 0 1 = cc in omega arith }

flag_is : (x : ℕ) (b : Bool) (P : Type 0) → Decides (not b) P → Decides (not (pick (is_flagged x) b true)) ((child_says x ≡ Some ChildEntry.Flagged) × P)
unfolding is_flagged by_child pick
flag_is x b P d = go (child_says x)
  where
    go : (e : Option ChildEntry) → Decides (not (pick (by_child e false (λ k. false) true) b true)) ((e ≡ Some ChildEntry.Flagged) × P)
    go None = record { when_true = λ q. true_false (sym q); when_false = λ q h. let z : ◌≡◌ {A = ℕ} 0 1 = cc h.0 in omega arith }
    go (Some (ChildEntry.Counts k)) = record { when_true = λ q. true_false (sym q); when_false = λ q h. let z : ◌≡◌ {A = ℕ} 0 1 = cc h.0 in omega arith }
    go (Some ChildEntry.Flagged) = record { when_true = λ q. (refl, d.when_true q); when_false = λ q h. d.when_false q h.1 }

tree_is : (e : Option TreeEntry) → Decides (not (by_tree e false (λ r k. true))) (e ≡ None)
unfolding by_tree
tree_is None = record { when_true = λ q. refl; when_false = λ q. true_false q }
tree_is (Some e) = record { when_true = λ q. true_false (sym q); when_false = λ q h. let z : ◌≡◌ {A = ℕ} 0 1 = cc in omega arith }

cpu_is : (e : Option CpuEntry) → Decides (not (by_cpu e false true (λ t s k. true))) (e ≡ None)
unfolding by_cpu
cpu_is None = record { when_true = λ q. refl; when_false = λ q. true_false q }
cpu_is (Some CpuEntry.Absent) = record { when_true = λ q. true_false (sym q); when_false = λ q h. let z : ◌≡◌ {A = ℕ} 0 1 = cc in omega arith }
cpu_is (Some (CpuEntry.Holds t s k)) = record { when_true = λ q. true_false (sym q); when_false = λ q h. let z : ◌≡◌ {A = ℕ} 0 1 = cc in omega arith }

-- a child that is not damaged, if its a is clear, counts n
count_is : (x n : ℕ) → (child_says x ≡ None → ⊥) → Decides (pick (is_flagged x) true (eqb (count_in x) n)) ((k : ℕ) → child_says x ≡ Some (ChildEntry.Counts k) → k ≡ n)
unfolding is_flagged count_in by_child pick
count_is x n = go (child_says x)
  where
    go : (e : Option ChildEntry) → (e ≡ None → ⊥) → Decides (pick (by_child e false (λ k. false) true) true (eqb (by_child e 0 (λ k. k) 0) n)) ((k : ℕ) → e ≡ Some (ChildEntry.Counts k) → k ≡ n)
    go None h = absurd (h refl)
    go (Some (ChildEntry.Counts c)) h = decides_iff _ _ _ (λ p k e. let q : c ≡ k = cc in sym q ∙ p) (λ f. f c refl) (decides_eq c n)
    go (Some ChildEntry.Flagged) h = record { when_true = λ q k e. let z : ◌≡◌ {A = ℕ} 0 1 = cc in absurd (omega arith); when_false = λ q. true_false q }

-- ---- what entries count

tree_counts : (e : Option TreeEntry) → by_tree e 0 (λ r k. k) ≡ of_tree e
unfolding by_tree
tree_counts None = refl
tree_counts (Some e) = refl

cpu_counts : (t : Tree) (e : Option CpuEntry) → by_cpu e 0 0 (λ u s k. pick (eqb u.0 t.0) k 0) ≡ of_cpu t e
unfolding by_cpu
cpu_counts t None = refl
cpu_counts t (Some CpuEntry.Absent) = refl
cpu_counts t (Some (CpuEntry.Holds u s k)) = refl

child_counts : (e : Option ChildEntry) → by_child e 0 (λ k. k) 0 ≡ of_child e
unfolding by_child
child_counts None = refl
child_counts (Some (ChildEntry.Counts k)) = refl
child_counts (Some ChildEntry.Flagged) = refl

-- of n bits not all zero one is set
some_set : (n : ℕ) (b : ℕ → ℕ) → ((i : ℕ) → b i ≤ 1) → sum_to n (λ i. 1 - b i) ≢ n → (i : ℕ) × (i < n) × (b i ≡ 1)
some_set n b l h =
    let e = sum_add n (λ i. 1 - b i) b (λ i. 1) (λ i m. omega (arith, l i)) in
    let s = sum_some n b (elim (dec_le 1 (sum_to n b)) [ yes p ↦ p | no p ↦ absurd (h (omega (arith, e, sum_const n 1 (λ i. 1) (λ i m. refl)))) ]) in
    (s.0, s.1, omega (arith, l s.0, s.2))

-- ---- the zone

module _ (n : ℕ) (z : Zone) where
  abbrev g : Shape
  g = shaped n z

  at_child : (i : ℕ) → i < n → child_at g z (huge i) ≡ get_or z.children i 0
  at_child = child_at_lem g (omega arith) z

  -- child c of tree t, in the tree's part
  in_part : (t : Tree) (c : ℕ) → c < children_in n t → get_or (child_part g z t) c 0 ≡ get_or z.children (t.0 * 32 + c) 0
  unfolding children_of
  in_part t c l = part_at (t.0 * 32) (children_in n t) z.children c 0 l

  zeros_of : (i : ℕ) → i < n → zeros_at g z (huge i) ≡ sum_to 512 (λ f. 1 - taken z (512 * i + f))
  zeros_of i l = zeros_at_lem g (omega arith) z i l ∙ zero_frames z.words i

  field_is : (i : ℕ) → i < n → Decides (not (empty_at g z (huge i))) ((f : ℕ) × (f < 512) × (taken z (512 * i + f) ≡ 1))
  unfolding empty_field
  field_is i l = record {
    when_true = λ e. some_set 512 (λ f. taken z (512 * i + f)) (λ f. bit_le _ _) (λ q. eqb-false _ _ (not-true _ e) (zeros_of i l ∙ q));
    when_false = λ e s. let q = sum_full 512 _ (λ f m. omega arith) (sym (zeros_of i l) ∙ eqb-true _ _ (not-false _ e)) s.0 s.1 in omega (arith, q, s.2);
  }

  pub children_are : Decides (not (children_formed g z)) (BadChild n z)
  unfolding children_formed
  children_are = decides_some _ _ _ (λ i l. rw (at_child i l) (formed_is (get_or z.children i 0)))

  pub fields_are : Decides (not (flags_empty g z)) (BadField n z)
  unfolding flags_empty
  fields_are = decides_iff _ _ _ (λ h. (h.0, h.1, h.2.0, h.2.1)) (λ h. (h.0, h.1, (h.2, h.3)))
      (decides_some n _ (λ i. (child z i ≡ Some ChildEntry.Flagged) × ((f : ℕ) × (f < 512) × (taken z (512 * i + f) ≡ 1))) (λ i l. rw (at_child i l) (flag_is (get_or z.children i 0) (empty_at g z (huge i)) _ (field_is i l))))

  pub trees_are : Decides (not (trees_formed g z)) (BadTree n z)
  unfolding trees_formed trees_of
  trees_are = decides_some _ _ _ (λ i l. tree_is (tree_entry_at g z (tree i)))

  pub cpus_are : Decides (not (cpus_formed g z)) (BadCpu n z)
  unfolding cpus_formed
  cpus_are = decides_some _ _ _ (λ j l. cpu_is (cpu_entry_at g z j))

  pub opening_is : (r : Record) → OpenIn n (length z.cpus) r → Decides (not (open_step_sound g z r)) (BadOpening n z r)
  unfolding open_step_sound opening_sound children_of
  opening_is Record.Finished h = absurd h
  opening_is (Record.Get j s) h = absurd h
  opening_is (Record.Put j s) h = absurd h
  opening_is (Record.Create s) h = absurd h
  opening_is (Record.Open (Opening.Children i)) h = rw (at_child i.0 h) (formed_is (get_or z.children i.0 0))
  opening_is (Record.Open (Opening.Trees t)) h = decides_some _ _ _ (λ c l. rw (in_part t c l) (formed_is (get_or z.children (t.0 * 32 + c) 0)))
  opening_is (Record.Open (Opening.Cpus j)) h = record { when_true = λ q. true_false (sym q); when_false = λ q h. h }

  tree_settled_lem : (t : Tree) → Decides (tree_settled g z t) (of_tree (tree_entry_at g z t) + sum_to (length z.cpus) (λ j. of_cpu t (cpu_entry_at g z j)) ≡ sum_to (children_in n t) (λ c. of_child (child z (t.0 * 32 + c))))
  unfolding tree_settled tree_count cpu_count child_count part_sum count_in children_of
  tree_settled_lem t =
      let a = tree_counts (tree_entry_at g z t) in
      let b = sum_ext (length z.cpus) (cpu_count g z t) (λ j. of_cpu t (cpu_entry_at g z j)) (λ j l. cpu_counts t (cpu_entry_at g z j)) in
      let c = sum_ext (children_in n t) (λ c. count_in (get_or (child_part g z t) c 0)) (λ c. of_child (child z (t.0 * 32 + c))) (λ c l. rw (in_part t c l) (child_counts (child z (t.0 * 32 + c)))) in
      decides_iff _ (tree_count g z t + sum_to (length z.cpus) (cpu_count g z t) ≡ child_count g z t) _ (λ p. omega arith) (λ p. omega arith) (decides_eq _ _)

  pub settled_is : (BadChild n z → ⊥) → Decides (settled g z) (Settled n z)
  unfolding settled child_settled trees_of
  settled_is sound = decides_iff _ _ _ (λ p. record { children = p.0; trees = λ t. p.1 t.0 }) (λ s. (s.children, λ i. s.trees (tree i)))
      (decides_both _ _ _ _
      (decides_all n _ (λ i. (k : ℕ) → child z i ≡ Some (ChildEntry.Counts k) → k ≡ sum_to 512 (λ f. 1 - taken z (512 * i + f))) (λ i l. rw (at_child i l, zeros_of i l) (count_is (get_or z.children i 0) _ (λ e. sound (i, l, e)))))
      (decides_all (trees_of g) _ _ (λ i l. tree_settled_lem (tree i))))
