-- A step carried out: what a stage says of its table is the rule's plan on the zone.
use mathlib.Core.Path.{◌≡◌, refl, sym, ap, ◌∙◌}
use mathlib.Core.Bool.{Bool, true, false}
use Prim.Native.Nat.{ℕ, ◌+◌, ◌*◌, ◌≤◌, ◌<◌}
use Rattle.std.specs.Prelude.{Option, Some, None}
use lib.Dec.{leb}
use lib.ListN.{length, get_or, set}
use borrow.Author.Tests.{lt-ltb, le-leb}
use Rattle.laws.specs.Tests.{pick}
use Rattle.laws.specs.Tables.{Outcome, outcome}
use Rattle.laws.proofs.Tests.{pick_yes}
use Rattle.laws.proofs.Parts.{part_at}
use Rattle.rules.specs.Numbers.{child_words, format1, Shape, per_tree, children_of, capacity}
use Rattle.rules.specs.Entries.{tree_word, cpu_word}
use Rattle.rules.specs.Lower.{Change, keep, become}
use Rattle.rules.specs.Zone.{Zone, Store, nothing, stored, tree_entry_at, cpu_entry_at}
use Rattle.rules.specs.Plan.{Plan, refuse, Made, made, Tally, cpu_entry, tree_entry, child_entry, word_entry, by_change, by_cpu, by_tree, laid_out, to_cpu, to_tree, to_child, to_word, carried}
use Rattle.entries.specs.Turns.{turn, tree_turned, on_tree}
use Rattle.entries.proofs.Turns.{within_in}
use Rattle.cpu_entries.specs.Turns.{cpu_turned, on_cpu}
use Rattle.cpu_stages.specs.Tables.{in_cpus}
use Rattle.tree_stages.specs.Tables.{in_trees}
use Rattle.lending.specs.Tables.{made_at, made_in}
use Rattle.child_stages.specs.Tables.{in_children}
use Rattle.word_stages.specs.Tables.{in_words}
use Rattle.upper.specs.Types.{Tree, TreeEntry, CpuEntry, Answer}
use Rattle.calls.specs.Results.{zone, Result, result_of, done}

module _ (g : Shape) (z : Zone) where
  -- a zone with another table
  abbrev pub with_cpus : Outcome Answer → Result
  with_cpus o = result_of o.said (zone z.header z.words z.children z.trees o.table)

  abbrev pub with_trees : Outcome Answer → Result
  with_trees o = result_of o.said (zone z.header z.words z.children o.table z.cpus)

  abbrev pub with_children : Outcome Answer → Result
  with_children o = result_of o.said (zone z.header z.words o.table z.trees z.cpus)

  abbrev pub with_words : Outcome Answer → Result
  with_words o = result_of o.said (zone z.header o.table z.children z.trees z.cpus)

  -- one of two, on both sides
  either : (F : Outcome Answer → Result) (b : Bool) (x y : Outcome Answer) (p q : Plan) → F x ≡ done z p → F y ≡ done z q → F (pick b x y) ≡ done z (pick b p q)
  unfolding pick
  either F true x y p q u v = u
  either F false x y p q u v = v

  -- ---- CPU entries

  cpu_made : (j : ℕ) (m : Made CpuEntry) → with_cpus (cpu_turned g Answer.Damaged j (turn m) z.cpus) ≡ done z (to_cpu g j m)
  unfolding cpu_turned to_cpu by_change stored
  cpu_made j m = go m.change
    where
      go : (c : Change CpuEntry)
          → with_cpus (by_change c (outcome m.answer z.cpus) (λ e. pick (laid_out g e) (outcome m.answer (set z.cpus j (cpu_word format1 e))) (outcome Answer.Damaged z.cpus)))
          ≡ done z (by_change c (made nothing m) (λ e. pick (laid_out g e) (made (Store.cpu j e) m) (refuse Answer.Damaged)))
      go keep = refl
      go (become e) = either with_cpus (laid_out g e) _ _ (made (Store.cpu j e) m) (refuse Answer.Damaged) refl refl

  pub cpu_carried : (j : ℕ) (a : Made CpuEntry) (f : Tree → ℕ → ℕ → Made CpuEntry) → j < length z.cpus → with_cpus (in_cpus g (cpu_entry j a f) z.cpus) ≡ done z (carried g z (cpu_entry j a f))
  unfolding in_cpus on_cpu carried by_cpu stored
  cpu_carried j a f h = ap with_cpus (sym (within_in Answer.BadRecord j z.cpus h refl)) ∙ go (cpu_entry_at g z j)
    where
      go : (e : Option CpuEntry)
          → with_cpus (by_cpu e (outcome Answer.Damaged z.cpus) (cpu_turned g Answer.Damaged j (turn a) z.cpus) (λ t s k. cpu_turned g Answer.Damaged j (turn (f t s k)) z.cpus))
          ≡ done z (by_cpu e (refuse Answer.Damaged) (to_cpu g j a) (λ t s k. to_cpu g j (f t s k)))
      go None = refl
      go (Some CpuEntry.Absent) = cpu_made j a
      go (Some (CpuEntry.Holds t s k)) = cpu_made j (f t s k)

  -- ---- trees

  tree_made : (t : Tree) (m : Made Tally) → with_trees (tree_turned g Answer.Damaged t (turn m) z.trees) ≡ done z (to_tree g t m)
  unfolding tree_turned to_tree by_change stored
  tree_made t m = go m.change
    where
      go : (c : Change Tally)
          → with_trees (by_change c (outcome m.answer z.trees) (λ x. pick (leb x.count (capacity g t.0)) (outcome m.answer (set z.trees t.0 (tree_word x.reserved x.count))) (outcome Answer.Damaged z.trees)))
          ≡ done z (by_change c (made nothing m) (λ x. pick (leb x.count (capacity g t.0)) (made (Store.tree t.0 x.reserved x.count) m) (refuse Answer.Damaged)))
      go keep = refl
      go (become x) = either with_trees (leb x.count (capacity g t.0)) _ _ (made (Store.tree t.0 x.reserved x.count) m) (refuse Answer.Damaged) refl refl

  pub tree_carried : (t : Tree) (f : ℕ → ℕ → Made Tally) → t.0 < length z.trees → with_trees (in_trees g (tree_entry t f) z.trees) ≡ done z (carried g z (tree_entry t f))
  unfolding in_trees on_tree carried by_tree stored
  tree_carried t f h = ap with_trees (sym (within_in Answer.BadRecord t.0 z.trees h refl)) ∙ go (tree_entry_at g z t)
    where
      go : (e : Option TreeEntry)
          → with_trees (by_tree e (outcome Answer.Damaged z.trees) (λ r k. tree_turned g Answer.Damaged t (turn (f r k)) z.trees)) ≡ done z (by_tree e (refuse Answer.Damaged) (λ r k. to_tree g t (f r k)))
      go None = refl
      go (Some e) = tree_made t (f e.reserved e.count)

  -- ---- children and words, in a tree's part

  pub child_carried : (t : Tree) (c : ℕ) (f : ℕ → Made ℕ) → t.0 * per_tree g + children_of g t.0 ≤ length z.children → c < children_of g t.0
      → with_children (in_children g (child_entry t c f) z.children) ≡ done z (carried g z (child_entry t c f))
  unfolding in_children made_in made_at carried to_child by_change stored
  child_carried t c f h l =
      let i : ℕ = t.0 * per_tree g + c in
      let x : ℕ = get_or z.children i 0 in
      ap with_children (pick_yes _ _ _ (le-leb (t.0 * per_tree g + children_of g t.0) (length z.children) h) ∙ pick_yes _ _ _ (lt-ltb c (children_of g t.0) l))
      ∙ (go (f x) (f x).change ∙ sym (ap (λ y. done z (to_child g t c (f y))) (part_at (t.0 * per_tree g) (children_of g t.0) z.children c 0 l)))
    where
      go : (m : Made ℕ) (d : Change ℕ)
          → with_children (by_change d (outcome m.answer z.children) (λ v. outcome m.answer (set z.children (t.0 * per_tree g + c) v)))
          ≡ done z (by_change d (made nothing m) (λ v. made (Store.child (t.0 * per_tree g + c) v) m))
      go m keep = refl
      go m (become v) = refl

  pub word_carried : (t : Tree) (i : ℕ) (f : ℕ → Made ℕ) → child_words * (t.0 * per_tree g) + child_words * children_of g t.0 ≤ length z.words → i < child_words * children_of g t.0
      → with_words (in_words g (word_entry t i f) z.words) ≡ done z (carried g z (word_entry t i f))
  unfolding in_words made_in made_at carried to_word by_change stored
  word_carried t i f h l =
      let a : ℕ = child_words * (t.0 * per_tree g) in
      let k : ℕ = child_words * children_of g t.0 in
      let x : ℕ = get_or z.words (a + i) 0 in
      ap with_words (pick_yes _ _ _ (le-leb (a + k) (length z.words) h) ∙ pick_yes _ _ _ (lt-ltb i k l))
      ∙ (go (f x) (f x).change ∙ sym (ap (λ y. done z (to_word g t i (f y))) (part_at a k z.words i 0 l)))
    where
      go : (m : Made ℕ) (d : Change ℕ)
          → with_words (by_change d (outcome m.answer z.words) (λ v. outcome m.answer (set z.words (child_words * (t.0 * per_tree g) + i) v)))
          ≡ done z (by_change d (made nothing m) (λ v. made (Store.word (child_words * (t.0 * per_tree g) + i) v) m))
      go m keep = refl
      go m (become v) = refl
