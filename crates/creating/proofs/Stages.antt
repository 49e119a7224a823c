-- The stages of create: what a stage stores in its table, and which stage comes next.
use mathlib.Core.Path.{◌≡◌, sym, ap, subst, ◌∙◌}
use mathlib.Core.List.{List, []}
use Prim.Native.Nat.{ℕ, ◌+◌, ◌*◌, ◌≤◌, ◌<◌}
use native.Mathlib.Omega.{arith}
use lib.ListN.{length, set}
use borrow.Author.Tests.{lt-ltb}
use Rattle.std.specs.Prelude.{Result, Ok, Err}
use Rattle.laws.specs.Tests.{Passes}
use Rattle.laws.specs.Tables.{Outcome, outcome}
use Rattle.laws.proofs.Tests.{pick_yes}
use Rattle.rules.specs.declared.Huge.{Huge}
use Rattle.rules.specs.declared.Tree.{Tree}
use Rattle.rules.specs.Numbers.{child_words, trees_of, children_of, capacity}
use Rattle.rules.specs.Conversions.{frame, huge, tree}
use Rattle.rules.specs.Entries.{header_word, running, tree_word, cpu_word}
use Rattle.rules.specs.Lower.{fresh_word, fresh_child}
use Rattle.rules.specs.Zone.{stored}
use Rattle.rules.specs.Ranges.{creating_in}
use Rattle.rules.specs.Create.{creating, create_stage}
use Rattle.lower.specs.Tables.{turned, step_at, step_in}
use Rattle.lower.specs.Steps.{fresh_word_in, fresh_child_in}
use Rattle.entries.specs.Sizes as Sizes
use Rattle.entries.specs.Steps.{store_count_in, stored_in}
use Rattle.places.specs.Shapes.{shape_of}
use Rattle.places.proofs.Ranges.{trees_same}
use Rattle.calls.specs.Results.{zone, Result as Called, result_of, done, Fits}
use Rattle.calls.proofs.Stored.{entry_stored, count_stored, stored_said, next_entry, next_table}
use Rattle.creating.specs.Types.{Fault, Answer, Creating, Shape}

-- ---- a table that has the entry: it is stored
module _ (i : ℕ) (l : List ℕ) (h : i < length l) where
  word_stored : fresh_word_in l i ≡ outcome (Ok tt) (set l i fresh_word)
  unfolding step_in step_at turned
  word_stored = pick_yes _ _ _ (lt-ltb i (length l) h)

  child_stored : fresh_child_in l i ≡ outcome (Ok tt) (set l i fresh_child)
  unfolding step_in step_at turned
  child_stored = pick_yes _ _ _ (lt-ltb i (length l) h)

-- ---- each stage, on a table l that has its entry; the table is m afterwards

module _ (s : Shape) (i : ℕ) (l m : List ℕ) (h : i < length l) {x : Result Unit Fault} (o : outcome x m ≡ fresh_word_in l i) where
  abbrev Words : Answer → Type 0
  Words r = result_of r (zone [] m [] [] []) ≡ done (zone [] l [] [] []) (create_stage (shape_of s) (Creating.Words i))

  word_made : {r : Answer} → r ≡ (create_stage (shape_of s) (Creating.Words i)).answer → Words r
  unfolding create_stage stored
  word_made {r} q = ap (λ (v : Outcome (Result Unit Fault)). result_of r (zone [] v.table [] [] [])) (o ∙ word_stored i l h) ∙ ap (λ a. result_of a (zone [] (set l i fresh_word) [] [] [])) q

  pub word_none : {r : Answer} {f : Fault} → x ≡ Err f → Words r
  word_none q = stored_said (o ∙ word_stored i l h) q

  module _ {n : ℕ} (e : n ≡ Sizes.huge_of s.size) {r : Answer} where
    pub word_next : i + 1 < child_words * n → r ≡ creating (Creating.Words (i + 1)) → Words r
    unfolding create_stage
    word_next b q = word_made (next_entry creating i (child_words * Sizes.huge_of s.size) Creating.Words (Creating.Children (huge 0)) (omega arith) q)

    pub word_last : child_words * n ≤ i + 1 → r ≡ creating (Creating.Children (huge 0)) → Words r
    unfolding create_stage
    word_last b q = word_made (next_table creating i (child_words * Sizes.huge_of s.size) Creating.Words (Creating.Children (huge 0)) (omega arith) q)

module _ (s : Shape) (i : Huge) (l m : List ℕ) (h : i.0 < length l) {x : Result Unit Fault} (o : outcome x m ≡ fresh_child_in l i.0) where
  abbrev Children : Answer → Type 0
  Children r = result_of r (zone [] [] m [] []) ≡ done (zone [] [] l [] []) (create_stage (shape_of s) (Creating.Children i))

  child_made : {r : Answer} → r ≡ (create_stage (shape_of s) (Creating.Children i)).answer → Children r
  unfolding create_stage stored
  child_made {r} q = ap (λ (v : Outcome (Result Unit Fault)). result_of r (zone [] [] v.table [] [])) (o ∙ child_stored i.0 l h) ∙ ap (λ a. result_of a (zone [] [] (set l i.0 fresh_child) [] [])) q

  pub child_none : {r : Answer} {f : Fault} → x ≡ Err f → Children r
  child_none q = stored_said (o ∙ child_stored i.0 l h) q

  module _ {n : ℕ} (e : n ≡ Sizes.huge_of s.size) {r : Answer} where
    pub child_next : i.0 + 1 < n → r ≡ creating (Creating.Children (huge (i.0 + 1))) → Children r
    unfolding create_stage
    child_next b q = child_made (next_entry creating i.0 (Sizes.huge_of s.size) (λ j. Creating.Children (huge j)) (Creating.Trees (tree 0)) (omega arith) q)

    pub child_last : n ≤ i.0 + 1 → r ≡ creating (Creating.Trees (tree 0)) → Children r
    unfolding create_stage
    child_last b q = child_made (next_table creating i.0 (Sizes.huge_of s.size) (λ j. Creating.Children (huge j)) (Creating.Trees (tree 0)) (omega arith) q)

module _ (s : Shape) (t : Tree) (l m : List ℕ) (h : t.0 < length l) {x : Result Unit Fault} {k : ℕ} (d : k ≡ capacity (Sizes.shape_of s.size) t.0) (o : outcome x m ≡ store_count_in s.size t k l) where
  abbrev Trees : Answer → Type 0
  Trees r = result_of r (zone [] [] [] m []) ≡ done (zone [] [] [] l []) (create_stage (shape_of s) (Creating.Trees t))

  tree_stored : outcome x m ≡ outcome (Ok tt) (set l t.0 (tree_word 0 (capacity (Sizes.shape_of s.size) t.0)))
  tree_stored = (rw d at o) ∙ count_stored s.size t l h (capacity (Sizes.shape_of s.size) t.0) (omega arith)

  tree_made : {r : Answer} → r ≡ (create_stage (shape_of s) (Creating.Trees t)).answer → Trees r
  unfolding create_stage stored children_of
  tree_made {r} q = ap (λ (v : Outcome (Result Unit Fault)). result_of r (zone [] [] [] v.table [])) tree_stored ∙ ap (λ a. result_of a (zone [] [] [] (set l t.0 (tree_word 0 (capacity (shape_of s) t.0))) [])) q

  pub tree_none : {r : Answer} {f : Fault} → x ≡ Err f → Trees r
  tree_none q = stored_said tree_stored q

  module _ {n : ℕ} (e : n ≡ trees_of (Sizes.shape_of s.size)) {r : Answer} where
    pub tree_next : t.0 + 1 < n → r ≡ creating (Creating.Trees (tree (t.0 + 1))) → Trees r
    unfolding create_stage
    tree_next b q = tree_made (next_entry creating t.0 (trees_of (shape_of s)) (λ j. Creating.Trees (tree j)) (Creating.Cpus 0) (rw (e ∙ trees_same s) at b) q)

    pub tree_last : n ≤ t.0 + 1 → r ≡ creating (Creating.Cpus 0) → Trees r
    unfolding create_stage
    tree_last b q = tree_made (next_table creating t.0 (trees_of (shape_of s)) (λ j. Creating.Trees (tree j)) (Creating.Cpus 0) (rw (e ∙ trees_same s) at b) q)

module _ (s : Shape) (j : ℕ) (l m : List ℕ) (h : j < length l) {x : Result Unit Fault} (o : outcome x m ≡ stored_in j 0 l) where
  abbrev Cpus : Answer → Type 0
  Cpus r = result_of r (zone [] [] [] [] m) ≡ done (zone [] [] [] [] l) (create_stage (shape_of s) (Creating.Cpus j))

  cpu_made : {r : Answer} → r ≡ (create_stage (shape_of s) (Creating.Cpus j)).answer → Cpus r
  unfolding create_stage stored cpu_word
  cpu_made {r} q = ap (λ (v : Outcome (Result Unit Fault)). result_of r (zone [] [] [] [] v.table)) (o ∙ entry_stored j l h 0) ∙ ap (λ a. result_of a (zone [] [] [] [] (set l j 0))) q

  pub cpu_none : {r : Answer} {f : Fault} → x ≡ Err f → Cpus r
  cpu_none q = stored_said (o ∙ entry_stored j l h 0) q

  pub cpu_next : {r : Answer} → j + 1 < s.cpus → r ≡ creating (Creating.Cpus (j + 1)) → Cpus r
  unfolding create_stage
  cpu_next b q = cpu_made (next_entry creating j s.cpus Creating.Cpus Creating.Header b q)

  pub cpu_last : {r : Answer} → s.cpus ≤ j + 1 → r ≡ creating Creating.Header → Cpus r
  unfolding create_stage
  cpu_last b q = cpu_made (next_table creating j s.cpus Creating.Cpus Creating.Header b q)

module _ (s : Shape) (l m : List ℕ) (h : length l ≡ 1) {x : Result Unit Fault} (o : outcome x m ≡ stored_in 0 (header_word running (Sizes.huge_of s.size)) l) where
  abbrev Born : Answer → Type 0
  Born r = result_of r (zone m [] [] [] []) ≡ done (zone l [] [] [] []) (create_stage (shape_of s) Creating.Header)

  header_stored : outcome x m ≡ outcome (Ok tt) (set l 0 (header_word running (Sizes.huge_of s.size)))
  header_stored = o ∙ entry_stored 0 l (omega (arith, h)) _

  pub header_made : Born (Answer.Done (frame 0))
  unfolding create_stage stored
  header_made = ap (λ (v : Outcome (Result Unit Fault)). result_of (Answer.Done (frame 0)) (zone v.table [] [] [] [])) header_stored

  pub header_none : {r : Answer} {f : Fault} → x ≡ Err f → Born r
  header_none q = stored_said header_stored q

-- ---- what a stage in range may take as given
module _ {s : Shape} {ws cs ts ps : List ℕ} (fit : Fits s ws cs ts ps) (stage : Creating) (b : Passes (creating_in (shape_of s) stage)) where
  pub words_ready : {i : ℕ} → stage ≡ Creating.Words i → (child_words * Sizes.huge_of s.size ≡ length ws) × (i < child_words * Sizes.huge_of s.size)
  unfolding creating_in
  words_ready e = (sym fit.lengths.0, (subst (λ x. Passes (creating_in (shape_of s) x)) e b).0)

  pub children_ready : {i : Huge} → stage ≡ Creating.Children i → (Sizes.huge_of s.size ≡ length cs) × (i.0 < Sizes.huge_of s.size)
  unfolding creating_in
  children_ready e = (sym fit.lengths.1.0, (subst (λ x. Passes (creating_in (shape_of s) x)) e b).0)

  pub trees_ready : {t : Tree} → stage ≡ Creating.Trees t → (trees_of (shape_of s) ≡ length ts) × (t.0 < trees_of (shape_of s))
  unfolding creating_in
  trees_ready e = (sym (fit.lengths.1.1.0 ∙ trees_same s), (subst (λ x. Passes (creating_in (shape_of s) x)) e b).0)

  pub cpus_ready : {j : ℕ} → stage ≡ Creating.Cpus j → (s.cpus ≡ length ps) × (j < s.cpus) × (s.cpus < 255)
  unfolding creating_in
  cpus_ready e = (fit.cpus, (subst (λ x. Passes (creating_in (shape_of s) x)) e b).0, omega (arith, fit.cpus, fit.lengths.1.1.1.1.0))

-- ---- the other tables stand aside: a stage stores in its own
module _ (h w c t p : List ℕ) (s : Shape) {stage : Creating} {r : Answer} {m : List ℕ} where
  pub words_aside : {i : ℕ} → stage ≡ Creating.Words i → result_of r (zone [] m [] [] []) ≡ done (zone [] w [] [] []) (create_stage (shape_of s) (Creating.Words i)) → result_of r (zone h m c t p) ≡ done (zone h w c t p) (create_stage (shape_of s) stage)
  unfolding create_stage stored
  words_aside e o = rw e (ap (λ (x : Called). result_of x.answer (zone h x.zone.words c t p)) o)

  pub children_aside : {i : Huge} → stage ≡ Creating.Children i → result_of r (zone [] [] m [] []) ≡ done (zone [] [] c [] []) (create_stage (shape_of s) (Creating.Children i)) → result_of r (zone h w m t p) ≡ done (zone h w c t p) (create_stage (shape_of s) stage)
  unfolding create_stage stored
  children_aside e o = rw e (ap (λ (x : Called). result_of x.answer (zone h w x.zone.children t p)) o)

  pub trees_aside : {i : Tree} → stage ≡ Creating.Trees i → result_of r (zone [] [] [] m []) ≡ done (zone [] [] [] t []) (create_stage (shape_of s) (Creating.Trees i)) → result_of r (zone h w c m p) ≡ done (zone h w c t p) (create_stage (shape_of s) stage)
  unfolding create_stage stored
  trees_aside e o = rw e (ap (λ (x : Called). result_of x.answer (zone h w c x.zone.trees p)) o)

  pub cpus_aside : {j : ℕ} → stage ≡ Creating.Cpus j → result_of r (zone [] [] [] [] m) ≡ done (zone [] [] [] [] p) (create_stage (shape_of s) (Creating.Cpus j)) → result_of r (zone h w c t m) ≡ done (zone h w c t p) (create_stage (shape_of s) stage)
  unfolding create_stage stored
  cpus_aside e o = rw e (ap (λ (x : Called). result_of x.answer (zone h w c t x.zone.cpus)) o)

  pub header_aside : stage ≡ Creating.Header → result_of r (zone m [] [] [] []) ≡ done (zone h [] [] [] []) (create_stage (shape_of s) Creating.Header) → result_of r (zone m w c t p) ≡ done (zone h w c t p) (create_stage (shape_of s) stage)
  unfolding create_stage stored
  header_aside e o = rw e (ap (λ (x : Called). result_of x.answer (zone x.zone.header w c t p)) o)
