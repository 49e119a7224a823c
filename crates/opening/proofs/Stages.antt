-- The later stages of open: what a stage stores in its table, and which stage comes next.
use mathlib.Core.Path.{◌≡◌, refl, sym, ap, ap₂, subst, ◌∙◌}
use mathlib.Core.Bool.{Bool, true, false, not}
use mathlib.Core.List.{List, []}
use Prim.Native.Nat.{ℕ, ◌+◌, ◌*◌, ◌≤◌, ◌<◌}
use native.Mathlib.Omega.{arith}
use lib.ListN.{length, get_or, set}
use borrow.Author.Tests.{lt-ltb, le-leb}
use Rattle.std.specs.Prelude.{Option, Some, None, Result, Ok, Err}
use Rattle.laws.specs.Tests.{Passes}
use Rattle.laws.specs.Tables.{Outcome, outcome}
use Rattle.laws.proofs.Tests.{pick_elim, pick_yes}
use Rattle.laws.proofs.Sum.{sum_bound}
use Rattle.rules.specs.declared.Huge.{Huge}
use Rattle.rules.specs.declared.Tree.{Tree}
use Rattle.rules.specs.declared.ChildEntry.{ChildEntry}
use Rattle.rules.specs.Numbers.{child_frames, child_words, Shape as Rules, per_tree, trees_of, children_of, capacity}
use Rattle.rules.specs.Conversions.{huge, tree}
use Rattle.rules.specs.Entries.{tree_word, cpu_word}
use Rattle.rules.specs.Lower.{Lowered, told, changed, child_says, by_child, well_formed, count_in, recount, zero_bits, part_sum}
use Rattle.rules.specs.Zone.{Zone, child_part, stored}
use Rattle.rules.specs.Answers.{answer_of}
use Rattle.rules.specs.Plan.{Plan, refuse, Refusal, on, guarded}
use Rattle.rules.specs.Ranges.{opening_in}
use Rattle.rules.specs.Create as Create
use Rattle.rules.specs.Open.{child_at, zeros_at, child_count, opening, opening_sound, open_stage}
use Rattle.rules.proofs.Fields.{count_few}
use Rattle.rules.proofs.Fresh.{child_at_lem}
use Rattle.rules.proofs.Phases.{zeros_at_lem}
use Rattle.lower.specs.Tables.{turned, step_at}
use Rattle.lower.specs.Steps.{fields_in, recounted, recount_in}
use Rattle.entries.specs.Sizes as Sizes
use Rattle.entries.specs.Steps.{store_count_in, stored_in}
use Rattle.places.specs.Shapes.{shape_of}
use Rattle.places.proofs.Ranges.{trees_same, capacity_same}
use Rattle.calls.specs.Results.{zone, Result as Called, result_of, done, Fits}
use Rattle.calls.proofs.Opened.{stores_nothing, stands, passed_by}
use Rattle.calls.proofs.Stored.{entry_stored, count_stored, stored_said, next_entry, next_table}
use Rattle.looks.specs.Entries.{child_count_in}
use Rattle.looks.specs.Looks.{part_formed_in}
use Rattle.looks.proofs.Entries.{part_ends}
use Rattle.opening.specs.Types.{Fault, Opening, Answer, Shape}
use Rattle.opening.specs.Opens.{open_at}

-- ---- a stage whose entries are well-formed, and one with a malformed child
module _ (g : Rules) (z : Zone) (s : Opening) where
  abbrev damaged : Refusal
  damaged = on (not (opening_sound g z s)) Answer.Damaged

  stage_damaged : opening_sound g z s ≡ false → result_of Answer.Damaged z ≡ done z (open_at g z s)
  stage_damaged b = stores_nothing z (stands damaged [] (open_stage g z s) (ap not b))

  stage_sound : opening_sound g z s ≡ true → open_at g z s ≡ open_stage g z s
  unfolding guarded
  stage_sound b = passed_by damaged [] (open_stage g z s) (ap not b)

  stage_elim : (Q : Plan → Type 0) → Q (refuse Answer.Damaged) → Q (open_stage g z s) → Q (open_at g z s)
  unfolding guarded
  stage_elim Q x y = pick_elim Q (not (opening_sound g z s)) (λ b. x) (λ b. y)

-- the tables that a stage reads
abbrev pub child_zone : List ℕ → List ℕ → Zone
child_zone w l = zone [] w l [] []

abbrev tree_zone : List ℕ → List ℕ → Zone
tree_zone c l = zone [] [] c l []

abbrev cpu_zone : List ℕ → Zone
cpu_zone l = zone [] [] [] [] l

-- ---- each stage, on a table l that has its entry; the table is m afterwards

-- child i, with the words w
module _ (s : Shape) (i : Huge) (w l m : List ℕ) (k : (child_words * Sizes.huge_of s.size ≡ length w) × (Sizes.huge_of s.size ≡ length l) × (i.0 < Sizes.huge_of s.size)) {x : Result Unit Fault} (o : outcome x m ≡ recount_in l w i.0) where
  abbrev e : ℕ
  e = get_or l i.0 0

  abbrev v : ℕ
  v = recount (zero_bits w i.0) e

  -- what was said of entry e, with the table afterwards
  abbrev Tells : Result Unit Fault → List ℕ → Type 0
  Tells (Ok tt) a = (well_formed e ≡ true) × (a ≡ set l i.0 v)
  Tells (Err f) a = (f ≡ Fault.Damaged) × (well_formed e ≡ false) × (a ≡ l)

  abbrev TellsOf : Outcome (Result Unit Fault) → Type 0
  TellsOf q = Tells q.said q.table

  abbrev stores : Lowered (Result Unit Fault)
  stores = changed (Ok tt) v

  entry_tells : TellsOf (step_at (recounted (zero_bits w i.0)) l i.0)
  unfolding step_at recounted turned by_child well_formed
  entry_tells = go (child_says e) refl
    where
      go : (d : Option ChildEntry) → child_says e ≡ d → Tells (by_child d (told (Err Fault.Damaged)) (λ n. stores) stores).said (turned l i.0 (by_child d (told (Err Fault.Damaged)) (λ n. stores) stores).change)
      go None q = (refl, ap (λ y. by_child y false (λ n. true) true) q, refl)
      go (Some (ChildEntry.Counts n)) q = (ap (λ y. by_child y false (λ n. true) true) q, refl)
      go (Some ChildEntry.Flagged) q = (ap (λ y. by_child y false (λ n. true) true) q, refl)

  entry_there : recount_in l w i.0 ≡ step_at (recounted (zero_bits w i.0)) l i.0
  unfolding recount_in
  entry_there = pick_yes _ _ _ (lt-ltb i.0 (length l) (omega (arith, k.1, k.2))) ∙ pick_yes _ _ _ (lt-ltb i.0 (fields_in w) (omega (arith, k.0, k.2)))

  tells : {y : Result Unit Fault} → x ≡ y → Tells y m
  tells q = subst (λ y. Tells y m) q (subst TellsOf (sym (o ∙ entry_there)) entry_tells)

  -- the entry is the rules' own
  child_same : child_at (shape_of s) (child_zone w l) i ≡ e
  child_same = child_at_lem (shape_of s) (omega arith) (child_zone w l) i.0 k.2

  zeros_same : zeros_at (shape_of s) (child_zone w l) i ≡ zero_bits w i.0
  zeros_same = zeros_at_lem (shape_of s) (omega arith) (child_zone w l) i.0 k.2

  formed_same : opening_sound (shape_of s) (child_zone w l) (Opening.Children i) ≡ well_formed e
  unfolding opening_sound
  formed_same = ap well_formed child_same

  abbrev Recounts : Answer → Type 0
  Recounts r = result_of r (child_zone w m) ≡ done (child_zone w l) (open_at (shape_of s) (child_zone w l) (Opening.Children i))

  -- the table has the child and its field: it was malformed
  pub child_fails : {f : Fault} {r : Answer} → x ≡ Err f → r ≡ answer_of f → Recounts r
  child_fails q a =
      let d = tells q in
      ap₂ (λ y u. result_of y (child_zone w u)) (a ∙ ap answer_of d.0) d.2
      ∙ stage_damaged (shape_of s) (child_zone w l) (Opening.Children i) (formed_same ∙ d.1)

  module _ (q : x ≡ Ok tt) {n : ℕ} (b : n ≡ Sizes.huge_of s.size) {r : Answer} where
    child_made : r ≡ (open_stage (shape_of s) (child_zone w l) (Opening.Children i)).answer → Recounts r
    unfolding open_stage stored
    child_made a =
        let d = tells q in
        ap₂ (λ y u. result_of y (child_zone w u)) a (d.1 ∙ ap (set l i.0) (sym (ap₂ recount zeros_same child_same)))
        ∙ sym (ap (done (child_zone w l)) (stage_sound (shape_of s) (child_zone w l) (Opening.Children i) (formed_same ∙ d.0)))

    pub child_next : i.0 + 1 < n → r ≡ opening (Opening.Children (huge (i.0 + 1))) → Recounts r
    unfolding open_stage
    child_next a d = child_made (next_entry opening i.0 (Sizes.huge_of s.size) (λ j. Opening.Children (huge j)) (Opening.Trees (tree 0)) (omega arith) d)

    pub child_last : n ≤ i.0 + 1 → r ≡ opening (Opening.Trees (tree 0)) → Recounts r
    unfolding open_stage
    child_last a d = child_made (next_table opening i.0 (Sizes.huge_of s.size) (λ j. Opening.Children (huge j)) (Opening.Trees (tree 0)) (omega arith) d)

-- tree t, with the children c
module _ (s : Shape) (t : Tree) (c l : List ℕ) (k : (Sizes.huge_of s.size ≡ length c) × (trees_of (shape_of s) ≡ length l) × (t.0 < trees_of (shape_of s))) {b : Bool} (f : b ≡ part_formed_in s t c) where
  part_there : t.0 * per_tree (shape_of s) + children_of (shape_of s) t.0 ≤ length c
  part_there = omega (arith, k.0, part_ends s t.0 k.2)

  -- the look at the tree's part is the rules' own
  part_same : b ≡ opening_sound (shape_of s) (tree_zone c l) (Opening.Trees t)
  unfolding part_formed_in opening_sound
  part_same = f ∙ pick_yes _ _ _ (le-leb _ (length c) part_there)

  pub part_damaged : b ≡ false → result_of Answer.Damaged (tree_zone c l) ≡ done (tree_zone c l) (open_at (shape_of s) (tree_zone c l) (Opening.Trees t))
  part_damaged a = stage_damaged (shape_of s) (tree_zone c l) (Opening.Trees t) (sym part_same ∙ a)

  -- a tree's children count its capacity at most
  count_in_lem : child_count (shape_of s) (tree_zone c l) t ≤ capacity (shape_of s) t.0
  unfolding child_count part_sum
  count_in_lem = omega (arith, sum_bound (children_of (shape_of s) t.0) child_frames (λ j. count_in (get_or (child_part (shape_of s) (tree_zone c l) t) j 0)) (λ j h. count_few (get_or (child_part (shape_of s) (tree_zone c l) t) j 0)))

  module _ (a : b ≡ true) (m : List ℕ) {x : Result Unit Fault} {n : ℕ} (d : n ≡ child_count_in s t c) (o : outcome x m ≡ store_count_in s.size t n l) where
    count_same : n ≡ child_count (shape_of s) (tree_zone c l) t
    unfolding child_count_in child_count
    count_same = d ∙ pick_yes _ _ _ (le-leb _ (length c) part_there)

    tree_stored : outcome x m ≡ outcome (Ok tt) (set l t.0 (tree_word 0 (child_count (shape_of s) (tree_zone c l) t)))
    tree_stored = (rw count_same at o) ∙ count_stored s.size t l (omega (arith, k.1, k.2)) (child_count (shape_of s) (tree_zone c l) t) (omega (arith, count_in_lem, capacity_same s t.0))

    abbrev Sums : Answer → Type 0
    Sums r = result_of r (tree_zone c m) ≡ done (tree_zone c l) (open_at (shape_of s) (tree_zone c l) (Opening.Trees t))

    pub tree_none : {f : Fault} {r : Answer} → x ≡ Err f → Sums r
    tree_none q = stored_said tree_stored q

    module _ {j : ℕ} (e : j ≡ trees_of (Sizes.shape_of s.size)) {r : Answer} where
      tree_made : r ≡ (open_stage (shape_of s) (tree_zone c l) (Opening.Trees t)).answer → Sums r
      unfolding open_stage stored
      tree_made q =
          ap₂ (λ y (u : Outcome (Result Unit Fault)). result_of y (tree_zone c u.table)) q tree_stored
          ∙ sym (ap (done (tree_zone c l)) (stage_sound (shape_of s) (tree_zone c l) (Opening.Trees t) (sym part_same ∙ a)))

      pub tree_next : t.0 + 1 < j → r ≡ opening (Opening.Trees (tree (t.0 + 1))) → Sums r
      unfolding open_stage
      tree_next h q = tree_made (next_entry opening t.0 (trees_of (shape_of s)) (λ i. Opening.Trees (tree i)) (Opening.Cpus 0) (rw (e ∙ trees_same s) at h) q)

      pub tree_last : j ≤ t.0 + 1 → r ≡ opening (Opening.Cpus 0) → Sums r
      unfolding open_stage
      tree_last h q = tree_made (next_table opening t.0 (trees_of (shape_of s)) (λ i. Opening.Trees (tree i)) (Opening.Cpus 0) (rw (e ∙ trees_same s) at h) q)

-- CPU j
module _ (s : Shape) (j : ℕ) (l m : List ℕ) (h : j < length l) {x : Result Unit Fault} (o : outcome x m ≡ stored_in j 0 l) where
  abbrev Forgets : Answer → Type 0
  Forgets r = result_of r (cpu_zone m) ≡ done (cpu_zone l) (open_at (shape_of s) (cpu_zone l) (Opening.Cpus j))

  pub cpu_none : {f : Fault} {r : Answer} → x ≡ Err f → Forgets r
  cpu_none q = stored_said (o ∙ entry_stored j l h 0) q

  cpu_made : {r : Answer} → r ≡ (open_stage (shape_of s) (cpu_zone l) (Opening.Cpus j)).answer → Forgets r
  unfolding open_stage opening_sound stored cpu_word
  cpu_made q = ap₂ (λ y (u : Outcome (Result Unit Fault)). result_of y (cpu_zone u.table)) q (o ∙ entry_stored j l h 0) ∙ sym (ap (done (cpu_zone l)) (stage_sound (shape_of s) (cpu_zone l) (Opening.Cpus j) refl))

  pub cpu_next : {r : Answer} → j + 1 < s.cpus → r ≡ opening (Opening.Cpus (j + 1)) → Forgets r
  unfolding open_stage
  cpu_next b q = cpu_made (next_entry (λ a. a) j s.cpus (λ i. opening (Opening.Cpus i)) Create.done b q)

  pub cpu_last : s.cpus ≤ j + 1 → Forgets Create.done
  unfolding open_stage
  cpu_last b = cpu_made (next_table (λ a. a) j s.cpus (λ i. opening (Opening.Cpus i)) Create.done b refl)

-- ---- what a stage in range may take as given
module _ {s : Shape} {ws cs ts ps : List ℕ} (fit : Fits s ws cs ts ps) (stage : Opening) (b : Passes (opening_in (shape_of s) stage)) where
  pub children_ready : {i : Huge} → stage ≡ Opening.Children i → (child_words * Sizes.huge_of s.size ≡ length ws) × (Sizes.huge_of s.size ≡ length cs) × (i.0 < Sizes.huge_of s.size)
  unfolding opening_in
  children_ready e = (sym fit.lengths.0, sym fit.lengths.1.0, (subst (λ x. Passes (opening_in (shape_of s) x)) e b).0)

  pub trees_ready : {t : Tree} → stage ≡ Opening.Trees t → (Sizes.huge_of s.size ≡ length cs) × (trees_of (shape_of s) ≡ length ts) × (t.0 < trees_of (shape_of s))
  unfolding opening_in
  trees_ready e = (sym fit.lengths.1.0, sym (fit.lengths.1.1.0 ∙ trees_same s), (subst (λ x. Passes (opening_in (shape_of s) x)) e b).0)

  pub cpus_ready : {j : ℕ} → stage ≡ Opening.Cpus j → (s.cpus ≡ length ps) × (j < s.cpus) × (s.cpus < 255)
  unfolding opening_in
  cpus_ready e = (fit.cpus, (subst (λ x. Passes (opening_in (shape_of s) x)) e b).0, omega (arith, fit.cpus, fit.lengths.1.1.1.1.0))

-- ---- the other tables stand aside: a stage reads what it needs, and stores in its own
module _ (w c t p : List ℕ) (s : Shape) where
  abbrev whole : Zone
  whole = zone [] w c t p

  -- with the others put back
  abbrev with_children : Called → Called
  with_children x = result_of x.answer (zone [] w x.zone.children t p)

  abbrev with_trees : Called → Called
  with_trees x = result_of x.answer (zone [] w c x.zone.trees p)

  abbrev with_cpus : Called → Called
  with_cpus x = result_of x.answer (zone [] w c t x.zone.cpus)

  module _ {stage : Opening} {r : Answer} {m : List ℕ} where
    pub children_aside : {i : Huge} → stage ≡ Opening.Children i → result_of r (child_zone w m) ≡ done (child_zone w c) (open_at (shape_of s) (child_zone w c) (Opening.Children i)) → result_of r (zone [] w m t p) ≡ done whole (open_at (shape_of s) whole stage)
    unfolding opening_sound open_stage stored
    children_aside {i} e o = rw e (ap with_children o ∙ stage_elim (shape_of s) whole (Opening.Children i) (λ (q : Plan). with_children (done (child_zone w c) q) ≡ done whole q) refl refl)

    pub trees_aside : {i : Tree} → stage ≡ Opening.Trees i → result_of r (tree_zone c m) ≡ done (tree_zone c t) (open_at (shape_of s) (tree_zone c t) (Opening.Trees i)) → result_of r (zone [] w c m p) ≡ done whole (open_at (shape_of s) whole stage)
    unfolding opening_sound open_stage child_count stored
    trees_aside {i} e o = rw e (ap with_trees o ∙ stage_elim (shape_of s) whole (Opening.Trees i) (λ (q : Plan). with_trees (done (tree_zone c t) q) ≡ done whole q) refl refl)

    pub cpus_aside : {j : ℕ} → stage ≡ Opening.Cpus j → result_of r (cpu_zone m) ≡ done (cpu_zone p) (open_at (shape_of s) (cpu_zone p) (Opening.Cpus j)) → result_of r (zone [] w c t m) ≡ done whole (open_at (shape_of s) whole stage)
    unfolding opening_sound open_stage stored
    cpus_aside {j} e o = rw e (ap with_cpus o ∙ stage_elim (shape_of s) whole (Opening.Cpus j) (λ (q : Plan). with_cpus (done (cpu_zone p) q) ≡ done whole q) refl refl)

  -- and so does the header
  module _ (h : List ℕ) where
    abbrev with_header : Called → Called
    with_header x = result_of x.answer (zone h x.zone.words x.zone.children x.zone.trees x.zone.cpus)

    header_kept : (stage : Opening) → with_header (done whole (open_at (shape_of s) whole stage)) ≡ done (zone h w c t p) (open_at (shape_of s) (zone h w c t p) stage)
    unfolding opening_sound open_stage child_count stored
    header_kept (Opening.Children i) = stage_elim (shape_of s) whole (Opening.Children i) (λ (q : Plan). with_header (done whole q) ≡ done (zone h w c t p) q) refl refl
    header_kept (Opening.Trees i) = stage_elim (shape_of s) whole (Opening.Trees i) (λ (q : Plan). with_header (done whole q) ≡ done (zone h w c t p) q) refl refl
    header_kept (Opening.Cpus j) = stage_elim (shape_of s) whole (Opening.Cpus j) (λ (q : Plan). with_header (done whole q) ≡ done (zone h w c t p) q) refl refl

    pub header_aside : (stage : Opening) {r : Answer} {w' c' t' p' : List ℕ} → result_of r (zone [] w' c' t' p') ≡ done whole (open_at (shape_of s) whole stage) → result_of r (zone h w' c' t' p') ≡ done (zone h w c t p) (open_at (shape_of s) (zone h w c t p) stage)
    header_aside stage o = ap with_header o ∙ header_kept stage
