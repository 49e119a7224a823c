-- Every step of a put keeps the invariant.
use Rattle.std.specs.Prelude.{Some, Option}
use mathlib.Core.Path.{◌≡◌, refl, sym, ap, ◌∙◌, subst}
use mathlib.Core.List.{List, [], ◌∷◌}
use Prim.Native.Nat.{ℕ, ◌+◌, ◌-◌, ◌*◌, ◌/◌, ◌%◌, ◌^◌, ◌≤◌, ◌<◌}
use native.Mathlib.Omega.{arith}
use native.Mathlib.Nat.{add-zero, zero-add}
use lib.Dec.{eqb}
use lib.ListN.{length, get_or}
use borrow.Author.Tests.{eqb-true}
use Rattle.laws.specs.Tests.{Passes}
use Rattle.laws.specs.Words.{bit, bits, ones}
use Rattle.laws.specs.Sum.{sum_l, at}
use Rattle.laws.proofs.Tests.{pick_elim}
use Rattle.laws.proofs.Sum.{at_same, at_add, run_in, sum_part}
use Rattle.laws.proofs.Words.{taken_bits}
use Rattle.rules.specs.Types.{Frame, Huge, Tree, Run, Block, ChildEntry, CpuEntry, Giving, Record, Answer}
use Rattle.rules.specs.Numbers.{child_frames, child_words, word_bits, Shape, per_tree, trees_of, children_of, capacity}
use Rattle.rules.specs.Conversions.{tree, huge, frame}
use Rattle.rules.specs.Blocks.{run_size, size_of, first_of, tree_of_block, child_of_block, huge_of_block, word_of, bit_of}
use Rattle.rules.specs.Entries.{holds_checks}
use Rattle.rules.specs.Lower.{child_says, count_word, clear_run}
use Rattle.rules.specs.Zone.{Zone, Store, nothing, shaped}
use Rattle.rules.specs.Plan.{plain, clears, Plan, says, Made, look, by_cpu, to_cpu, to_word, on_gave, carried}
use Rattle.rules.specs.Ranges.{block_in, giving_in}
use Rattle.rules.specs.Give.{put, clear, give}
use Rattle.rules.specs.Events.{Cpu, unless_cleared, lost_by, handed}
use Rattle.rules.specs.Promise.{owned_by}
use Rattle.rules.proofs.Sizes.{run_some, bit_ends}
use Rattle.rules.proofs.Guards.{look_plan, holds_plan, tally_plan, given_plan, cleared_plan}
use Rattle.rules.proofs.Shapes.{tree_in_lem, number_in, huge_is}
use Rattle.rules.proofs.Layouts.{format1_sound, holds_again}
use Rattle.rules.proofs.Lower.{give_counts, clear_flagged, clear_run_lem}
use Rattle.rules.proofs.Stages.{block_huge}
use Rattle.rules.proofs.Own.{base_bit, whole_flag, owned_once, owned_survived}
use Rattle.rules.proofs.Shares.{base_of, whole_of, share, has, low_of, owed, reserves, Proper, AgreesWith}
use Rattle.rules.proofs.Upper.{entry_at, tally_at, flag_at}
use Rattle.rules.proofs.Invariant.{weighs, Up, Fine, Keeps, looked, own_kept, tree_kept, count_kept, unflag_kept, bits_unkept}
use Rattle.rules.proofs.Readings.{flag_small, room, under_way, read_cpu, read_tree, read_child, read_word}

module _ (n : ℕ) (z : Zone) (cs : ℕ → Cpu) (held lost : List Block) (u : Up n z cs held lost) (j : ℕ) (l : j < length z.cpus) where
  abbrev g : Shape
  g = shaped n z

  abbrev E : Option CpuEntry
  E = entry_at g z.cpus j

  module _ (s : Giving) (e : (cs j).latest ≡ Record.Put j s) where
    abbrev Kept : Plan → Type 0
    Kept = Keeps n z cs held lost u j l (Record.Put j s) e

    abbrev Good : Plan → Type 0
    Good = Fine n z cs held lost u j l (Record.Put j s) e

    agreed : AgreesWith (cs j).begun (cs j).marks (Record.Put j s)
    agreed = subst (AgreesWith (cs j).begun (cs j).marks) e (u.agrees j)

    proper : Passes (giving_in g s)
    proper = let p : Proper g j (Record.Put j s) = subst (Proper g j) e (u.upper.proper j l) in p.1

    -- the put goes on, and owns what it owned
    fine_goes : (st : Store) (s' : Giving) → Passes (giving_in g s') → owned_by (Record.Put j s) ≡ owned_by (Record.Put j s') → Good (says st (put g j s'))
    unfolding unless_cleared lost_by
    fine_goes st s' p w = record {
      proper = (refl, p);
      lostly = rw agreed.1 (agreed.2 ∙ w);
      agrees = (agreed.0, agreed.1, agreed.2 ∙ w);
      small = rw agreed.1 (omega arith);
      inside = rw agreed.1 tt;
      names = rw agreed.1 tt;
    }

    -- the clearing store: from then on the put owns nothing
    fine_clears : (st : Store) (b : Block) (s' : Giving) → Passes (giving_in g s') → owned_by (Record.Put j s') ≡ [] → Good (record { store = st; answer = put g j s'; mark = clears b })
    unfolding unless_cleared lost_by
    fine_clears st b s' p w = record {
      proper = (refl, p);
      lostly = rw agreed.1 (sym w);
      agrees = (agreed.0, agreed.1, sym w);
      small = rw agreed.1 (omega arith);
      inside = rw agreed.1 tt;
      names = rw agreed.1 tt;
    }

    fine_done : (st : Store) (f : Frame) → owned_by (Record.Put j s) ≡ [] → Good (says st (Answer.Done f))
    unfolding unless_cleared lost_by
    fine_done st f w = record {
      proper = tt;
      lostly = rw agreed.1 (agreed.2 ∙ w);
      agrees = (refl, refl);
      small = omega arith;
      inside = rw agreed.1 tt;
      names = rw agreed.1 tt;
    }

    handed_none : (a : Answer) → handed (cs j).begun a ≡ []
    handed_none a = ap (λ b. handed b a) agreed.1

    -- what the put owns weighs in the sum of all
    weighs_own : (w : Block → ℕ) → sum_l w (owned_by (Record.Put j s)) ≤ weighs w held lost (length z.cpus) cs
    weighs_own w = omega (arith, sum_part (length z.cpus) (λ i. sum_l w (owned_by (cs i).latest)) j l, ap (λ r. sum_l w (owned_by r)) e)

  abbrev Stage : Giving → Type 0
  Stage s = (e : (cs j).latest ≡ Record.Put j s) → Kept s e (carried g z (give g j s))

  -- a block lies in its child and its tree
  child_of_lem : (b : Block) → Passes (block_in g b) → ((tree_of_block g b).0 < trees_of g) × (child_of_block g b < children_of g (tree_of_block g b).0) × ((tree_of_block g b).0 * per_tree g + child_of_block g b ≡ (huge_of_block b).0)
  child_of_lem b p = let h = block_huge g b p in (tree_in_lem g (omega arith) (huge_of_block b).0 h, number_in g (omega arith) (huge_of_block b).0 h, huge_is g (omega arith) (huge_of_block b).0)

  owes : (s : Giving) (e : (cs j).latest ≡ Record.Put j s) (t h : ℕ) → owed g (Record.Put j s) t ≡ h → owed g (cs j).latest t ≡ h
  owes s e t h q = ap (λ r. owed g r t) e ∙ q

  to_tree_stage : (b : Block) → Stage (Giving.ToTree b)
  unfolding give low_of owed reserves giving_in
  to_tree_stage b e =
      let s : Giving = Giving.ToTree b in
      let t : Tree = tree_of_block g b in
      let y : t.0 < trees_of g = (child_of_lem b (proper s e)).0 in
      let k : ℕ = tally_at z.trees t.0 in
      let m : k + size_of b ≤ capacity g t.0 = omega (arith, room n z cs held lost u t.0 j j y l l, owes s e t.0 (size_of b) (at_same t.0 (size_of b))) in
      read_tree n z cs held lost u (Kept s e) t _ y (rw (tally_plan g t (flag_at z.trees t.0) (k + size_of b) (Answer.Done (first_of b)) m)
      (tree_kept n z cs held lost u j l _ e t.0 _ (k + size_of b) _ (fine_done s e _ (first_of b) refl) (λ x. refl) y (flag_small _) m (λ x. add-zero _ ∙ at_add t.0 k (size_of b) x) (λ x. refl) tt))

  to_entry_stage : (b : Block) → Stage (Giving.ToEntry b)
  unfolding give low_of owed reserves giving_in share has by_cpu
  to_entry_stage b e =
      let s : Giving = Giving.ToEntry b in
      let t : Tree = tree_of_block g b in
      let y : t.0 < trees_of g = (child_of_lem b (proper s e)).0 in
      let none : Kept s e (to_cpu g j (look (put g j (Giving.ToTree b)))) = rw (look_plan g j (put g j (Giving.ToTree b))) (looked n z cs held lost u j l _ e _ (fine_goes s e nothing (Giving.ToTree b) (proper s e) refl) (λ x. refl) (λ x. refl) (λ x. refl) tt) in
      read_cpu n z cs held lost u (Kept s e) j _ _ l (λ a. none) (λ v c k a q. pick_elim (λ (m : Made CpuEntry). Kept s e (to_cpu g j m)) (eqb v.0 t.0)
      (λ d.
      let w : v ≡ t = ap tree (eqb-true v.0 t.0 d) in
      let held_by : E ≡ Some (CpuEntry.Holds t c k) = a ∙ ap (λ i. Some (CpuEntry.Holds i c k)) w in
      let r : Passes (holds_checks g t c k) = subst (λ i. Passes (holds_checks g i c k)) w q in
      let m : k + size_of b ≤ capacity g t.0 = omega (arith, room n z cs held lost u t.0 j j y l l, ap (share t.0) held_by, at_same t.0 k, owes s e t.0 (size_of b) (at_same t.0 (size_of b))) in
      let ok : Passes (holds_checks g t c (k + size_of b)) = (r.0, (r.1.0, (omega arith, tt))) in
      rw (holds_plan g j t c (k + size_of b) (Answer.Done (first_of b)) ok)
      (own_kept n z cs held lost u j l _ e (CpuEntry.Holds t c (k + size_of b)) _ (fine_done s e _ (first_of b) refl) (λ x. refl) (holds_again g t c (k + size_of b) format1_sound u.small ok) (λ q. let y : ◌≡◌ {A = ℕ} 0 1 = cc in omega arith)
      (λ x. rw held_by (add-zero _ ∙ at_add t.0 k (size_of b) x)) (λ x. rw held_by refl) tt))
      (λ d. none))

  raise_stage : (v : Run) (f : Frame) → Stage (Giving.Raise v f)
  unfolding give low_of owed reserves giving_in
  raise_stage v f e =
      let s : Giving = Giving.Raise v f in
      let b : Block = Block.Run v f in
      let t : Tree = tree_of_block g b in
      let c : ℕ = child_of_block g b in
      let q = child_of_lem b (proper s e) in
      let i : ℕ = t.0 * per_tree g + c in
      let x : ℕ = get_or z.children i 0 in
      let low : (y : ℕ) → low_of g (Record.Put j s) y ≡ at i (run_size v) y = λ y. ap (λ k. at k (run_size v) y) (sym q.2) in
      let y = under_way n z cs held lost u i j (run_size v) (rw q.2 (block_huge g b (proper s e))) l (run_some v) (omega (arith, ap (λ r. low_of g r i) e, low i, at_same i (run_size v))) in
      let k : ℕ = y.0 in
      read_child n z cs held lost u (Kept s e) t c _ q.1 (rw (give_counts (run_size v) x k y.1 y.2, given_plan g t c (count_word (k + run_size v)) (put g j (Giving.ToEntry b)) plain)
      (count_kept n z cs held lost u j l _ e t.0 c k (k + run_size v) _ (fine_goes s e _ (Giving.ToEntry b) (proper s e) refl) q.1 y.1 y.2 (λ y. omega (arith, at_add i k (run_size v) y, low y)) (λ y. refl) (λ y. refl) tt))

  whole_stage : (h : Huge) → Stage (Giving.Clear (Block.Whole h))
  unfolding give clear low_of owed reserves giving_in sum_l whole_of
  whole_stage h e =
      let b : Block = Block.Whole h in
      let s : Giving = Giving.Clear b in
      let t : Tree = tree_of_block g b in
      let c : ℕ = child_of_block g b in
      let q = child_of_lem b (proper s e) in
      let i : ℕ = t.0 * per_tree g + c in
      let same : huge i ≡ h = ap huge q.2 in
      let inside : i < n = rw q.2 (block_huge g b (proper s e)) in
      let x : ℕ = get_or z.children i 0 in
      let once = owned_once n z.children z.words _ _ (owned_survived n z.children z.words _ _ _ u.lower) (child_frames * i) (omega arith) in
      let one : weighs (whole_of i) held lost (length z.cpus) cs ≡ 1 = omega (arith, weighs_own s e (whole_of i), ap (λ k. at k 1 i) q.2, at_same i 1, rw (whole_of_lem i) at once) in
      let f : child_says x ≡ Some ChildEntry.Flagged = whole_flag n z.children z.words _ _ _ u.lower i inside one in
      read_child n z cs held lost u (Kept s e) t c _ q.1 (rw (clear_flagged x f, given_plan g t c (count_word child_frames) (put g j (Giving.ToEntry b)) (clears b))
      (subst (λ (y : Huge). Kept s e (record { store = Store.child i (count_word child_frames); answer = put g j (Giving.ToEntry b); mark = clears (Block.Whole y) })) same
      (unflag_kept n z cs held lost u j l _ e t.0 c _ (fine_clears s e _ _ (Giving.ToEntry b) (proper s e) refl) (handed_none s e _) (ap (λ y. Block.Whole y ∷ []) (sym same)) refl q.1 f (λ y. refl) (λ y. sym (zero-add _)) (λ y. refl) tt)))
    where
      whole_of_lem : (i : ℕ) → child_frames * i / child_frames ≡ i
      whole_of_lem i = omega arith

  run_stage : (v : Run) (f : Frame) → Stage (Giving.Clear (Block.Run v f))
  unfolding give clear low_of owed reserves giving_in sum_l base_of
  run_stage v f e =
      let b : Block = Block.Run v f in
      let s : Giving = Giving.Clear b in
      let t : Tree = tree_of_block g b in
      let c : ℕ = child_of_block g b in
      let q = child_of_lem b (proper s e) in
      let m : ℕ = t.0 * per_tree g + c in
      let i : ℕ = word_of f in
      let k : ℕ = bit_of f in
      let inside : f.0 < child_frames * n = omega (arith, (proper s e).0) in
      let at-frame : m * child_frames + i * word_bits + k ≡ f.0 = omega (arith, q.2) in
      let at-word : child_words * (t.0 * per_tree g) + (child_words * c + i) ≡ child_words * m + i = omega arith in
      let word_of_lem : f.0 / word_bits ≡ child_words * m + i = omega (arith, q.2) in
      let same : frame (m * child_frames + i * word_bits + k) ≡ f = ap frame at-frame in
      let x : ℕ = get_or z.words (child_words * m + i) 0 in
      let fits : k + run_size v ≤ word_bits = bit_ends v f.0 (proper s e).1.0 in
      let on : bits (run_size v) k x ≡ 2 ^ run_size v - 1 = taken_bits (run_size v) k x (λ y d.
      let in_zone : f.0 + y < child_frames * n = omega (arith, fits, inside, at-frame) in
      let once = owned_once n z.children z.words _ _ (owned_survived n z.children z.words _ _ _ u.lower) (f.0 + y) in_zone in
      let one : weighs (base_of (f.0 + y)) held lost (length z.cpus) cs ≡ 1 = omega (arith, weighs_own s e (base_of (f.0 + y)), run_in (run_size v) f.0 (f.0 + y) (omega arith) (omega arith), once) in
      let same_bit : (f.0 + y) % word_bits ≡ k + y = omega (arith, fits) in
      let same_word : (f.0 + y) / word_bits ≡ child_words * m + i = omega (arith, fits, word_of_lem) in
      subst (λ c. bit c x ≡ 1) same_bit (subst (λ c. bit ((f.0 + y) % word_bits) (get_or z.words c 0) ≡ 1) same_word (base_bit n z.children z.words _ _ _ u.lower (f.0 + y) in_zone one))) in
      read_word n z cs held lost u (Kept s e) t _ _ (omega (arith, q.1)) (subst (λ y. Kept s e (to_word g t (child_words * c + i) (on_gave (clear_run (run_size v) k (get_or z.words y 0)) (put g j (Giving.Raise v f)) (clears b)))) (sym at-word)
      (rw (clear_run_lem (run_size v) k x on, cleared_plan g t (child_words * c + i) (x - ones (run_size v) k) (put g j (Giving.Raise v f)) (clears b), at-word)
      (subst (λ (y : Frame). Kept s e (record { store = Store.word (child_words * m + i) (x - ones (run_size v) k); answer = put g j (Giving.Raise v f); mark = clears (Block.Run v y) })) same
      (bits_unkept n z cs held lost u j l _ e v t.0 c i k _ (fine_clears s e _ _ (Giving.Raise v f) (proper s e) refl) (handed_none s e _) (ap (λ y. Block.Run v y ∷ []) (sym same)) refl q.1 (omega arith) fits on
      (λ y. ap (λ d. at d (run_size v) y) (sym q.2) ∙ sym (zero-add _)) (λ y. sym (zero-add _)) (λ y. refl) tt))))

  pub put_kept : (s : Giving) → Stage s
  put_kept (Giving.Clear (Block.Run v f)) = run_stage v f
  put_kept (Giving.Clear (Block.Whole h)) = whole_stage h
  put_kept (Giving.Raise v f) = raise_stage v f
  put_kept (Giving.ToEntry b) = to_entry_stage b
  put_kept (Giving.ToTree b) = to_tree_stage b
