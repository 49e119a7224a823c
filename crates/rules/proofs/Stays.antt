-- A get that runs alone keeps what it has ruled out, stage by stage; and at No room every tree is bare.
use Rattle.std.specs.Prelude.{Option, Result, Ok, Some}
use mathlib.Core.Path.{◌≡◌, refl, sym, ap, ◌∙◌, subst}
use mathlib.Core.Logic.{◌≢◌}
use mathlib.Core.Bool.{false, ◌&&◌}
use mathlib.Core.List.{List, [], ◌∷◌}
use Prim.Native.Nat.{ℕ, suc, ◌+◌, ◌-◌, ◌*◌, ◌/◌, ◌%◌, ◌≤◌, ◌<◌}
use native.Mathlib.Omega.{arith}
use native.Mathlib.Decide.{ℕ_discrete, dec_lt}
use lib.Dec.{eqb, leb, ltb}
use lib.ListN.{length, get_or, set}
use lib.Seq.{get_or-set_same, get_or-set_other}
use borrow.Author.Tests.{eq-eqb, eqb-true, eqb-false, leb-true, leb-false, ltb-false}
use Rattle.laws.specs.Tests.{pick, Passes}
use Rattle.laws.specs.Words.{bits, ones, lowest}
use Rattle.laws.proofs.Words.{lowest_below}
use Rattle.laws.proofs.Tests.{pick_elim, passes_left, passes_right}
use Rattle.laws.proofs.Sum.{at_same, sum_single}
use Rattle.rules.specs.Types.{Tree, Run, Order, Block, ChildEntry, CpuEntry, Took, Pass, Found, Place, Taking, Record, Answer, Fault}
use Rattle.rules.specs.Numbers.{child_frames, child_words, word_bits, format1, Shape, per_tree, trees_of, children_of, capacity}
use Rattle.rules.specs.Conversions.{huge}
use Rattle.rules.specs.Blocks.{run_size, size, first_of, tree_of_block, frame_at}
use Rattle.rules.specs.Answers.{number, by_answer}
use Rattle.rules.specs.Entries.{field, tree_layout, tree_word, cpu_word, cpu_says}
use Rattle.rules.specs.Lower.{Lowered, told, child_says, count_word, flagged_word, count_in, take_run}
use Rattle.rules.specs.Zone.{Zone, shaped, Store, stored}
use Rattle.rules.specs.Plan.{Mark, plain, takes, Plan, refuse, Made, look, store, Tally, tally, by_change, laid_out, to_cpu, to_tree, to_child, to_word, on_took, on_bit, on_gave, carried}
use Rattle.rules.specs.Places.{class_of, fits, pass_tree, found_tree, place_tree, after_pass, after_steal}
use Rattle.rules.specs.Take.{get, if_own_holds, claim_own, release, write, steal_count, next_child, search_child, search_word, take}
use Rattle.rules.specs.Ranges.{block_in, found_in, place_in, taking_in, step_range}
use Rattle.rules.specs.Step.{act, step}
use Rattle.rules.specs.Events.{Cpu, resting, order_of_block}
use Rattle.rules.proofs.Sizes.{not_below, run_some, word_of_lem}
use Rattle.rules.proofs.Guards.{look_plan, tree_look_plan, taken_plan, passed_plan, given_plan, bit_plan, full_plan}
use Rattle.rules.proofs.Falls.{to_come_lem, come_high, pass_tree_lem, found_tree_lem, place_tree_lem}
use Rattle.rules.proofs.Shapes.{child_in_lem, kids_most, kids_some}
use Rattle.rules.proofs.Layouts.{field_join, absent_again}
use Rattle.rules.proofs.Shares.{low_of, owed, reserves, Wanted, want, Proper, OfOrder}
use Rattle.rules.proofs.Upper.{entry_at, tally_at, flag_at}
use Rattle.rules.proofs.Invariant.{Up}
use Rattle.rules.proofs.Readings.{step_is, flag_small, reserved, under_way, read_cpu, read_tree, read_child, read_word}
use Rattle.rules.proofs.Own.{free_of}
use Rattle.rules.proofs.Fields.{counts_entry, flagged_entry, count_fits, Says, counts, flagged, says as says-entry}
use Rattle.rules.proofs.Lower.{claim_counts, claim_flagged, huge_counts, huge_flagged, give_counts, take_run_lem, take_none}
use Rattle.rules.proofs.Room.{Short, short_count, short_words, short_counted}
use Rattle.rules.proofs.Alone.{Bare, Trees, Gone, Passed, Knows, Spent, knows_kept, spent_kept, Full, So, steal_next, ShortAt, spent, searched_all, searched_one, Over, pass_next, place_next, all_free, bare, none_reserved}

module _ (n : ℕ) (z : Zone) (cs : ℕ → Cpu) (held lost : List Block) (u : Up n z cs held lost) (j : ℕ) (l : j < length z.cpus) (o : Order) where
  abbrev g : Shape
  g = shaped n z

  -- ---- what an answer says

  abbrev Recorded : Zone → Record → Type 0
  Recorded y Record.Finished = Unit {0}
  Recorded y (Record.Get i s) = So g j o y s
  Recorded y (Record.Put i s) = Unit {0}
  Recorded y (Record.Create s) = Unit {0}
  Recorded y (Record.Open s) = Unit {0}

  abbrev pub Said : Zone → Answer → Type 0
  Said y a = by_answer a (λ f. f % size o ≡ 0) (Recorded y) (number a ≡ 2 → (t : ℕ) → t < trees_of g → Bare g j o y t)

  abbrev pub On : Plan → Type 0
  On p = Said (stored format1 z p.store) p.answer

  -- an entry that breaks its layout is refused, and says nothing
  on_cpu_lem : (i : ℕ) (e : CpuEntry) (a : Answer) → Said (stored format1 z (Store.cpu i e)) a → On (to_cpu g i (store e a))
  unfolding to_cpu by_change
  on_cpu_lem i e a h = pick_elim On (laid_out g e) (λ c. h) (λ c q. absurd (omega arith))

  on_tree_lem : (t : Tree) (b k : ℕ) (a : Answer) → (k ≤ capacity g t.0 → Said (stored format1 z (Store.tree t.0 b k)) a) → On (to_tree g t (store (tally b k) a))
  unfolding to_tree by_change
  on_tree_lem t b k a h = pick_elim On (leb k (capacity g t.0)) (λ c. h (leb-true k (capacity g t.0) c)) (λ c q. absurd (omega arith))

  on_look : (i : ℕ) (s : Taking) → So g j o z s → On (to_cpu g i (look (get g j s)))
  unfolding stored
  on_look i s h = rw (look_plan g i (get g j s)) h

  -- the own entry, where it holds tree t
  read_mine : (t : Tree) (f : ℕ → ℕ → Made CpuEntry) (a : Made CpuEntry) → On (to_cpu g j a) → ((b k : ℕ) → b < children_of g t.0 → On (to_cpu g j (f b k))) → On (carried g z (if_own_holds g j t f a))
  read_mine t f a x y = read_cpu n z cs held lost u On j _ _ l (λ h. x) (λ v b k h p. pick_elim (λ (m : Made CpuEntry). On (to_cpu g j m)) (eqb v.0 t.0) (λ c. y b k (subst (λ i. b < children_of g i) (eqb-true v.0 t.0 c) p.1.0)) (λ c. x))

  -- ---- what a store of the own entry leaves

  gone_own : (k : ℕ) (e : CpuEntry) → Gone g j o z k → Gone g j o (stored format1 z (Store.cpu j e)) k
  unfolding stored
  gone_own k e h i a b c = rw (get_or-set_other z.cpus j i _ 0 c) (h i a b c)

  knows_own : (p : Place) (e : CpuEntry) → Knows g j o z p → Knows g j o (stored format1 z (Store.cpu j e)) p
  unfolding stored
  knows_own p e = knows_kept g j o z (stored format1 z (Store.cpu j e)) p (λ k h. h) (λ k. gone_own k e)

  spent_own : (p : Place) (e : CpuEntry) → Spent g j o z p → Spent g j o (stored format1 z (Store.cpu j e)) p
  unfolding stored
  spent_own p e = spent_kept g j o z (stored format1 z (Store.cpu j e)) p (λ t h. h)

  -- at its start child a search has passed none
  passed_none : (y : Zone) (t s : ℕ) → s < children_of g t → Passed g j o y t s s
  passed_none y t s h d m q = absurd (omega (arith, come_high g (omega arith) u.some j l t s s (omega arith), (to_come_lem g (omega arith) u.some j l t s d h m).1))

  -- ---- the stages

  claims : (t : Tree) (s k : ℕ) → s < children_of g t.0 → On (to_cpu g j (claim_own g j o t s k))
  unfolding claim_own
  claims t s k h = on_cpu_lem j (CpuEntry.Holds t s (k - size o)) _ (tt, passed_none (stored format1 z (Store.cpu j (CpuEntry.Holds t s (k - size o)))) t.0 s h)

  own_on : On (carried g z (take g j (Taking.Own o)))
  unfolding take
  own_on = read_cpu n z cs held lost u On j _ _ l (λ h. on_look j _ tt) (λ t s k h p. pick_elim (λ (m : Made CpuEntry). On (to_cpu g j m)) (leb (size o) k) (λ c. claims t s k p.1.0) (λ c. on_look j _ tt))

  take_count_on : (t : Tree) → t.0 < trees_of g → On (carried g z (take g j (Taking.TakeCount o t)))
  unfolding take
  take_count_on t h = read_tree n z cs held lost u On t _ h (on_tree_lem t _ 0 _ (λ d. tt))

  fill_on : (t : Tree) (h : ℕ) → On (carried g z (take g j (Taking.FillEntry o t h)))
  unfolding take
  fill_on t h = read_mine t _ _ (on_look j _ tt) (λ b k m. on_cpu_lem j _ _ tt)

  return_on : (t : Tree) (h : ℕ) → t.0 < trees_of g → On (carried g z (take g j (Taking.ReturnHand o t h)))
  unfolding take
  return_on t h m = read_tree n z cs held lost u On t _ m (on_tree_lem t _ _ _ (λ d. tt))

  look_again_on : (t : Tree) → On (carried g z (take g j (Taking.LookAgain o t)))
  unfolding take release
  look_again_on t = read_mine t _ _ (on_look j _ (place_next g j o z (Place.Own t) tt tt)) (λ b k m. pick_elim (λ (y : Made CpuEntry). On (to_cpu g j y)) (leb (size o) k) (λ c. claims t b k m) (λ c. on_cpu_lem j _ _ (tt, tt)))

  release_on : (p : Place) → So g j o z (Taking.Release o p) → On (carried g z (take g j (Taking.Release o p)))
  unfolding take release
  release_on p h = read_mine (place_tree p) _ _ (on_look j _ (place_next g j o z p h.0 h.1)) (λ b k m. on_cpu_lem j _ _ (knows_own p _ h.0, spent_own p _ h.1))

  -- a block begins at a multiple of its size
  aligned : (b : Block) → Passes (block_in g b) → order_of_block b ≡ o → (first_of b).0 % size o ≡ 0
  aligned (Block.Run v f) h e = subst (λ q. f.0 % size q ≡ 0) e h.1.0
  aligned (Block.Whole h) i e = subst (λ q. h.0 * child_frames % size q ≡ 0) e (omega arith)

  last_on : (b : Block) → Passes (block_in g b) → order_of_block b ≡ o → On (carried g z (take g j (Taking.Last b)))
  unfolding take
  last_on b h e = read_mine (tree_of_block g b) _ _ (rw (look_plan g j (Answer.Done (first_of b))) (aligned b h e)) (λ x k m. on_cpu_lem j _ _ (aligned b h e))

  -- ---- what a store of a tree's entry leaves

  abbrev treed : Tree → ℕ → ℕ → Zone
  treed t b k = stored format1 z (Store.tree t.0 b k)

  -- the flag that is read from then on
  flag_of : (t : Tree) (b k : ℕ) → t.0 < trees_of g → b < 2 → k ≤ capacity g t.0 → flag_at (treed t b k).trees t.0 ≡ b
  unfolding stored tree_word
  flag_of t b k h c d = ap (field tree_layout 0) (get_or-set_same z.trees t.0 (tree_word b k) 0 (omega (arith, u.upper.trees))) ∙ field_join tree_layout (b ∷ k ∷ []) 0 (c, (omega (arith, kids_most g (omega arith) t.0), tt))

  -- the stored tree is bare where its flag is clear
  trees_kept : (t : Tree) (b k m : ℕ) → t.0 < trees_of g → b < 2 → k ≤ capacity g t.0 → (b ≡ 0 → t.0 < m → Bare g j o z t.0) → Trees g j o z m → Trees g j o (treed t b k) m
  unfolding stored
  trees_kept t b k m h c d f q i x y w = elim (ℕ_discrete t.0 i) [
    | yes r ↦ subst (Bare g j o z) r (f (sym (flag_of t b k h c d) ∙ subst (λ v. flag_at (treed t b k).trees v ≡ 0) (sym r) w) (omega arith))
    | no r ↦ q i x y (ap (field tree_layout 0) (sym (get_or-set_other z.trees t.0 i (tree_word b k) 0 (λ v. r (sym v)))) ∙ w)
  ]

  bare_tree : (t : Tree) (b k : ℕ) → Bare g j o z t.0 → Bare g j o (treed t b k) t.0
  unfolding stored
  bare_tree t b k h = h

  gone_tree : (t : Tree) (b k m : ℕ) → Gone g j o z m → Gone g j o (treed t b k) m
  unfolding stored
  gone_tree t b k m h = h

  knows_tree : (p : Place) (b k : ℕ) → (place_tree p).0 < trees_of g → b < 2 → k ≤ capacity g (place_tree p).0 → (b ≡ 0 → Spent g j o z p) → Knows g j o z p → Knows g j o (treed (place_tree p) b k) p
  knows_tree (Place.Own t) b k h c d s q = tt
  knows_tree (Place.Found (Found.Pass (Pass.Near t x))) b k h c d s q = tt
  knows_tree (Place.Found (Found.Pass (Pass.Partial t))) b k h c d s q = tt
  knows_tree (Place.Found (Found.Pass (Pass.Free t))) b k h c d s q = tt
  knows_tree (Place.Found (Found.Pass (Pass.Any t))) b k h c d s q = trees_kept t b k t.0 h c d (λ e m. absurd (omega arith)) q
  knows_tree (Place.Found (Found.Steal i t)) b k h c d s q = (trees_kept t b k (trees_of g) h c d (λ e m. s e) q.0, gone_tree t b k (suc i) q.1)

  spent_tree : (p : Place) (t : Tree) (b k : ℕ) → Spent g j o z p → Spent g j o (treed t b k) p
  unfolding stored
  spent_tree p t b k = spent_kept g j o z (treed t b k) p (λ t h. h)

  unreserve_on : (p : Place) (h : ℕ) → (place_tree p).0 < trees_of g → So g j o z (Taking.Unreserve o p h) → On (carried g z (take g j (Taking.Unreserve o p h)))
  unfolding take
  unreserve_on p h m q =
      let k : ℕ = tally_at z.trees (place_tree p).0 + h in
      read_tree n z cs held lost u On (place_tree p) _ m (on_tree_lem (place_tree p) 0 k _ (λ d. place_next g j o (treed (place_tree p) 0 k) p (knows_tree p 0 k m (omega arith) d (λ e. q.1) q.0) (spent_tree p (place_tree p) 0 k q.1)))

  fail_on : (p : Place) → (place_tree p).0 < trees_of g → So g j o z (Taking.Fail o p) → On (carried g z (take g j (Taking.Fail o p)))
  unfolding take
  fail_on p m q = read_tree n z cs held lost u On (place_tree p) _ m (on_tree_lem (place_tree p) _ _ _ (λ d. (knows_tree p _ _ m (flag_small _) d (λ e. q.1) q.0, spent_tree p (place_tree p) _ _ q.1)))

  write_on : (f : Found) (h : ℕ) → (found_tree f).0 < trees_of g → So g j o z (Taking.Write o f h) → On (carried g z (take g j (Taking.Write o f h)))
  unfolding take write
  write_on f h m q = read_cpu n z cs held lost u On j _ _ l (λ a. writes) (λ v b k a p. writes)
    where
      e : CpuEntry
      e = CpuEntry.Holds (found_tree f) 0 (h - size o)

      writes : On (to_cpu g j (write g j o f h))
      writes = pick_elim (λ (y : Made CpuEntry). On (to_cpu g j y)) (leb (size o) h)
          (λ c. on_cpu_lem j e _ (knows_own (Place.Found f) e q, passed_none (stored format1 z (Store.cpu j e)) (found_tree f).0 0 (kids_some g (omega arith) (found_tree f).0 m)))
          (λ c. rw (look_plan g j Answer.Damaged) (λ x. absurd (omega arith)))

  -- ---- rule 4

  steal_on : (i : ℕ) → i < g.cpus → So g j o z (Taking.Steal o i) → On (carried g z (take g j (Taking.Steal o i)))
  unfolding take after_steal stored
  steal_on i m q = read_cpu n z cs held lost u On i _ _ m
      (λ a. on_look i _ (steal_next g j o z (suc i) q.0 (λ k x y w. elim (ℕ_discrete k i) [
        | yes r ↦ ap (entry_at g z.cpus) r ∙ a
        | no r ↦ q.1 k (omega arith) y w
      ])))
      (λ t s k a p. on_cpu_lem i CpuEntry.Absent _ (stolen_same t q.0, stolen_gone))
    where
      v : ℕ
      v = cpu_word format1 CpuEntry.Absent

      z' : Zone
      z' = stored format1 z (Store.cpu i CpuEntry.Absent)

      stolen_same : (t : Tree) → Trees g j o z (trees_of g) → Trees g j o z' (trees_of g)
      stolen_same t h = h

      stolen_gone : Gone g j o z' (suc i)
      stolen_gone k x y w = elim (ℕ_discrete k i) [
        | yes r ↦ ap (λ d. cpu_says g (get_or (set z.cpus i v) d 0)) r ∙ (ap (cpu_says g) (get_or-set_same z.cpus i v 0 m) ∙ absent_again g)
        | no r ↦ ap (cpu_says g) (get_or-set_other z.cpus i k v 0 r) ∙ q.1 k (omega arith) y w
      ]

  -- ---- the stages that go by counts

  module _ (idle : (i : ℕ) → j ≢ i → cs i ≡ resting) where
    steal_count_on : (i : ℕ) (t : Tree) (h : ℕ) → (cs j).latest ≡ Record.Get j (Taking.StealCount o i t h) → t.0 < trees_of g → So g j o z (Taking.StealCount o i t h) → On (carried g z (take g j (Taking.StealCount o i t h)))
    unfolding take steal_count owed reserves
    steal_count_on i t h e m q =
        let k : ℕ = tally_at z.trees t.0 in
        let r : ℕ = flag_at z.trees t.0 in
        let one : reserves (cs j).latest t.0 ≡ 1 = ap (λ x. reserves x t.0) e ∙ at_same t.0 1 in
        let set : r ≡ 1 = omega (arith, flag_small (get_or z.trees t.0 0), reserved n z cs held lost u t.0 j m l) in
        let own : owed g (cs j).latest t.0 ≡ h = ap (λ x. owed g x t.0) e ∙ at_same t.0 h in
        let all = all_free n z cs held lost u j l idle t.0 m (set ∙ sym one) in
        let knows : 0 ≤ capacity g t.0 → Knows g j o (treed t r 0) (Place.Found (Found.Steal i t)) = λ d. (trees_kept t r 0 (trees_of g) m (flag_small (get_or z.trees t.0 0)) d (λ x y. absurd (omega arith)) q.0, gone_tree t r 0 (suc i) q.1) in
        read_tree n z cs held lost u On t _ m (pick_elim (λ (y : Made Tally). On (to_tree g t y)) (leb (h + k) (capacity g t.0))
        (λ c. on_tree_lem t r 0 _ (λ d. pick_elim (Said (treed t r 0)) (leb (size o) (h + k)) (λ x. knows d) (λ x. let w = leb-false (size o) (h + k) x in (knows d, bare_tree t r 0 (bare n z cs held lost u j l idle o t.0 (omega arith))))))
        (λ c. rw (tree_look_plan g t Answer.Damaged) (λ x. absurd (omega arith))))

    over : (p : Pass) → (cs j).latest ≡ Record.Get j (Taking.Try o p) → (pass_tree p).0 < trees_of g → (eqb (flag_at z.trees (pass_tree p).0) 0 && (fits p (class_of (tally_at z.trees (pass_tree p).0)) && leb (size o) (tally_at z.trees (pass_tree p).0))) ≡ false → Over g j o z p
    unfolding fits owed reserves
    over (Pass.Near t b) e m c = tt
    over (Pass.Partial t) e m c = tt
    over (Pass.Free t) e m c = tt
    over (Pass.Any t) e m c = λ f.
        let none : reserves (cs j).latest t.0 ≡ 0 = ap (λ x. reserves x t.0) e in
        let owes : owed g (cs j).latest t.0 ≡ 0 = ap (λ x. owed g x t.0) e in
        let k : ℕ = tally_at z.trees t.0 in
        let x : leb (size o) k ≡ false = sym (ap (λ y. y && leb (size o) k) (eq-eqb (flag_at z.trees t.0) 0 f)) ∙ c in
        let w = leb-false (size o) k x in
        bare n z cs held lost u j l idle o t.0 (omega (arith, all_free n z cs held lost u j l idle t.0 m (f ∙ sym none)))

    try_on : (p : Pass) → (cs j).latest ≡ Record.Get j (Taking.Try o p) → (pass_tree p).0 < trees_of g → So g j o z (Taking.Try o p) → On (carried g z (take g j (Taking.Try o p)))
    unfolding take stored
    try_on p e m q = read_tree n z cs held lost u On (pass_tree p) _ m (pick_elim (λ (y : Made Tally). On (to_tree g (pass_tree p) y)) _
        (λ c. on_tree_lem (pass_tree p) 1 0 _ (λ d. knows_tree (Place.Found (Found.Pass p)) 1 0 m (omega arith) d (λ x. absurd (omega arith)) q))
        (λ c. rw (tree_look_plan g (pass_tree p) (get g j (after_pass g j o p))) (pass_next g j o z p q (over p e m c))))

    no_room_on : (cs j).latest ≡ Record.Get j Taking.NoRoom → So g j o z Taking.NoRoom → On (carried g z (take g j Taking.NoRoom))
    unfolding take carried stored reserves
    no_room_on e q x t m =
        let own : entry_at g z.cpus j ≡ Some CpuEntry.Absent = subst (λ r. Wanted (want r) (entry_at g z.cpus j)) e (u.upper.wanted j l) in
        q.0 t m m (none_reserved n z cs held lost u j l idle t m (ap (λ r. reserves r t) e) (λ i a. elim (ℕ_discrete i j) [
          | yes r ↦ ap (entry_at g z.cpus) r ∙ own
          | no r ↦ q.1 i a a r
        ]))

  -- ---- rule 5

  -- a count is stored over a count
  module _ (i k k' : ℕ) (x : i < n) (e : child_says (get_or z.children i 0) ≡ Some (ChildEntry.Counts k)) (m : k' ≤ child_frames) where
    abbrev childed : Zone
    childed = stored format1 z (Store.child i (count_word k'))

    shorts : (c : ℕ) → Short (size o) z.children z.words c → Short (size o) childed.children childed.words c
    unfolding stored
    shorts c h = short_counted (size o) z.children z.words i k k' (omega (arith, u.lower.children)) e m c h

    trees_child : (b : ℕ) → Trees g j o z b → Trees g j o childed b
    unfolding stored
    trees_child b h t a c f d y = shorts (t * per_tree g + d) (h t a c f d y)

    gone_child : (b : ℕ) → Gone g j o z b → Gone g j o childed b
    unfolding stored
    gone_child b h = h

    knows_child : (p : Place) → Knows g j o z p → Knows g j o childed p
    knows_child p = knows_kept g j o z childed p trees_child gone_child

    passed_child : (t s c : ℕ) → Passed g j o z t s c → Passed g j o childed t s c
    passed_child t s c h d a b = shorts (t * per_tree g + d) (h d a b)

  next_on : (y : Zone) (p : Place) (s c : ℕ) → s < children_of g (place_tree p).0 → c < children_of g (place_tree p).0 → Knows g j o y p → Passed g j o y (place_tree p).0 s c → ShortAt g j o y (place_tree p).0 c → Said y (next_child g j o p s c)
  unfolding next_child
  next_on y p s c a b k h q =
      let t : ℕ = (place_tree p).0 in
      let d : ℕ = pick (eqb (suc c) (children_of g t)) 0 (suc c) in
      pick_elim (Said y) (eqb d s) (λ e. (k, spent g j o y p (searched_all g j o y t s c (omega arith) u.some l a b h q (eqb-true d s e)))) (λ e. (k, searched_one g j o y t s c (omega arith) u.some l a b h q (eqb-false d s e)))

  -- where nobody else is under way below a count it is true
  module _ (idle : (i : ℕ) → j ≢ i → cs i ≡ resting) where
    true_count : (i : ℕ) → i < n → low_of g (cs j).latest i ≡ 0 → count_in (get_or z.children i 0) ≡ free_of z.children z.words i
    unfolding low_of
    true_count i h e = omega (arith, u.lower.counts i h, sum_single (length z.cpus) j (λ b. low_of g (cs b).latest i) l (λ b m q. ap (λ (c : Cpu). low_of g c.latest i) (idle b q)))

    -- a child that is passed over
    passed_on : (p : Place) (s c : ℕ) → s < children_of g (place_tree p).0 → c < children_of g (place_tree p).0 → So g j o z (Taking.Child o p s c) → free_of z.children z.words ((place_tree p).0 * per_tree g + c) < size o → On (refuse (next_child g j o p s c))
    unfolding stored
    passed_on p s c a b q h = next_on z p s c a b q.0 q.1 (short_count (size o) z.children z.words ((place_tree p).0 * per_tree g + c) h)

still_below : {a b c : ℕ} → (a < b → ⊥) → c < b → c < a
still_below h k = omega arith

-- the stages of the search, by order
module _ (n : ℕ) (z : Zone) (cs : ℕ → Cpu) (held lost : List Block) (u : Up n z cs held lost) (j : ℕ) (l : j < length z.cpus) (idle : (i : ℕ) → j ≢ i → cs i ≡ resting) (p : Place) (s c : ℕ) (a : s < children_of (shaped n z) (place_tree p).0) (b : c < children_of (shaped n z) (place_tree p).0) where
  abbrev shape : Shape
  shape = shaped n z

  abbrev t : Tree
  t = place_tree p

  abbrev i : ℕ
  i = t.0 * per_tree shape + c

  abbrev x : ℕ
  x = get_or z.children i 0

  inside : i < n
  inside = child_in_lem shape (omega arith) t.0 c b

  says_is : Says x
  says_is = says-entry x (u.lower.formed i inside)

  abbrev Z : Run → Plan → Type 0
  Z v = On n z cs held lost u j l (Order.Run v)

  abbrev N : Plan → Type 0
  N = On n z cs held lost u j l Order.Nine

  run_on : (v : Run) → (cs j).latest ≡ Record.Get j (Taking.Child (Order.Run v) p s c) → So shape j (Order.Run v) z (Taking.Child (Order.Run v) p s c) → Z v (carried shape z (take shape j (Taking.Child (Order.Run v) p s c)))
  unfolding take search_child low_of
  run_on v e q =
      let free = true_count n z cs held lost u j l (Order.Run v) idle i inside (ap (λ r. low_of shape r i) e) in
      let W : Answer = get shape j (Taking.Word v p s c 0) in
      let X : Answer = next_child shape j (Order.Run v) p s c in
      let Q : Lowered (Result Took Fault) → Type 0 = λ y. Z v (to_child shape t c (on_took y W plain X)) in
      let pass : free_of z.children z.words i < run_size v → Q (told (Ok Took.Passed)) = λ h. rw (passed_plan shape t c W plain X) (passed_on n z cs held lost u j l (Order.Run v) idle p s c a b q h) in
      read_child n z cs held lost u (Z v) t c _ b (elim says_is [
        | counts k w ↦ subst Q (sym (claim_counts (run_size v) x k w)) (pick_elim Q (leb (run_size v) k)
            (λ d. rw (taken_plan shape t c (count_word (k - run_size v)) W plain X) (let m : k - run_size v ≤ child_frames = omega (arith, count_fits x k w) in
            (knows_child n z cs held lost u j l (Order.Run v) i k (k - run_size v) inside w m p q.0, passed_child n z cs held lost u j l (Order.Run v) i k (k - run_size v) inside w m t.0 s c q.1, λ a y f g. absurd (omega arith))))
            (λ d. pass (omega (arith, leb-false (run_size v) k d, free, (counts_entry x k w).2))))
        | flagged w ↦ subst Q (sym (claim_flagged (run_size v) x w)) (pass (omega (arith, free, (flagged_entry x w).2, run_some v)))
      ])

  nine_on : (cs j).latest ≡ Record.Get j (Taking.Child Order.Nine p s c) → So shape j Order.Nine z (Taking.Child Order.Nine p s c) → N (carried shape z (take shape j (Taking.Child Order.Nine p s c)))
  unfolding take search_child low_of
  nine_on e q =
      let free = true_count n z cs held lost u j l Order.Nine idle i inside (ap (λ r. low_of shape r i) e) in
      let B : Block = Block.Whole (huge i) in
      let W : Answer = get shape j (Taking.Last B) in
      let X : Answer = next_child shape j Order.Nine p s c in
      let Q : Lowered (Result Took Fault) → Type 0 = λ y. N (to_child shape t c (on_took y W (takes B) X)) in
      let pass : free_of z.children z.words i < child_frames → Q (told (Ok Took.Passed)) = λ h. rw (passed_plan shape t c W (takes B) X) (passed_on n z cs held lost u j l Order.Nine idle p s c a b q h) in
      read_child n z cs held lost u N t c _ b (elim says_is [
        | counts k w ↦ subst Q (sym (huge_counts x k w)) (pick_elim Q (eqb k child_frames)
            (λ d. rw (taken_plan shape t c flagged_word W (takes B) X) tt)
            (λ d. pass (below k child_frames (free ∙ refl) (counts_entry x k w).2 (count_fits x k w) (eqb-false k child_frames d))))
        | flagged w ↦ subst Q (sym (huge_flagged x w)) (pass (omega (arith, free, (flagged_entry x w).2)))
      ])
    where
      below : (k m : ℕ) → count_in x ≡ free_of z.children z.words i → count_in x ≡ k → k ≤ m → k ≢ m → free_of z.children z.words i < m
      below k m f g h d = elim (ℕ_discrete k m) [
        | yes r ↦ absurd (d r)
        | no r ↦ omega arith
      ]

  word_on : (v : Run) (w : ℕ) → w < child_words → So shape j (Order.Run v) z (Taking.Word v p s c w) → Z v (carried shape z (take shape j (Taking.Word v p s c w)))
  unfolding take search_word stored
  word_on v w h q =
      let at-word : child_words * (t.0 * per_tree shape) + (child_words * c + w) ≡ child_words * i + w = omega arith in
      let y : ℕ = get_or z.words (child_words * i + w) 0 in
      let r : ℕ = run_size v in
      let A : ℕ → Answer = λ d. get shape j (Taking.Last (Block.Run v (frame_at shape t c w d))) in
      let M : ℕ → Mark = λ d. takes (Block.Run v (frame_at shape t c w d)) in
      let X : Answer = pick (ltb (suc w) child_words) (get shape j (Taking.Word v p s c (suc w))) (get shape j (Taking.GiveBack v p s c)) in
      let Q : Lowered (Option ℕ) → Type 0 = λ d. Z v (to_word shape t (child_words * c + w) (on_bit d A M X)) in
      read_word n z cs held lost u (Z v) t _ _ (omega (arith, b, h)) (subst (λ d. Q (take_run r (get_or z.words d 0))) (sym at-word) (elim (dec_lt (lowest r (word_bits / r) y) (word_bits / r)) [
        | yes d ↦ subst Q (sym (take_run_lem r y d)) (rw (bit_plan shape t (child_words * c + w) (r * lowest r (word_bits / r) y) (y + ones r (r * lowest r (word_bits / r) y)) A M X) tt)
        | no d ↦ subst Q (sym (take_none r y (not_below d))) (rw (full_plan shape t (child_words * c + w) A M X) (go (λ a f m g. elim (ℕ_discrete a w) [
          | yes x ↦ λ k. lowest_below r (word_bits / r) y f (still_below d g) (ap (λ d. bits r (r * f) (get_or z.words (child_words * i + d) 0)) (sym x) ∙ k)
          | no x ↦ q.2 a f (omega arith) g
        ])))
      ]))
    where
      go : Full shape j (Order.Run v) z t.0 c (suc w) → On n z cs held lost u j l (Order.Run v) (refuse (pick (ltb (suc w) child_words) (get shape j (Taking.Word v p s c (suc w))) (get shape j (Taking.GiveBack v p s c))))
      go f = pick_elim (Said n z cs held lost u j l (Order.Run v) z) (ltb (suc w) child_words) (λ d. (q.0, q.1, f))
          (λ d. let k = ltb-false (suc w) child_words d in (q.0, q.1, short_words (run_size v) (word_bits / run_size v) (word_of_lem v) z.children z.words i (λ a y m g. f a y (omega arith) g)))

  give_back_on : (v : Run) → (cs j).latest ≡ Record.Get j (Taking.GiveBack v p s c) → So shape j (Order.Run v) z (Taking.GiveBack v p s c) → Z v (carried shape z (take shape j (Taking.GiveBack v p s c)))
  unfolding take low_of
  give_back_on v e q =
      let y = under_way n z cs held lost u i j (run_size v) inside l (run_some v) (omega (arith, ap (λ r. low_of shape r i) e, at_same i (run_size v))) in
      let k : ℕ = y.0 in
      let X : Answer = next_child shape j (Order.Run v) p s c in
      let m : k + run_size v ≤ child_frames = y.2 in
      read_child n z cs held lost u (Z v) t c _ b (subst (λ d. Z v (to_child shape t c (on_gave d X plain))) (sym (give_counts (run_size v) x k y.1 m)) (rw (given_plan shape t c (count_word (k + run_size v)) X plain)
      (next_on n z cs held lost u j l (Order.Run v) (childed n z cs held lost u j l (Order.Run v) i k (k + run_size v) inside y.1 m) p s c a b (knows_child n z cs held lost u j l (Order.Run v) i k (k + run_size v) inside y.1 m p q.0) (passed_child n z cs held lost u j l (Order.Run v) i k (k + run_size v) inside y.1 m t.0 s c q.1) (shorts n z cs held lost u j l (Order.Run v) i k (k + run_size v) inside y.1 m i q.2))))

-- ---- any stage

module _ (n : ℕ) (z : Zone) (cs : ℕ → Cpu) (held lost : List Block) (u : Up n z cs held lost) (j : ℕ) (l : j < length z.cpus) (idle : (i : ℕ) → j ≢ i → cs i ≡ resting) where
  abbrev here : Shape
  here = shaped n z

  abbrev Carries : Order → Taking → Type 0
  Carries o s = (cs j).latest ≡ Record.Get j s → Passes (taking_in here j s) → So here j o z s → On n z cs held lost u j l o (carried here z (take here j s))

  -- a stage with an order of its own is that of the get
  by_order : (o q : Order) (s : Order → Taking) → q ≡ o → ((q : Order) → Carries q (s q)) → Carries o (s q)
  by_order o q s e h = subst (λ x. Carries x (s q)) e (h q)

  place_in_lem : (p : Place) → Passes (place_in here j p) → (place_tree p).0 < trees_of here
  place_in_lem p h = place_tree_lem here (omega arith) u.some j l p h

  -- each stage, at its own order
  carries : (s : Taking) (o : Order) → OfOrder s o → Carries o s
  unfolding taking_in
  carries (Taking.Own q) o f = by_order o q Taking.Own f (λ q e h k. own_on n z cs held lost u j l q)
  carries (Taking.TakeCount q t) o f = by_order o q (λ q. Taking.TakeCount q t) f (λ q e h k. take_count_on n z cs held lost u j l q t h.0)
  carries (Taking.FillEntry q t a) o f = by_order o q (λ q. Taking.FillEntry q t a) f (λ q e h k. fill_on n z cs held lost u j l q t a)
  carries (Taking.ReturnHand q t a) o f = by_order o q (λ q. Taking.ReturnHand q t a) f (λ q e h k. return_on n z cs held lost u j l q t a h.0)
  carries (Taking.LookAgain q t) o f = by_order o q (λ q. Taking.LookAgain q t) f (λ q e h k. look_again_on n z cs held lost u j l q t)
  carries (Taking.Release q p) o f = by_order o q (λ q. Taking.Release q p) f (λ q e h k. release_on n z cs held lost u j l q p k)
  carries (Taking.Unreserve q p a) o f = by_order o q (λ q. Taking.Unreserve q p a) f (λ q e h k. unreserve_on n z cs held lost u j l q p a (place_in_lem p (passes_left (place_in here j p) _ h)) k)
  carries (Taking.Try q p) o f = by_order o q (λ q. Taking.Try q p) f (λ q e h k. try_on n z cs held lost u j l q idle p e (pass_tree_lem here (omega arith) u.some j l p h) k)
  carries (Taking.Write q a b) o f = by_order o q (λ q. Taking.Write q a b) f (λ q e h k. write_on n z cs held lost u j l q a b (found_tree_lem here (omega arith) u.some j l a (passes_left (found_in here j a) _ h)) k)
  carries (Taking.Steal q i) o f = by_order o q (λ q. Taking.Steal q i) f (λ q e h k. steal_on n z cs held lost u j l q i h.0 k)
  carries (Taking.StealCount q i t a) o f = by_order o q (λ q. Taking.StealCount q i t a) f (λ q e h k. steal_count_on n z cs held lost u j l q idle i t a e (found_tree_lem here (omega arith) u.some j l (Found.Steal i t) (passes_left (found_in here j (Found.Steal i t)) _ h)) k)
  carries (Taking.Child (Order.Run v) p s c) o f = subst (λ x. Carries x (Taking.Child (Order.Run v) p s c)) f (λ e h k. let m = passes_right (place_in here j p) _ h in run_on n z cs held lost u j l idle p s c m.0 m.1.0 v e k)
  carries (Taking.Child Order.Nine p s c) o f = subst (λ x. Carries x (Taking.Child Order.Nine p s c)) f (λ e h k. let m = passes_right (place_in here j p) _ h in nine_on n z cs held lost u j l idle p s c m.0 m.1.0 e k)
  carries (Taking.Word v p s c w) o f = subst (λ x. Carries x (Taking.Word v p s c w)) f (λ e h k. let m = passes_right (place_in here j p) _ h in word_on n z cs held lost u j l idle p s c m.0 m.1.0 v w m.1.1.0 k)
  carries (Taking.GiveBack v p s c) o f = subst (λ x. Carries x (Taking.GiveBack v p s c)) f (λ e h k. let m = passes_right (place_in here j p) _ h in give_back_on n z cs held lost u j l idle p s c m.0 m.1.0 v e k)
  carries (Taking.Last b) o f = λ e h k. last_on n z cs held lost u j l o b h f
  carries (Taking.Fail q p) o f = by_order o q (λ q. Taking.Fail q p) f (λ q e h k. fail_on n z cs held lost u j l q p (place_in_lem p h) k)
  carries Taking.NoRoom o f = λ e h k. no_room_on n z cs held lost u j l o idle e k

  -- so a step of the get alone keeps what it has ruled out, and No room means that every tree is bare
  pub step_on : (o : Order) (s : Taking) → (cs j).latest ≡ Record.Get j s → OfOrder s o → So here j o z s → On n z cs held lost u j l o (step z (Record.Get j s))
  unfolding act step_range
  step_on o s e f k =
      let q : Proper here j (Record.Get j s) = subst (Proper here j) e (u.upper.proper j l) in
      subst (On n z cs held lost u j l o) (sym (step_is n z cs held lost u (Record.Get j s) (l, q.1))) (carries s o f e q.1 k)
