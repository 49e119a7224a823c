-- Every step of a get keeps the invariant: each stage is one kind of store.
use Rattle.std.specs.Prelude.{Option, Some, Result, Ok}
use mathlib.Core.Path.{◌≡◌, refl, sym, ap, ◌∙◌, subst}
use mathlib.Core.Bool.{◌&&◌}
use mathlib.Core.List.{List, [], ◌∷◌, ◌++◌}
use Prim.Native.Nat.{ℕ, suc, ◌+◌, ◌-◌, ◌*◌, ◌/◌, ◌≤◌, ◌<◌}
use native.Mathlib.Omega.{arith}
use native.Mathlib.Nat.{add-zero, zero-add}
use native.Mathlib.Decide.{dec_lt}
use lib.Dec.{eqb, leb, ltb}
use lib.ListN.{length, get_or}
use borrow.Author.Tests.{eqb-true, eqb-false, leb-true, leb-false, ltb-true}
use Rattle.laws.specs.Tests.{pick, Passes}
use Rattle.laws.specs.Sum.{at}
use Rattle.laws.proofs.Tests.{pick_elim, and_both, passes_left, passes_right, passes_both}
use Rattle.laws.specs.Words.{ones, lowest}
use Rattle.laws.proofs.Words.{lowest_free}
use Rattle.laws.proofs.Sum.{at_same, at_add, at_none}
use Rattle.rules.specs.Types.{Tree, Run, Order, Block, ChildEntry, CpuEntry, Took, Pass, Found, Place, Taking, Record, Answer, Fault}
use Rattle.rules.specs.Numbers.{child_frames, child_words, word_bits, Shape, per_tree, trees_of, children_of, capacity}
use Rattle.rules.specs.Conversions.{tree, huge, frame}
use Rattle.rules.specs.Blocks.{run_size, size, frame_at, first_of, block_at, tree_of_block, child_of_block, huge_of_block}
use Rattle.rules.specs.Entries.{holds_checks}
use Rattle.rules.specs.Lower.{Lowered, told, changed, count_word, flagged_word, take_run}
use Rattle.rules.specs.Zone.{Zone, Store, nothing, shaped}
use Rattle.rules.specs.Plan.{Mark, plain, takes, to_child, to_word, on_took, on_bit, Plan, says, Made, look, store, Tally, tally, by_cpu, to_cpu, to_tree, carried}
use Rattle.rules.specs.Ranges.{hand_in, block_in, taking_in, pass_in, found_in, place_in}
use Rattle.rules.specs.Places.{class_of, fits, pass_tree, found_tree, place_tree, after_pass, after_steal, after_place}
use Rattle.rules.specs.Take.{get, if_own_holds, claim_own, release, write, steal_count, next_child, search_child, search_word, take}
use Rattle.rules.specs.Events.{Cpu, order_of_block, taken, lost_by, handed}
use Rattle.rules.specs.Promise.{owned_by}
use Rattle.rules.proofs.Falls.{come_next, pass_tree_lem, found_tree_lem, place_tree_lem, after_place_lem}
use Rattle.rules.proofs.Shapes.{kids_some, some_tree, child_in_lem, number_in}
use Rattle.rules.proofs.Layouts.{format1_sound, holds_again, absent_again}
use Rattle.rules.proofs.Shares.{mine, share, has, low_of, owed, reserves, Wanted, want, Proper, Enough, OfOrder, AgreesWith}
use Rattle.rules.proofs.Upper.{entry_at, tally_at, flag_at, absent_wanted}
use Rattle.rules.proofs.Invariant.{BlockIn, Up, Fine, Keeps, looked, own_kept, other_kept, tree_kept, count_kept, flag_kept, bits_kept}
use Rattle.rules.proofs.Fields.{count_fits, Says, counts, flagged, says as says-entry}
use Rattle.rules.proofs.Stages.{block_huge}
use Rattle.rules.proofs.Readings.{flag_small, room, reserved, under_way, read_cpu, read_tree, read_child, read_word}
use Rattle.rules.proofs.Guards.{look_plan, absent_plan, holds_plan, tree_look_plan, tally_plan, taken_plan, passed_plan, given_plan, bit_plan, full_plan}
use Rattle.rules.proofs.Sizes.{not_below, run_some, run_at, run_frame}
use Rattle.rules.proofs.Lower.{claim_counts, claim_flagged, huge_counts, huge_flagged, give_counts, take_run_lem, take_none}

-- the stage at a next place: a try, a steal, or No room
pub at_place : (g : Shape) (j : ℕ) (o : Order) (Q : Taking → Type 0) → ((p : Pass) → Q (Taking.Try o p)) → ((i : ℕ) → Q (Taking.Steal o i)) → Q Taking.NoRoom → (p : Place) → Q (after_place g j o p)
unfolding after_place after_pass after_steal
at_place g j o Q a b c (Place.Own t) = pick_elim Q _ (λ e. a _) (λ e. a _)
at_place g j o Q a b c (Place.Found (Found.Pass (Pass.Near t s))) = pick_elim Q _ (λ e. a _) (λ e. a _)
at_place g j o Q a b c (Place.Found (Found.Pass (Pass.Partial t))) = pick_elim Q _ (λ e. a _) (λ e. a _)
at_place g j o Q a b c (Place.Found (Found.Pass (Pass.Free t))) = pick_elim Q _ (λ e. a _) (λ e. a _)
at_place g j o Q a b c (Place.Found (Found.Pass (Pass.Any t))) = pick_elim Q _ (λ e. a _) (λ e. pick_elim Q _ (λ e. b _) (λ e. c))
at_place g j o Q a b c (Place.Found (Found.Steal i t)) = pick_elim Q _ (λ e. b _) (λ e. c)

-- an amount in two parts
split_at : (t k a b x : ℕ) → a + b ≡ k → at t a x + at t b x ≡ at t k x
split_at t k a b x e = sym (at_add t a b x) ∙ ap (λ y. at t y x) e

absent_holds : {A : Type 0} (e : Option CpuEntry) (t : Tree) (s k : ℕ) → e ≡ Some CpuEntry.Absent → e ≡ Some (CpuEntry.Holds t s k) → A
absent_holds e t s k p q = let z : ◌≡◌ {A = ℕ} 0 1 = cc in absurd (omega arith)

same_tree : (e : Option CpuEntry) (t v : Tree) (s s' k k' : ℕ) → e ≡ Some (CpuEntry.Holds t s k) → e ≡ Some (CpuEntry.Holds v s' k') → v ≡ t
same_tree e t v s s' k k' p q = cc

module _ (n : ℕ) (z : Zone) (cs : ℕ → Cpu) (held lost : List Block) (u : Up n z cs held lost) (j : ℕ) (l : j < length z.cpus) where
  abbrev g : Shape
  g = shaped n z

  abbrev E : Option CpuEntry
  E = entry_at g z.cpus j

  module _ (s : Taking) (e : (cs j).latest ≡ Record.Get j s) where
    abbrev Kept : Plan → Type 0
    Kept = Keeps n z cs held lost u j l (Record.Get j s) e

    abbrev Good : Plan → Type 0
    Good = Fine n z cs held lost u j l (Record.Get j s) e

    -- what is known of the record
    agreed : AgreesWith (cs j).begun (cs j).marks (Record.Get j s)
    agreed = subst (AgreesWith (cs j).begun (cs j).marks) e (u.agrees j)

    proper : Passes (taking_in g j s) × Enough s
    proper = let p : Proper g j (Record.Get j s) = subst (Proper g j) e (u.upper.proper j l) in (p.1, p.2)

    wanted : Wanted (want (Record.Get j s)) E
    wanted = subst (λ r. Wanted (want r) E) e (u.upper.wanted j l)

    -- ---- the record after a step

    -- the get goes on, and owns what it owned
    fine_goes : (st : Store) (s' : Taking) → Passes (taking_in g j s') → Enough s' → ((o : Order) → OfOrder s o → OfOrder s' o) → owned_by (Record.Get j s) ≡ owned_by (Record.Get j s') → Good (says st (get g j s'))
    unfolding taken lost_by
    fine_goes st s' p q f w = record {
      proper = (refl, p, q);
      lostly = rw agreed.1 (agreed.3 ∙ w);
      agrees = (agreed.0, agreed.1, f agreed.0 agreed.2, agreed.3 ∙ w);
      small = rw agreed.1 (omega arith);
      inside = rw agreed.1 tt;
      names = rw agreed.1 tt;
    }

    -- ---- kinds of steps, with the get going on at stage s'

    -- what a stage shares with the one before it: the order and what it owns
    abbrev Next : Taking → Type 0
    Next s' = Passes (taking_in g j s') × Enough s' × ((o : Order) → OfOrder s o → OfOrder s' o) × (owned_by (Record.Get j s) ≡ owned_by (Record.Get j s')) × ((x : ℕ) → low_of g (Record.Get j s') x ≡ low_of g (Record.Get j s) x)

    abbrev Same : (Record → ℕ → ℕ) → Taking → Type 0
    Same c s' = (x : ℕ) → c (Record.Get j s) x ≡ c (Record.Get j s') x

    look_on : (i : ℕ) (s' : Taking) → Next s' → Same (owed g) s' → Same reserves s' → Wanted (want (Record.Get j s')) E → Kept (to_cpu g i (look (get g j s')))
    look_on i s' x o v w = rw (look_plan g i _) (looked n z cs held lost u j l _ e _ (fine_goes nothing s' x.0 x.1 x.2 x.3) x.4 (λ t. sym (o t)) v w)

    tree_look_on : (t : Tree) (s' : Taking) → Next s' → Same (owed g) s' → Same reserves s' → Wanted (want (Record.Get j s')) E → Kept (to_tree g t (look (get g j s')))
    tree_look_on t s' x o v w = rw (tree_look_plan g t _) (looked n z cs held lost u j l _ e _ (fine_goes nothing s' x.0 x.1 x.2 x.3) x.4 (λ t. sym (o t)) v w)

    -- the own entry holds tree t with count k
    store_holds : (t : Tree) (b k : ℕ) (s' : Taking) → Passes (holds_checks g t b k) → Next s'
        → ((x : ℕ) → at t.0 k x + owed g (Record.Get j s') x ≡ share x E + owed g (Record.Get j s) x) → ((x : ℕ) → at t.0 1 x + reserves (Record.Get j s') x ≡ has x E + reserves (Record.Get j s) x)
        → Wanted (want (Record.Get j s')) (Some (CpuEntry.Holds t b k)) → Kept (to_cpu g j (store (CpuEntry.Holds t b k) (get g j s')))
    unfolding share has by_cpu
    store_holds t b k s' c x o v w = rw (holds_plan g j t b k _ c) (own_kept n z cs held lost u j l _ e (CpuEntry.Holds t b k) _ (fine_goes _ s' x.0 x.1 x.2 x.3) x.4 (holds_again g t b k format1_sound u.small c) (λ q. let y : ◌≡◌ {A = ℕ} 0 1 = cc in omega arith) o v w)

    -- the own entry becomes absent
    store_absent : (s' : Taking) → Next s' → ((x : ℕ) → owed g (Record.Get j s') x ≡ share x E + owed g (Record.Get j s) x) → ((x : ℕ) → reserves (Record.Get j s') x ≡ has x E + reserves (Record.Get j s) x)
        → Kept (to_cpu g j (store CpuEntry.Absent (get g j s')))
    unfolding share has by_cpu
    store_absent s' x o v = rw (absent_plan g j _) (own_kept n z cs held lost u j l _ e CpuEntry.Absent _ (fine_goes _ s' x.0 x.1 x.2 x.3) x.4 (absent_again g) (λ q. let y : ◌≡◌ {A = ℕ} 0 1 = cc in omega arith) (λ t. zero-add _ ∙ o t) (λ t. zero-add _ ∙ v t) (absent_wanted (want (Record.Get j s')) (Some CpuEntry.Absent) refl))

    -- tree t's entry
    store_tree : (t : Tree) (b k : ℕ) (s' : Taking) → Next s' → t.0 < trees_of g → b < 2 → k ≤ capacity g t.0 → ((x : ℕ) → at t.0 k x + owed g (Record.Get j s') x ≡ at t.0 (tally_at z.trees t.0) x + owed g (Record.Get j s) x)
        → ((x : ℕ) → at t.0 b x + reserves (Record.Get j s) x ≡ at t.0 (flag_at z.trees t.0) x + reserves (Record.Get j s') x) → Wanted (want (Record.Get j s')) E → Kept (to_tree g t (store (tally b k) (get g j s')))
    store_tree t b k s' x h c d o v w = rw (tally_plan g t b k _ d) (tree_kept n z cs held lost u j l _ e t.0 b k _ (fine_goes _ s' x.0 x.1 x.2 x.3) x.4 h c d o v w)

  -- ---- the stages

  abbrev Stage : Taking → Type 0
  Stage s = (e : (cs j).latest ≡ Record.Get j s) → Kept s e (carried g z (take g j s))

  -- the next place, where the own entry is absent
  place_next : (s : Taking) (e : (cs j).latest ≡ Record.Get j s) (o : Order) (p : Place) → Passes (place_in g j p) → ((k : Order) → OfOrder s k → o ≡ k) → owned_by (Record.Get j s) ≡ [] → ((x : ℕ) → low_of g (Record.Get j s) x ≡ 0) → Next s e (after_place g j o p)
  unfolding low_of
  place_next s e o p h f w low =
      let a : Passes (taking_in g j (after_place g j o p)) = (after_place_lem g (omega arith) u.some j l o p 2 (omega arith) h).0 in
      at_place g j o (λ s'. Passes (taking_in g j s') → Next s e s')
      (λ q b. (b, tt, f, w, λ x. sym (low x)))
      (λ i b. (b, tt, f, w, λ x. sym (low x)))
      (λ b. (b, tt, (λ k x. tt), w, λ x. sym (low x))) p a

  -- none of these stages owes or reserves, and each wants the own entry absent
  place_owes : (o : Order) (p : Place) (x : ℕ) → (owed g (Record.Get j (after_place g j o p)) x ≡ 0) × (reserves (Record.Get j (after_place g j o p)) x ≡ 0)
  unfolding owed reserves
  place_owes o p x = at_place g j o (λ s'. (owed g (Record.Get j s') x ≡ 0) × (reserves (Record.Get j s') x ≡ 0)) (λ q. (refl, refl)) (λ i. (refl, refl)) (refl, refl) p

  place_wants : (o : Order) (p : Place) → E ≡ Some CpuEntry.Absent → Wanted (want (Record.Get j (after_place g j o p))) E
  place_wants o p h = at_place g j o (λ s'. Wanted (want (Record.Get j s')) E) (λ q. h) (λ i. h) h p

  -- what the own entry says of a tree, where it holds one
  held_share : (t : Tree) (b k x : ℕ) → E ≡ Some (CpuEntry.Holds t b k) → share x E ≡ at t.0 k x
  unfolding share by_cpu
  held_share t b k x h = ap (share x) h

  held_has : (t : Tree) (b k x : ℕ) → E ≡ Some (CpuEntry.Holds t b k) → has x E ≡ at t.0 1 x
  unfolding has by_cpu
  held_has t b k x h = ap (has x) h

  none_share : (x : ℕ) → E ≡ Some CpuEntry.Absent → share x E ≡ 0
  unfolding share by_cpu
  none_share x h = ap (share x) h

  none_has : (x : ℕ) → E ≡ Some CpuEntry.Absent → has x E ≡ 0
  unfolding has by_cpu
  none_has x h = ap (has x) h

  mine_is : (t : Tree) (b k : ℕ) → E ≡ Some (CpuEntry.Holds t b k) → Wanted (mine t) E
  mine_is t b k h = λ v b' k' q. same_tree E t v b b' k k' h q

  -- rule 1: the claim
  claims : (s : Taking) (e : (cs j).latest ≡ Record.Get j s) (o : Order) (t : Tree) (b k : ℕ) → E ≡ Some (CpuEntry.Holds t b k) → Passes (holds_checks g t b k) → size o ≤ k → ((q : Order) → OfOrder s q → o ≡ q)
      → owned_by (Record.Get j s) ≡ [] → ((x : ℕ) → low_of g (Record.Get j s) x ≡ 0) → ((x : ℕ) → owed g (Record.Get j s) x ≡ 0) → ((x : ℕ) → reserves (Record.Get j s) x ≡ 0) → Kept s e (to_cpu g j (claim_own g j o t b k))
  unfolding claim_own low_of owed reserves taking_in place_in
  claims s e o t b k h p c f w low ow rs = store_holds s e t b (k - size o) (Taking.Child o (Place.Own t) b b) (p.0, (p.1.0, (omega (arith, p.1.1.0), tt)))
      ((p.0, (p.1.0, (p.1.0, tt))), tt, f, w, λ x. sym (low x))
      (λ x. rw (held_share t b k x h) (split_at t.0 k (k - size o) (size o) x (omega arith) ∙ sym (add-zero _) ∙ ap (λ y. at t.0 k x + y) (sym (ow x))))
      (λ x. rw (held_has t b k x h) (ap (λ y. at t.0 1 x + y) (sym (rs x))))
      (λ v b' k' q. same_tree _ t v b b' (k - size o) k' refl q)

  own_stage : (o : Order) → Stage (Taking.Own o)
  unfolding take low_of owed reserves taking_in pass_in
  own_stage o e = read_cpu n z cs held lost u (Kept (Taking.Own o) e) j _ _ l
      (λ h. look_on (Taking.Own o) e j (Taking.Try o (Pass.Partial (tree 0))) ((some_tree g (omega arith) u.some, tt), tt, (λ k x. x), refl, λ x. refl) (λ x. refl) (λ x. refl) h)
      (λ t b k h p. pick_elim (λ (m : Made CpuEntry). Kept (Taking.Own o) e (to_cpu g j m)) (leb (size o) k)
      (λ c. claims (Taking.Own o) e o t b k h p (leb-true _ _ c) (λ q x. x) refl (λ x. refl) (λ x. refl) (λ x. refl))
      (λ c. look_on (Taking.Own o) e j (Taking.TakeCount o t) ((p.0, tt), tt, (λ k x. x), refl, λ x. refl) (λ x. refl) (λ x. refl) (mine_is t b k h)))

  -- the own entry holds tree t, or it is absent
  read_own : (s : Taking) (e : (cs j).latest ≡ Record.Get j s) (t : Tree) (f : ℕ → ℕ → Made CpuEntry) (a : Made CpuEntry) → Wanted (mine t) E → (E ≡ Some CpuEntry.Absent → Kept s e (to_cpu g j a))
      → ((b k : ℕ) → E ≡ Some (CpuEntry.Holds t b k) → Passes (holds_checks g t b k) → Kept s e (to_cpu g j (f b k))) → Kept s e (carried g z (if_own_holds g j t f a))
  read_own s e t f a w x y = read_cpu n z cs held lost u (Kept s e) j _ _ l x (λ v b k h p. pick_elim (λ (m : Made CpuEntry). Kept s e (to_cpu g j m)) (eqb v.0 t.0)
      (λ c. let q : v ≡ t = w v b k h in y b k (rw q at h) (subst (λ i. Passes (holds_checks g i b k)) q p))
      (λ c. absurd (eqb-false _ _ c (ap (λ (i : Tree). i.0) (w v b k h)))))

  take_count_stage : (o : Order) (t : Tree) → Stage (Taking.TakeCount o t)
  unfolding take low_of owed reserves taking_in
  take_count_stage o t e =
      let p = (proper (Taking.TakeCount o t) e).0 in
      let k : ℕ = tally_at z.trees t.0 in
      read_tree n z cs held lost u (Kept (Taking.TakeCount o t) e) t _ p.0
      (store_tree (Taking.TakeCount o t) e t _ 0 (Taking.FillEntry o t k) ((p.0, (omega (arith, room n z cs held lost u t.0 j j p.0 l l), tt)), tt, (λ k x. x), refl, λ x. refl) p.0 (flag_small _) (omega arith)
      (λ x. omega (arith, at_none t.0 x)) (λ x. refl) (wanted (Taking.TakeCount o t) e))

  -- what an entry or a record owes its tree
  owes : (s : Taking) (e : (cs j).latest ≡ Record.Get j s) (t h : ℕ) → owed g (Record.Get j s) t ≡ h → owed g (cs j).latest t ≡ h
  owes s e t h q = ap (λ r. owed g r t) e ∙ q

  fill_stage : (o : Order) (t : Tree) (h : ℕ) → Stage (Taking.FillEntry o t h)
  unfolding take low_of owed reserves taking_in
  fill_stage o t h e =
      let s : Taking = Taking.FillEntry o t h in
      let p = (proper s e).0 in
      read_own s e t _ _ (wanted s e)
      (λ a. look_on s e j (Taking.ReturnHand o t h) (p, tt, (λ k x. x), refl, λ x. refl) (λ x. refl) (λ x. refl) (absent_wanted (mine t) E a))
      (λ b k a q.
      let m : k + h ≤ capacity g t.0 = omega (arith, room n z cs held lost u t.0 j j p.0 l l, held_share t b k t.0 a, at_same t.0 k, owes s e t.0 h (at_same t.0 h)) in
      store_holds s e t b (k + h) (Taking.LookAgain o t) (q.0, (q.1.0, (omega arith, tt))) ((p.0, tt), tt, (λ k x. x), refl, λ x. refl)
      (λ x. rw (held_share t b k x a) (add-zero _ ∙ at_add t.0 k h x)) (λ x. rw (held_has t b k x a) refl) (λ v b' k' y. same_tree _ t v b b' (k + h) k' refl y))

  return_stage : (o : Order) (t : Tree) (h : ℕ) → Stage (Taking.ReturnHand o t h)
  unfolding take low_of owed reserves taking_in
  return_stage o t h e =
      let s : Taking = Taking.ReturnHand o t h in
      let p = (proper s e).0 in
      let k : ℕ = tally_at z.trees t.0 in
      read_tree n z cs held lost u (Kept s e) t _ p.0
      (store_tree s e t _ (k + h) (Taking.LookAgain o t) ((p.0, tt), tt, (λ k x. x), refl, λ x. refl) p.0 (flag_small _) (omega (arith, room n z cs held lost u t.0 j j p.0 l l, owes s e t.0 h (at_same t.0 h)))
      (λ x. add-zero _ ∙ at_add t.0 k h x) (λ x. refl) (wanted s e))

  -- rule 2: the release's first step, and the second
  releases : (s : Taking) (e : (cs j).latest ≡ Record.Get j s) (o : Order) (p : Place) (b k : ℕ) → E ≡ Some (CpuEntry.Holds (place_tree p) b k) → Passes (holds_checks g (place_tree p) b k) → Passes (place_in g j p) → ((q : Order) → OfOrder s q → o ≡ q)
      → owned_by (Record.Get j s) ≡ [] → ((x : ℕ) → low_of g (Record.Get j s) x ≡ 0) → ((x : ℕ) → owed g (Record.Get j s) x ≡ 0) → ((x : ℕ) → reserves (Record.Get j s) x ≡ 0) → Kept s e (to_cpu g j (release g j o p k))
  unfolding release low_of owed reserves taking_in
  releases s e o p b k h c q f w low ow rs = store_absent s e (Taking.Unreserve o p k) (passes_both (place_in g j p) _ q (omega (arith, c.1.1.0), tt), tt, f, w, λ x. sym (low x))
      (λ x. rw (held_share (place_tree p) b k x h, ow x) (sym (add-zero _))) (λ x. rw (held_has (place_tree p) b k x h, rs x) (sym (add-zero _)))

  look_again_stage : (o : Order) (t : Tree) → Stage (Taking.LookAgain o t)
  unfolding take low_of owed reserves taking_in place_in
  look_again_stage o t e =
      let s : Taking = Taking.LookAgain o t in
      let p = (proper s e).0 in
      read_own s e t _ _ (wanted s e)
      (λ a. look_on s e j (after_place g j o (Place.Own t)) (place_next s e o (Place.Own t) p (λ k x. x) refl (λ x. refl)) (λ x. sym (place_owes o (Place.Own t) x).0) (λ x. sym (place_owes o (Place.Own t) x).1) (place_wants o (Place.Own t) a))
      (λ b k a q. pick_elim (λ (m : Made CpuEntry). Kept s e (to_cpu g j m)) (leb (size o) k)
      (λ c. claims s e o t b k a q (leb-true _ _ c) (λ k x. x) refl (λ x. refl) (λ x. refl) (λ x. refl))
      (λ c. releases s e o (Place.Own t) b k a q p (λ k x. x) refl (λ x. refl) (λ x. refl) (λ x. refl)))

  release_stage : (o : Order) (p : Place) → Stage (Taking.Release o p)
  unfolding take low_of owed reserves taking_in
  release_stage o p e =
      let s : Taking = Taking.Release o p in
      let q = (proper s e).0 in
      read_own s e (place_tree p) _ _ (wanted s e)
      (λ a. look_on s e j (after_place g j o p) (place_next s e o p q (λ k x. x) refl (λ x. refl)) (λ x. sym (place_owes o p x).0) (λ x. sym (place_owes o p x).1) (place_wants o p a))
      (λ b k a c. releases s e o p b k a c q (λ k x. x) refl (λ x. refl) (λ x. refl) (λ x. refl))

  unreserve_stage : (o : Order) (p : Place) (h : ℕ) → Stage (Taking.Unreserve o p h)
  unfolding take low_of owed reserves taking_in
  unreserve_stage o p h e =
      let s : Taking = Taking.Unreserve o p h in
      let q : Passes (place_in g j p) = passes_left (place_in g j p) _ (proper s e).0 in
      let t : Tree = place_tree p in
      let y : t.0 < trees_of g = place_tree_lem g (omega arith) u.some j l p q in
      let k : ℕ = tally_at z.trees t.0 in
      let one : flag_at z.trees t.0 ≡ 1 = omega (arith, flag_small (get_or z.trees t.0 0), reserved n z cs held lost u t.0 j y l, ap (λ r. reserves r t.0) e, at_same t.0 1) in
      read_tree n z cs held lost u (Kept s e) t _ y
      (store_tree s e t 0 (k + h) (after_place g j o p) (place_next s e o p q (λ k x. x) refl (λ x. refl)) y (omega arith) (omega (arith, room n z cs held lost u t.0 j j y l l, owes s e t.0 h (at_same t.0 h)))
      (λ x. omega (arith, at_add t.0 k h x, (place_owes o p x).0)) (λ x. rw one (omega (arith, at_none t.0 x, (place_owes o p x).1))) (place_wants o p (wanted s e)))

  try_stage : (o : Order) (p : Pass) → Stage (Taking.Try o p)
  unfolding take low_of owed reserves taking_in found_in place_in after_place
  try_stage o p e =
      let s : Taking = Taking.Try o p in
      let q = (proper s e).0 in
      let t : Tree = pass_tree p in
      let y : t.0 < trees_of g = pass_tree_lem g (omega arith) u.some j l p q in
      let k : ℕ = tally_at z.trees t.0 in
      let b : ℕ = flag_at z.trees t.0 in
      let at_next : Place = Place.Found (Found.Pass p) in
      read_tree n z cs held lost u (Kept s e) t _ y (pick_elim (λ (m : Made Tally). Kept s e (to_tree g t m)) (eqb b 0 && (fits p (class_of k) && leb (size o) k))
      (λ c.
      let d = and_both (eqb b 0) _ c in
      let f = and_both (fits p (class_of k)) _ d.1 in
      let none : b ≡ 0 = eqb-true _ _ d.0 in
      store_tree s e t 1 0 (Taking.Write o (Found.Pass p) k) (passes_both (pass_in g p) _ q (omega (arith, room n z cs held lost u t.0 j j y l l), tt), leb-true _ _ f.1, (λ k x. x), refl, λ x. refl) y (omega arith) (omega arith)
      (λ x. omega (arith, at_none t.0 x)) (λ x. rw none (omega (arith, at_none t.0 x))) (wanted s e))
      (λ c. tree_look_on s e t (after_place g j o at_next) (place_next s e o at_next q (λ k x. x) refl (λ x. refl)) (λ x. sym (place_owes o at_next x).0) (λ x. sym (place_owes o at_next x).1) (place_wants o at_next (wanted s e))))

  write_stage : (o : Order) (f : Found) (h : ℕ) → Stage (Taking.Write o f h)
  unfolding take write low_of owed reserves taking_in place_in
  write_stage o f h e =
      let s : Taking = Taking.Write o f h in
      let q : Passes (found_in g j f) = passes_left (found_in g j f) _ (proper s e).0 in
      let m = passes_right (found_in g j f) _ (proper s e).0 in
      let t : Tree = found_tree f in
      let y : t.0 < trees_of g = found_tree_lem g (omega arith) u.some j l f q in
      let c = kids_some g (omega arith) t.0 y in
      read_cpu n z cs held lost u (Kept s e) j _ _ l
      (λ a. pick_elim (λ (m : Made CpuEntry). Kept s e (to_cpu g j m)) (leb (size o) h)
      (λ d. let i : size o ≤ h = leb-true _ _ d in store_holds s e t 0 (h - size o) (Taking.Child o (Place.Found f) 0 0) (y, (c, (omega (arith, m.0), tt))) (passes_both (found_in g j f) _ q (c, (c, tt)), tt, (λ k x. x), refl, λ x. refl)
      (λ x. rw (none_share x a) (split_at t.0 h (h - size o) (size o) x (omega arith) ∙ sym (zero-add _))) (λ x. rw (none_has x a) (omega arith)) (λ v b' k' z. same_tree _ t v 0 b' (h - size o) k' refl z))
      (λ d. absurd (let i : h < size o = leb-false _ _ d in let i' : size o ≤ h = (proper s e).1 in omega arith)))
      (λ v b k a p. absurd (absent_holds _ v b k (wanted s e) a))

  steal_stage : (o : Order) (i : ℕ) → Stage (Taking.Steal o i)
  unfolding take low_of owed reserves taking_in found_in place_in after_place share has by_cpu
  steal_stage o i e =
      let s : Taking = Taking.Steal o i in
      let q = (proper s e).0 in
      let here : Place = Place.Found (Found.Steal i (tree 0)) in
      read_cpu n z cs held lost u (Kept s e) i _ _ q.0
      (λ a. look_on s e i (after_place g j o here) (place_next s e o here (q.0, (q.1.0, (some_tree g (omega arith) u.some, tt))) (λ k x. x) refl (λ x. refl)) (λ x. sym (place_owes o here x).0) (λ x. sym (place_owes o here x).1) (place_wants o here (wanted s e)))
      (λ t b k a p. rw (absent_plan g i _) (other_kept n z cs held lost u j l _ e i _ (fine_goes s e _ (Taking.StealCount o i t k) (q.0, (q.1.0, (p.0, (omega (arith, p.1.1.0), tt)))) tt (λ k x. x) refl) (λ x. refl) q.0 q.1.0
      (λ x. rw a (sym (add-zero _))) (λ x. rw a (sym (add-zero _))) (wanted s e)))

  steal_count_stage : (o : Order) (i : ℕ) (t : Tree) (h : ℕ) → Stage (Taking.StealCount o i t h)
  unfolding take steal_count low_of owed reserves taking_in found_in place_in
  steal_count_stage o i t h e =
      let s : Taking = Taking.StealCount o i t h in
      let q = (proper s e).0 in
      let y : t.0 < trees_of g = q.1.1.0 in
      let k : ℕ = tally_at z.trees t.0 in
      let m : h + k ≤ capacity g t.0 = omega (arith, room n z cs held lost u t.0 j j y l l, owes s e t.0 h (at_same t.0 h)) in
      let in-hand : Passes (found_in g j (Found.Steal i t) ++ hand_in g t (h + k)) = (q.0, (q.1.0, (q.1.1.0, (omega arith, tt)))) in
      read_tree n z cs held lost u (Kept s e) t _ y (pick_elim (λ (m : Made Tally). Kept s e (to_tree g t m)) (leb (h + k) (capacity g t.0))
      (λ c. pick_elim (λ a. Kept s e (to_tree g t (store (tally (flag_at z.trees t.0) 0) a))) (leb (size o) (h + k))
      (λ d. store_tree s e t _ 0 (Taking.Write o (Found.Steal i t) (h + k)) (in-hand, leb-true _ _ d, (λ k x. x), refl, λ x. refl) y (flag_small _) (omega arith)
      (λ x. omega (arith, at_add t.0 h k x, at_none t.0 x)) (λ x. refl) (wanted s e))
      (λ d. store_tree s e t _ 0 (Taking.Unreserve o (Place.Found (Found.Steal i t)) (h + k)) (in-hand, tt, (λ k x. x), refl, λ x. refl) y (flag_small _) (omega arith)
      (λ x. omega (arith, at_add t.0 h k x, at_none t.0 x)) (λ x. refl) (wanted s e)))
      (λ c. absurd (let i : capacity g t.0 < h + k = leb-false _ _ c in omega arith)))

  fail_stage : (o : Order) (p : Place) → Stage (Taking.Fail o p)
  unfolding take low_of owed reserves taking_in
  fail_stage o p e =
      let s : Taking = Taking.Fail o p in
      let q = (proper s e).0 in
      let t : Tree = place_tree p in
      let y : t.0 < trees_of g = place_tree_lem g (omega arith) u.some j l p q in
      let k : ℕ = tally_at z.trees t.0 in
      read_tree n z cs held lost u (Kept s e) t _ y
      (store_tree s e t _ (k + size o) (Taking.Release o p) (q, tt, (λ k x. x), refl, λ x. refl) y (flag_small _) (omega (arith, room n z cs held lost u t.0 j j y l l, owes s e t.0 (size o) (at_same t.0 (size o))))
      (λ x. add-zero _ ∙ at_add t.0 k (size o) x) (λ x. refl) (wanted s e))

  -- ---- rule 5: the search

  -- the next child, or the end of the search
  next_child_lem : (s : Taking) (e : (cs j).latest ≡ Record.Get j s) (Q : Answer → Type 0) (o : Order) (p : Place) (b c : ℕ) → Passes (place_in g j p) → b < children_of g (place_tree p).0 → c < children_of g (place_tree p).0
      → (Passes (taking_in g j (Taking.Fail o p)) → Q (get g j (Taking.Fail o p))) → ((d : ℕ) → Passes (taking_in g j (Taking.Child o p b d)) → Q (get g j (Taking.Child o p b d))) → Q (next_child g j o p b c)
  unfolding next_child taking_in
  next_child_lem s e Q o p b c h v w x y =
      let d : ℕ = pick (eqb (suc c) (children_of g (place_tree p).0)) 0 (suc c) in
      pick_elim Q (eqb d b) (λ q. x h) (λ q. y d (passes_both (place_in g j p) _ h (v, ((come_next g (omega arith) u.some j l (place_tree p).0 b c d v w refl (eqb-false d b q)).0, tt))))

  -- a child passed over
  passes_child : (o : Order) (p : Place) (b c : ℕ) (e : (cs j).latest ≡ Record.Get j (Taking.Child o p b c)) → Kept (Taking.Child o p b c) e (says nothing (next_child g j o p b c))
  unfolding taking_in low_of owed reserves
  passes_child o p b c e =
      let s : Taking = Taking.Child o p b c in
      let h : Passes (place_in g j p) = passes_left (place_in g j p) _ (proper s e).0 in
      let q = passes_right (place_in g j p) _ (proper s e).0 in
      next_child_lem s e (λ a. Kept s e (says nothing a)) o p b c h q.0 q.1.0
      (λ x. looked n z cs held lost u j l _ e _ (fine_goes s e nothing (Taking.Fail o p) x tt (λ k y. y) refl) (λ x. refl) (λ x. refl) (λ x. refl) (wanted s e))
      (λ d x. looked n z cs held lost u j l _ e _ (fine_goes s e nothing (Taking.Child o p b d) x tt (λ k y. y) refl) (λ x. refl) (λ x. refl) (λ x. refl) (wanted s e))

  -- the taking store: from then on the get owns its block
  fine_takes : (s : Taking) (e : (cs j).latest ≡ Record.Get j s) (st : Store) (b : Block) → Passes (block_in g b) → ((o : Order) → OfOrder s o → order_of_block b ≡ o) → Good s e (record { store = st; answer = get g j (Taking.Last b); mark = takes b })
  unfolding taken lost_by taking_in
  fine_takes s e st b p f = record {
    proper = (refl, p, tt);
    lostly = rw (agreed s e).1 refl;
    agrees = ((agreed s e).0, (agreed s e).1, f (agreed s e).0 (agreed s e).2, refl);
    small = rw (agreed s e).1 (omega arith);
    inside = rw (agreed s e).1 tt;
    names = rw (agreed s e).1 tt;
  }

  -- nothing is handed out while the get goes on
  handed_none : (s : Taking) (e : (cs j).latest ≡ Record.Get j s) (s' : Taking) → handed (cs j).begun (get g j s') ≡ []
  handed_none s e s' = ap (λ b. handed b (get g j s')) (agreed s e).1

  -- a child's entry: a count, or the flag
  child_is : (i : ℕ) → i < n → Says (get_or z.children i 0)
  child_is i h = says-entry (get_or z.children i 0) (u.lower.formed i h)

  run_stage : (v : Run) (p : Place) (b c : ℕ) → Stage (Taking.Child (Order.Run v) p b c)
  unfolding take search_child low_of owed reserves taking_in
  run_stage v p b c e =
      let s : Taking = Taking.Child (Order.Run v) p b c in
      let h : Passes (place_in g j p) = passes_left (place_in g j p) _ (proper s e).0 in
      let q = passes_right (place_in g j p) _ (proper s e).0 in
      let t : Tree = place_tree p in
      let i : ℕ = t.0 * per_tree g + c in
      let x : ℕ = get_or z.children i 0 in
      let Q : Lowered (Result Took Fault) → Type 0 = λ y. Kept s e (to_child g t c (on_took y (get g j (Taking.Word v p b c 0)) plain (next_child g j (Order.Run v) p b c))) in
      let pass : Q (told (Ok Took.Passed)) = rw (passed_plan g t c (get g j (Taking.Word v p b c 0)) plain (next_child g j (Order.Run v) p b c)) (passes_child (Order.Run v) p b c e) in
      read_child n z cs held lost u (Kept s e) t c _ q.1.0 (elim (child_is i (child_in_lem g (omega arith) t.0 c q.1.0)) [
        | counts k a ↦ subst Q (sym (claim_counts (run_size v) x k a)) (pick_elim Q (leb (run_size v) k)
            (λ d. let m : run_size v ≤ k = leb-true _ _ d in
            let f : k ≤ child_frames = count_fits x k a in
            rw (taken_plan g t c (count_word (k - run_size v)) (get g j (Taking.Word v p b c 0)) plain (next_child g j (Order.Run v) p b c))
            (count_kept n z cs held lost u j l _ e t.0 c k (k - run_size v) _ (fine_goes s e _ (Taking.Word v p b c 0) (passes_both (place_in g j p) _ h (q.0, (q.1.0, (omega arith, tt)))) tt (λ k y. y) refl) q.1.0 a (omega arith)
            (λ y. omega (arith, split_at i k (k - run_size v) (run_size v) y (omega arith))) (λ y. refl) (λ y. refl) (wanted s e)))
            (λ d. pass))
        | flagged a ↦ subst Q (sym (claim_flagged (run_size v) x a)) pass
      ])

  nine_stage : (p : Place) (b c : ℕ) → Stage (Taking.Child Order.Nine p b c)
  unfolding take search_child low_of owed reserves taking_in
  nine_stage p b c e =
      let s : Taking = Taking.Child Order.Nine p b c in
      let q = passes_right (place_in g j p) _ (proper s e).0 in
      let t : Tree = place_tree p in
      let i : ℕ = t.0 * per_tree g + c in
      let x : ℕ = get_or z.children i 0 in
      let w : Block = Block.Whole (huge i) in
      let inside : i < n = child_in_lem g (omega arith) t.0 c q.1.0 in
      let Q : Lowered (Result Took Fault) → Type 0 = λ y. Kept s e (to_child g t c (on_took y (get g j (Taking.Last w)) (takes w) (next_child g j Order.Nine p b c))) in
      let pass : Q (told (Ok Took.Passed)) = rw (passed_plan g t c (get g j (Taking.Last w)) (takes w) (next_child g j Order.Nine p b c)) (passes_child Order.Nine p b c e) in
      read_child n z cs held lost u (Kept s e) t c _ q.1.0 (elim (child_is i inside) [
        | counts k a ↦ subst Q (sym (huge_counts x k a)) (pick_elim Q (eqb k child_frames)
            (λ d. rw (taken_plan g t c flagged_word (get g j (Taking.Last w)) (takes w) (next_child g j Order.Nine p b c))
            (flag_kept n z cs held lost u j l _ e t.0 c _ (fine_takes s e _ w (inside, tt) (λ k y. y)) (handed_none s e _) refl refl q.1.0 (a ∙ ap (λ k. Some (ChildEntry.Counts k)) (eqb-true _ _ d)) (λ y. refl) (λ y. zero-add _) (λ y. refl) tt))
            (λ d. pass))
        | flagged a ↦ subst Q (sym (huge_flagged x a)) pass
      ])

  word_stage : (v : Run) (p : Place) (b c w : ℕ) → Stage (Taking.Word v p b c w)
  unfolding take search_word low_of owed reserves taking_in
  word_stage v p b c w e =
      let s : Taking = Taking.Word v p b c w in
      let h : Passes (place_in g j p) = passes_left (place_in g j p) _ (proper s e).0 in
      let q = passes_right (place_in g j p) _ (proper s e).0 in
      let t : Tree = place_tree p in
      let k : ℕ = child_words * (t.0 * per_tree g) + (child_words * c + w) in
      let at-word : k ≡ child_words * (t.0 * per_tree g + c) + w = omega arith in
      let x : ℕ = get_or z.words (child_words * (t.0 * per_tree g + c) + w) 0 in
      let r : ℕ = run_size v in
      let i : ℕ = lowest r (word_bits / r) x in
      let a : ℕ → Answer = λ y. get g j (Taking.Last (Block.Run v (frame_at g t c w y))) in
      let m : ℕ → Mark = λ y. takes (Block.Run v (frame_at g t c w y)) in
      let on : Answer = pick (ltb (suc w) child_words) (get g j (Taking.Word v p b c (suc w))) (get g j (Taking.GiveBack v p b c)) in
      let Q : Lowered (Option ℕ) → Type 0 = λ y. Kept s e (to_word g t (child_words * c + w) (on_bit y a m on)) in
      let found : i < word_bits / r → Q (changed (Some (r * i)) (x + ones r (r * i))) = λ y.
      let fits = run_at v i y in
      let inside : t.0 * per_tree g + c < n = child_in_lem g (omega arith) t.0 c q.1.0 in
      rw (bit_plan g t (child_words * c + w) (r * i) (x + ones r (r * i)) a m on, at-word)
      (bits_kept n z cs held lost u j l _ e v t.0 c w (r * i) _ (fine_takes s e _ _ (let f = run_frame v n _ w (r * i) inside q.1.1.0 fits in (f.0, (f.1, tt))) (λ k y. y)) (handed_none s e _) refl refl q.1.0 q.1.1.0 fits.1
      (lowest_free r (word_bits / r) x y) (λ y. zero-add _) (λ y. zero-add _) (λ y. refl) tt) in
      read_word n z cs held lost u (Kept s e) t _ _ (omega (arith, q.1.0, q.1.1.0)) (subst (λ y. Q (take_run r (get_or z.words y 0))) (sym at-word) (elim (dec_lt i (word_bits / r)) [
        | yes y ↦ subst Q (sym (take_run_lem r x y)) (found y)
        | no y ↦ subst Q (sym (take_none r x (not_below y))) (rw (full_plan g t (child_words * c + w) a m on) (pick_elim (λ a. Kept s e (says nothing a)) (ltb (suc w) child_words)
            (λ d. looked n z cs held lost u j l _ e _ (fine_goes s e nothing (Taking.Word v p b c (suc w)) (passes_both (place_in g j p) _ h (q.0, (q.1.0, (ltb-true _ _ d, tt)))) tt (λ k y. y) refl) (λ x. refl) (λ x. refl) (λ x. refl) (wanted s e))
            (λ d. looked n z cs held lost u j l _ e _ (fine_goes s e nothing (Taking.GiveBack v p b c) (passes_both (place_in g j p) _ h (q.0, (q.1.0, tt))) tt (λ k y. y) refl) (λ x. refl) (λ x. refl) (λ x. refl) (wanted s e))))
      ]))

  give_back_stage : (v : Run) (p : Place) (b c : ℕ) → Stage (Taking.GiveBack v p b c)
  unfolding take low_of owed reserves taking_in
  give_back_stage v p b c e =
      let s : Taking = Taking.GiveBack v p b c in
      let h : Passes (place_in g j p) = passes_left (place_in g j p) _ (proper s e).0 in
      let q = passes_right (place_in g j p) _ (proper s e).0 in
      let t : Tree = place_tree p in
      let i : ℕ = t.0 * per_tree g + c in
      let x : ℕ = get_or z.children i 0 in
      let y = under_way n z cs held lost u i j (run_size v) (child_in_lem g (omega arith) t.0 c q.1.0) l (run_some v) (omega (arith, ap (λ r. low_of g r i) e, at_same i (run_size v))) in
      let k : ℕ = y.0 in
      let st : Store = Store.child i (count_word (k + run_size v)) in
      let more : (x : ℕ) → 0 + at i (k + run_size v) x ≡ at i (run_size v) x + at i k x = λ x. omega (arith, at_add i k (run_size v) x) in
      read_child n z cs held lost u (Kept s e) t c _ q.1.0 (rw (give_counts (run_size v) x k y.1 y.2, given_plan g t c (count_word (k + run_size v)) (next_child g j (Order.Run v) p b c) plain) (next_child_lem s e (λ a. Kept s e (says st a)) (Order.Run v) p b c h q.0 q.1.0
      (λ m. count_kept n z cs held lost u j l _ e t.0 c k (k + run_size v) _ (fine_goes s e st (Taking.Fail (Order.Run v) p) m tt (λ k y. y) refl) q.1.0 y.1 y.2 more (λ y. refl) (λ y. refl) (wanted s e))
      (λ d m. count_kept n z cs held lost u j l _ e t.0 c k (k + run_size v) _ (fine_goes s e st (Taking.Child (Order.Run v) p b d) m tt (λ k y. y) refl) q.1.0 y.1 y.2 more (λ y. refl) (λ y. refl) (wanted s e))))

  -- ---- rule 6

  -- the block that was got, by its first frame and its order
  same_block : (b : Block) (o : Order) → order_of_block b ≡ o → block_at o (frame (first_of b).0) ≡ b
  same_block (Block.Run v f) o h = rw (← h) refl
  same_block (Block.Whole i) o h = rw (← h) (ap (λ k. Block.Whole (huge k)) (div_whole i.0))
    where
      div_whole : (k : ℕ) → k * child_frames / child_frames ≡ k
      div_whole k = omega arith

  block_in_lem : (b : Block) → Passes (block_in g b) → BlockIn n b
  block_in_lem (Block.Run v f) p = (p.0, p.1.0)
  block_in_lem (Block.Whole h) p = p.0

  fine_done : (b : Block) (e : (cs j).latest ≡ Record.Get j (Taking.Last b)) (st : Store) → Good (Taking.Last b) e (says st (Answer.Done (first_of b)))
  unfolding taken lost_by taking_in
  fine_done b e st =
      let a = agreed (Taking.Last b) e in
      record {
        proper = tt;
        lostly = rw a.1 (a.3 ∙ ap (λ c. c ∷ []) (sym (same_block b a.0 a.2)));
        agrees = (refl, refl);
        small = omega arith;
        inside = rw (a.1, same_block b a.0 a.2) (block_in_lem b (proper (Taking.Last b) e).0, tt);
        names = rw (a.1, same_block b a.0 a.2) refl;
      }

  last_stage : (b : Block) → Stage (Taking.Last b)
  unfolding take low_of owed reserves taking_in share has by_cpu
  last_stage b e =
      let s : Taking = Taking.Last b in
      let t : Tree = tree_of_block g b in
      let p : Passes (block_in g b) = (proper s e).0 in
      let none : Kept s e (to_cpu g j (look (Answer.Done (first_of b)))) = rw (look_plan g j (Answer.Done (first_of b))) (looked n z cs held lost u j l _ e _ (fine_done b e nothing) (λ x. refl) (λ x. refl) (λ x. refl) tt) in
      read_cpu n z cs held lost u (Kept s e) j _ _ l (λ a. none) (λ v c k a q. pick_elim (λ (m : Made CpuEntry). Kept s e (to_cpu g j m)) (eqb v.0 t.0)
      (λ d.
      let y : v ≡ t = ap tree (eqb-true v.0 t.0 d) in
      let held_by : E ≡ Some (CpuEntry.Holds t c k) = a ∙ ap (λ i. Some (CpuEntry.Holds i c k)) y in
      let r : Passes (holds_checks g t c k) = subst (λ i. Passes (holds_checks g i c k)) y q in
      let ok : Passes (holds_checks g t (child_of_block g b) k) = (r.0, (number_in g (omega arith) (huge_of_block b).0 (block_huge g b p), (r.1.1.0, tt))) in
      rw (holds_plan g j t (child_of_block g b) k (Answer.Done (first_of b)) ok)
      (own_kept n z cs held lost u j l _ e (CpuEntry.Holds t (child_of_block g b) k) _ (fine_done b e _) (λ x. refl) (holds_again g t (child_of_block g b) k format1_sound u.small ok) (λ q. let y : ◌≡◌ {A = ℕ} 0 1 = cc in omega arith)
      (λ x. rw (held_share t c k x held_by) refl) (λ x. rw (held_has t c k x held_by) refl) tt))
      (λ d. none))

  no_room_stage : Stage Taking.NoRoom
  unfolding take low_of owed reserves taking_in carried taken lost_by
  no_room_stage e =
      let s : Taking = Taking.NoRoom in
      let a = agreed s e in
      looked n z cs held lost u j l _ e _ (record { proper = tt; lostly = rw a.1 a.3; agrees = (refl, refl); small = rw a.1 (omega arith); inside = rw a.1 tt; names = rw a.1 tt }) (λ x. refl) (λ x. refl) (λ x. refl) tt

  pub get_kept : (s : Taking) → Stage s
  get_kept (Taking.Own o) = own_stage o
  get_kept (Taking.TakeCount o t) = take_count_stage o t
  get_kept (Taking.FillEntry o t h) = fill_stage o t h
  get_kept (Taking.ReturnHand o t h) = return_stage o t h
  get_kept (Taking.LookAgain o t) = look_again_stage o t
  get_kept (Taking.Release o p) = release_stage o p
  get_kept (Taking.Unreserve o p h) = unreserve_stage o p h
  get_kept (Taking.Try o p) = try_stage o p
  get_kept (Taking.Write o f h) = write_stage o f h
  get_kept (Taking.Steal o i) = steal_stage o i
  get_kept (Taking.StealCount o i t h) = steal_count_stage o i t h
  get_kept (Taking.Child (Order.Run v) p b c) = run_stage v p b c
  get_kept (Taking.Child Order.Nine p b c) = nine_stage p b c
  get_kept (Taking.Word v p b c w) = word_stage v p b c w
  get_kept (Taking.GiveBack v p b c) = give_back_stage v p b c
  get_kept (Taking.Last b) = last_stage b
  get_kept (Taking.Fail o p) = fail_stage o p
  get_kept Taking.NoRoom = no_room_stage
