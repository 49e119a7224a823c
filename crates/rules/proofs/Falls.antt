-- Every step that goes on goes on in range, with fewer steps left, whatever the tables hold.
use mathlib.Core.Path.{◌≡◌, refl, sym, ◌∙◌}
use mathlib.Core.Bool.{Bool, true, false, ◌&&◌}
use mathlib.Core.Logic.{◌≢◌}
use Prim.Native.Nat.{ℕ, suc, pred, ◌+◌, ◌-◌, ◌*◌, ◌/◌, ◌%◌, ◌≤◌, ◌<◌}
use native.Mathlib.Nat.{mul-le-mul_left}
use native.Mathlib.Omega.{arith}
use lib.Dec.{eqb, leb, ltb}
use borrow.Author.Tests.{eqb-true, eqb-false, leb-true, ltb-true, ltb-false, lt-ltb, le-ltb}
use Rattle.laws.specs.Tests.{pick, Passes}
use Rattle.laws.proofs.Tests.{pick_elim, pick_yes, pick_no, and_both, passes_left, passes_right, passes_both}
use Rattle.rules.specs.Types.{Tree, Run, Order, Block, Pass, Found, Place, Taking, Giving, CpuEntry}
use Rattle.rules.specs.Numbers.{child_words, Shape, per_tree, trees_of, children_of, capacity}
use Rattle.rules.specs.Conversions.{tree, huge}
use Rattle.rules.specs.Blocks.{size, frame_at, tree_of_block}
use Rattle.rules.specs.Plan.{Made, Tally}
use Rattle.rules.specs.Ranges.{pass_in, found_in, place_in, taking_in, giving_in, step_range}
use Rattle.rules.specs.Places.{class_of, fits, skip, try, try_at, near_from, steal_from, pass_tree, found_tree, place_tree, after_pass, after_steal, after_place}
use Rattle.rules.specs.Take.{get, if_own_holds, claim_own, release, write, steal_count, next_child, search_child, search_word, take}
use Rattle.rules.specs.Give.{put, clear, give}
use Rattle.rules.specs.Step.{search_steps}
use Rattle.rules.specs.Bounds.{pass_rank, steal_rank, own_rank, place_rank, to_come, taking_left, giving_left, left, Falls, at}
use Rattle.rules.proofs.Guards.{Answers, took_answer, bit_answer, gave_answer}
use Rattle.rules.proofs.Sizes.{taken_run, run_frame}
use Rattle.rules.proofs.Shapes.{kids_some, kids_most, child_in_lem, some_tree}

-- one more, if it is the one to leave out
pub skip_is : (x i : ℕ) → (skip x i ≢ x) × (i ≤ skip x i) × (skip x i ≤ suc i)
skip_is x i = pick_elim (λ y. (y ≢ x) × (i ≤ y) × (y ≤ suc i)) (eqb i x) (λ b. let e = eqb-true i x b in omega arith) (λ b. let e = eqb-false i x b in (e, omega arith, omega arith))

-- a place further on has fewer steps left, whatever they are there
later : (s r r' x y : ℕ) → r' < r → x < s → s * r' + x < s * r + y
later s r r' x y h k = let m : s * suc r' ≤ s * r = mul-le-mul_left s h in omega arith

near_later : (x i j : ℕ) → i < j → j / 32 ≡ i / 32 → x + (32 - j % 32) < x + (32 - i % 32)
near_later x i j h e = omega arith

module _ (g : Shape) (k+ : 0 < per_tree g) (n+ : 0 < g.huge) (cpu : ℕ) (l : cpu < g.cpus) where
  -- a place's steps are fewer than its share of the bound
  steps_fit : 10 * per_tree g + 9 < search_steps g
  unfolding search_steps
  steps_fit = omega arith

  -- the stage s is in range, and leaves fewer than m steps
  abbrev Reached : ℕ → Taking → Type 0
  Reached m s = Passes (taking_in g cpu s) × (taking_left g s < m)

  -- the first step at a place of rank r'
  module _ (o : Order) where
    reach_try : (p : Pass) (r x : ℕ) → Passes (pass_in g p) → pass_rank g p < r → Reached (search_steps g * r + x) (try g cpu o p)
    unfolding taking_in taking_left
    reach_try p r x h k = (h, later (search_steps g) r (pass_rank g p) _ x k (omega (arith, steps_fit)))

    reach_near : (i : ℕ) (b : Tree) (r x : ℕ) → b.0 < trees_of g → i ≢ b.0 → pred g.cpus + 3 * trees_of g < r
        → (i / 32 ≡ b.0 / 32 → pred g.cpus + 3 * trees_of g + (32 - i % 32) < r) → Reached (search_steps g * r + x) (near_from g cpu o i b)
    unfolding pass_in pass_rank
    reach_near i b r x h a k s = pick_elim (Reached (search_steps g * r + x)) (ltb i (trees_of g) && eqb (i / 32) (b.0 / 32))
        (λ t. let e = and_both (ltb i (trees_of g)) (eqb (i / 32) (b.0 / 32)) t in
        let y : i / 32 ≡ b.0 / 32 = eqb-true _ _ e.1 in
        reach_try (Pass.Near (tree i) b) r x (ltb-true _ _ e.0, (h, (a, (y, tt)))) (s y))
        (λ t. reach_try (Pass.Partial (tree 0)) r x (some_tree g k+ n+, tt) (omega arith))

    reach_steal : (j r x : ℕ) → j ≢ cpu → (j < g.cpus → g.cpus - suc j < r) → 1 < search_steps g * r + x → Reached (search_steps g * r + x) (steal_from g cpu o j)
    unfolding taking_in taking_left steal_rank
    reach_steal j r x a s m = pick_elim (Reached (search_steps g * r + x)) (ltb j g.cpus)
        (λ b. let y : j < g.cpus = ltb-true _ _ b in ((y, (a, tt)), later (search_steps g) r (g.cpus - suc j) _ x (s y) (omega (arith, steps_fit))))
        (λ b. (tt, m))

    reach_all : (p : Tree → Pass) (i r x : ℕ) (s : Taking) → (i < trees_of g → Reached (search_steps g * r + x) (try g cpu o (p (tree i)))) → Reached (search_steps g * r + x) s → Reached (search_steps g * r + x) (try_at g cpu o p i s)
    reach_all p i r x s h k = pick_elim (Reached (search_steps g * r + x)) (ltb i (trees_of g)) (λ b. h (ltb-true _ _ b)) (λ b. k)

    pub after_pass_lem : (p : Pass) (x : ℕ) → 2 ≤ x → Passes (pass_in g p) → Reached (search_steps g * pass_rank g p + x) (after_pass g cpu o p)
    unfolding after_pass pass_in pass_rank
    after_pass_lem (Pass.Near t b) x m h =
        let k = skip_is b.0 (suc t.0) in
        reach_near _ b _ x h.1.0 k.0 (omega arith) (λ e. near_later (pred g.cpus + 3 * trees_of g) t.0 _ (omega (arith, k.1)) (e ∙ sym h.1.1.1.0))
    after_pass_lem (Pass.Partial t) x m h = reach_all Pass.Partial _ _ x _ (λ b. reach_try (Pass.Partial _) _ x (b, tt) (omega arith))
        (reach_try (Pass.Free (tree 0)) _ x (some_tree g k+ n+, tt) (omega (arith, h.0)))
    after_pass_lem (Pass.Free t) x m h = reach_all Pass.Free _ _ x _ (λ b. reach_try (Pass.Free _) _ x (b, tt) (omega arith))
        (reach_try (Pass.Any (tree 0)) _ x (some_tree g k+ n+, tt) (omega (arith, h.0)))
    after_pass_lem (Pass.Any t) x m h = reach_all Pass.Any _ _ x _ (λ b. reach_try (Pass.Any _) _ x (b, tt) (omega arith))
        (let k = skip_is cpu 0 in reach_steal _ _ x k.0 (λ e. omega (arith, h.0, k)) (omega arith))

    pub after_steal_lem : (j x : ℕ) → 2 ≤ x → Reached (search_steps g * steal_rank g j + x) (after_steal g cpu o j)
    unfolding after_steal steal_rank
    after_steal_lem j x m = reach_steal _ _ x (skip_is cpu _).0 (λ e. omega (arith, skip_is cpu (suc j))) (omega arith)

    pub after_place_lem : (p : Place) (x : ℕ) → 2 ≤ x → Passes (place_in g cpu p) → Reached (search_steps g * place_rank g p + x) (after_place g cpu o p)
    unfolding after_place place_in found_in place_rank own_rank
    after_place_lem (Place.Own t) x m h = reach_near _ t _ x h.0 (skip_is _ _).0 (omega arith) (λ e. omega arith)
    after_place_lem (Place.Found (Found.Pass p)) x m h = after_pass_lem p x m h
    after_place_lem (Place.Found (Found.Steal j t)) x m h = after_steal_lem j x m

    own_pass : Reached (at g (own_rank g) 5) (Taking.Try o (Pass.Partial (tree 0)))
    unfolding pass_in pass_rank own_rank
    own_pass = reach_try (Pass.Partial (tree 0)) _ _ (some_tree g k+ n+, tt) (omega arith)

  -- ---- the children to come

  pub to_come_lem : (t s c : ℕ) → s < children_of g t → c < children_of g t → (0 < to_come g t s c) × (to_come g t s c ≤ children_of g t)
  unfolding to_come
  to_come_lem t s c u v = pick_elim (λ x. (0 < x) × (x ≤ children_of g t)) (ltb c s) (λ b. let e = ltb-true c s b in omega arith) (λ b. let e = ltb-false c s b in omega arith)

  pub come_low : (t s c : ℕ) → c < s → to_come g t s c ≡ s - c
  unfolding to_come
  come_low t s c h = pick_yes (ltb c s) _ _ (lt-ltb c s h)

  pub come_high : (t s c : ℕ) → s ≤ c → to_come g t s c ≡ children_of g t - c + s
  unfolding to_come
  come_high t s c h = pick_no (ltb c s) _ _ (le-ltb c s h)

  pub come_next : (t s c d : ℕ) → s < children_of g t → c < children_of g t → pick (eqb (suc c) (children_of g t)) 0 (suc c) ≡ d → d ≢ s → (d < children_of g t) × (to_come g t s d < to_come g t s c)
  come_next t s c d u v e w = pick_elim (λ x. x ≡ d → (d < children_of g t) × (to_come g t s d < to_come g t s c)) (eqb (suc c) (children_of g t))
      (λ b e. let x = eqb-true (suc c) (children_of g t) b in
      let y : d ≡ 0 = sym e in
      rw y (omega (arith, come_low t s 0 (omega arith), come_high t s c (omega arith))))
      (λ b e. let x = eqb-false (suc c) (children_of g t) b in
      rw (← e) (go (ltb c s) refl (omega arith) (λ q. w (sym e ∙ q))))
      e
    where
      go : (b : Bool) → ltb c s ≡ b → suc c < children_of g t → suc c ≢ s → (suc c < children_of g t) × (to_come g t s (suc c) < to_come g t s c)
      go true b x q = let y = ltb-true c s b in (x, omega (arith, come_low t s c y, come_low t s (suc c) (omega arith)))
      go false b x q = let y = ltb-false c s b in (x, omega (arith, come_high t s c y, come_high t s (suc c) (omega arith)))

  -- ---- stages

  goes : (s : Taking) (m : ℕ) → Reached m s → Falls g m (get g cpu s)
  unfolding step_range left
  goes s m h = ((l, h.0), h.1)

  -- a stage of the own place, at i steps before its search
  own : (s : Taking) (i m : ℕ) → taking_left g s ≡ at g (own_rank g) i → i < m → Passes (taking_in g cpu s) → Falls g (at g (own_rank g) m) (get g cpu s)
  own s i m e h k = goes s _ (k, omega arith)

  -- the next child, or the end of the search
  next_falls : (o : Order) (p : Place) (s c m : ℕ) → Passes (place_in g cpu p) → s < children_of g (place_tree p).0 → c < children_of g (place_tree p).0
      → 10 * to_come g (place_tree p).0 s c ≤ m + 5 → 4 < m → Falls g (search_steps g * place_rank g p + m) (next_child g cpu o p s c)
  unfolding next_child taking_in taking_left
  next_falls o p s c m h v w x y =
      let t : ℕ = (place_tree p).0 in
      let d : ℕ = pick (eqb (suc c) (children_of g t)) 0 (suc c) in
      pick_elim (Falls g (search_steps g * place_rank g p + m)) (eqb d s)
      (λ b. goes (Taking.Fail o p) _ (h, omega arith))
      (λ b. let k = come_next t s c d v w refl (eqb-false d s b) in goes (Taking.Child o p s d) _ (passes_both (place_in g cpu p) _ h (v, (k.0, tt)), omega (arith, k.1)))

  -- a search begins, at start child s
  claimed : (o : Order) (p : Place) (s m : ℕ) → Passes (place_in g cpu p) → s < children_of g (place_tree p).0 → 0 < m → Falls g (at g (place_rank g p) m) (get g cpu (Taking.Child o p s s))
  unfolding taking_in taking_left
  claimed o p s m h v x = goes (Taking.Child o p s s) _ (passes_both (place_in g cpu p) _ h (v, (v, tt)), omega (arith, to_come_lem (place_tree p).0 s s v v, kids_most g k+ (place_tree p).0))

  pub pass_tree_lem : (p : Pass) → Passes (pass_in g p) → (pass_tree p).0 < trees_of g
  unfolding pass_in
  pass_tree_lem (Pass.Near t b) h = h.0
  pass_tree_lem (Pass.Partial t) h = h.0
  pass_tree_lem (Pass.Free t) h = h.0
  pass_tree_lem (Pass.Any t) h = h.0

  pub found_tree_lem : (f : Found) → Passes (found_in g cpu f) → (found_tree f).0 < trees_of g
  unfolding found_in
  found_tree_lem (Found.Pass p) h = pass_tree_lem p h
  found_tree_lem (Found.Steal j t) h = h.1.1.0

  pub place_tree_lem : (p : Place) → Passes (place_in g cpu p) → (place_tree p).0 < trees_of g
  unfolding place_in
  place_tree_lem (Place.Own t) h = h.0
  place_tree_lem (Place.Found f) h = found_tree_lem f h

  child_falls : (o : Order) (p : Place) (s c x : ℕ) → Passes (place_in g cpu p) → s < children_of g (place_tree p).0 → c < children_of g (place_tree p).0
      → Falls g (taking_left g (Taking.Child o p s c)) (search_child g cpu o p s c x).answer
  unfolding search_child taking_in taking_left
  child_falls (Order.Run v) p s c x h u w =
      let m = to_come_lem (place_tree p).0 s c u w in
      took_answer (Falls g _) tt _ _ _ _ (goes (Taking.Word v p s c 0) _ (passes_both (place_in g cpu p) _ h (u, (w, (omega arith, tt))), omega arith)) (next_falls (Order.Run v) p s c _ h u w (omega arith) (omega arith))
  child_falls Order.Nine p s c x h v w =
      let m = to_come_lem (place_tree p).0 s c v w in
      took_answer (Falls g _) tt _ _ _ _ (goes (Taking.Last (Block.Whole (huge ((place_tree p).0 * per_tree g + c)))) _ ((child_in_lem g k+ (place_tree p).0 c w, tt), omega arith)) (next_falls Order.Nine p s c _ h v w (omega arith) (omega arith))

  word_falls : (v : Run) (p : Place) (s c w x : ℕ) → Passes (place_in g cpu p) → s < children_of g (place_tree p).0 → c < children_of g (place_tree p).0 → w < child_words
      → Falls g (taking_left g (Taking.Word v p s c w)) (search_word g cpu v p s c w x).answer
  unfolding search_word taking_in taking_left
  word_falls v p s c w x h u y k =
      let m = to_come_lem (place_tree p).0 s c u y in
      let d = child_in_lem g k+ (place_tree p).0 c y in
      bit_answer (Falls g _) tt _ _ _ _
      (λ b e. goes (Taking.Last (Block.Run v (frame_at g (place_tree p) c w b))) _ (let f = run_frame v g.huge _ w b d k (taken_run v x b e) in (f.0, (f.1, tt)), omega arith))
      (pick_elim (Falls g _) (ltb (suc w) child_words)
      (λ b. goes (Taking.Word v p s c (suc w)) _ (passes_both (place_in g cpu p) _ h (u, (y, (ltb-true _ _ b, tt))), omega arith))
      (λ b. goes (Taking.GiveBack v p s c) _ (passes_both (place_in g cpu p) _ h (u, (y, tt)), omega arith)))

  -- by the own entry, if it holds tree t
  own_holds : (m : ℕ) (t : Tree) (f : ℕ → ℕ → Made CpuEntry) (a : Made CpuEntry) → Falls g m a.answer
      → ((s k : ℕ) → s < children_of g t.0 → k ≤ capacity g t.0 → Falls g m (f s k).answer) → Answers g (Falls g m) (if_own_holds g cpu t f a)
  own_holds m t f a x y = (
    x,
    λ u s k e. pick_elim (λ (v : Made CpuEntry). Falls g m v.answer) (eqb u.0 t.0)
        (λ b. let q : u.0 ≡ t.0 = eqb-true _ _ b in y s k (rw q at e.1.0) (let i : k < suc (capacity g t.0) = rw q at e.1.1.0 in omega arith))
        (λ b. x),
  )

  pub take_falls : (s : Taking) → Passes (taking_in g cpu s) → Answers g (Falls g (taking_left g s)) (take g cpu s)
  unfolding take taking_in taking_left claim_own release write steal_count place_in found_in place_rank
  take_falls (Taking.Own o) h = (
    goes (Taking.Try o (Pass.Partial (tree 0))) _ (own_pass o),
    λ t s k e. pick_elim (λ (x : Made CpuEntry). Falls g (at g (own_rank g) 5) x.answer) (leb (size o) k)
        (λ b. claimed o (Place.Own t) s 5 (e.0, tt) e.1.0 (omega arith))
        (λ b. goes (Taking.TakeCount o t) _ ((e.0, tt), omega arith)),
  )
  take_falls (Taking.TakeCount o t) h = λ r k e. goes (Taking.FillEntry o t k) _ ((h.0, (omega arith, tt)), omega arith)
  take_falls (Taking.FillEntry o t x) h = own_holds _ t _ _ (goes (Taking.ReturnHand o t x) _ (h, omega arith)) (λ s k u v. goes (Taking.LookAgain o t) _ ((h.0, tt), omega arith))
  take_falls (Taking.ReturnHand o t x) h = λ r k e. goes (Taking.LookAgain o t) _ ((h.0, tt), omega arith)
  take_falls (Taking.LookAgain o t) h = own_holds _ t _ _ (goes _ _ (after_place_lem o (Place.Own t) _ (omega arith) h)) (λ s k u v. pick_elim (λ (x : Made CpuEntry). Falls g (at g (own_rank g) 1) x.answer) (leb (size o) k)
      (λ b. claimed o (Place.Own t) s 1 h u (omega arith))
      (λ b. goes (Taking.Unreserve o (Place.Own t) k) _ ((h.0, (omega arith, tt)), omega arith)))
  take_falls (Taking.Release o p) h = own_holds _ (place_tree p) _ _ (goes _ _ (after_place_lem o p 3 (omega arith) h)) (λ s k u v. goes (Taking.Unreserve o p k) _ (passes_both (place_in g cpu p) _ h (omega arith, tt), omega arith))
  take_falls (Taking.Unreserve o p x) h = λ r k e. goes _ _ (after_place_lem o p 2 (omega arith) (passes_left (place_in g cpu p) _ h))
  take_falls (Taking.Try o p) h = λ r k e. pick_elim (λ (x : Made Tally). Falls g (at g (pass_rank g p) 2) x.answer) (eqb r 0 && (fits p (class_of k) && leb (size o) k))
      (λ b. goes (Taking.Write o (Found.Pass p) k) _ (passes_both (pass_in g p) _ h (omega arith, tt), omega arith))
      (λ b. goes _ _ (after_pass_lem o p _ (omega arith) h))
  take_falls (Taking.Write o f x) h =
      let a : Passes (found_in g cpu f) = passes_left (found_in g cpu f) _ h in
      let w : Falls g (at g (place_rank g (Place.Found f)) 1) (write g cpu o f x).answer = pick_elim (λ (y : Made CpuEntry). Falls g (at g (place_rank g (Place.Found f)) 1) y.answer) (leb (size o) x)
      (λ b. claimed o (Place.Found f) 0 1 a (kids_some g k+ (found_tree f).0 (found_tree_lem f a)) (omega arith)) (λ b. tt) in
      (w, λ t s k e. w)
  take_falls (Taking.Steal o j) h = (goes _ _ (after_steal_lem o j _ (omega arith)), λ t s k e. goes (Taking.StealCount o j t k) _ ((h.0, (h.1.0, (e.0, (omega (arith, e), tt)))), omega arith))
  take_falls (Taking.StealCount o j t x) h = λ r k e. pick_elim (λ (y : Made Tally). Falls g (at g (steal_rank g j) 2) y.answer) (leb (x + k) (capacity g t.0))
      (λ b. let i : x + k ≤ capacity g t.0 = leb-true _ _ b in pick_elim (Falls g (at g (steal_rank g j) 2)) (leb (size o) (x + k))
      (λ c. goes (Taking.Write o (Found.Steal j t) (x + k)) _ ((h.0, (h.1.0, (h.1.1.0, (omega arith, tt)))), omega arith))
      (λ c. goes (Taking.Unreserve o (Place.Found (Found.Steal j t)) (x + k)) _ ((h.0, (h.1.0, (h.1.1.0, (omega arith, tt)))), omega arith)))
      (λ b. tt)
  take_falls (Taking.Child o p s c) h = let a = passes_right (place_in g cpu p) _ h in λ x. child_falls o p s c x (passes_left (place_in g cpu p) _ h) a.0 a.1.0
  take_falls (Taking.Word v p s c w) h = let a = passes_right (place_in g cpu p) _ h in λ x. word_falls v p s c w x (passes_left (place_in g cpu p) _ h) a.0 a.1.0 a.1.1.0
  take_falls (Taking.GiveBack v p s c) h =
      let a = passes_right (place_in g cpu p) _ h in
      let m = to_come_lem (place_tree p).0 s c a.0 a.1.0 in
      λ x. gave_answer (Falls g _) tt tt _ _ _ (next_falls (Order.Run v) p s c _ (passes_left (place_in g cpu p) _ h) a.0 a.1.0 (omega arith) (omega arith))
  take_falls (Taking.Last b) h = own_holds _ (tree_of_block g b) _ _ tt (λ s k u v. tt)
  take_falls (Taking.Fail o p) h = λ r k e. goes (Taking.Release o p) _ (h, omega arith)
  take_falls Taking.NoRoom h = tt

  puts : (s : Giving) (m : ℕ) → Passes (giving_in g s) → giving_left g s < m → Falls g m (put g cpu s)
  unfolding step_range left
  puts s m h k = ((l, h), k)

  pub give_falls : (s : Giving) → Passes (giving_in g s) → Answers g (Falls g (giving_left g s)) (give g cpu s)
  unfolding give clear giving_in giving_left
  give_falls (Giving.Clear (Block.Run v f)) h = λ x. gave_answer (Falls g 3) tt tt _ _ _ (puts (Giving.Raise v f) 3 h (omega arith))
  give_falls (Giving.Clear (Block.Whole b)) h = λ x. gave_answer (Falls g 3) tt tt _ _ _ (puts (Giving.ToEntry (Block.Whole b)) 3 h (omega arith))
  give_falls (Giving.Raise v f) h = λ x. gave_answer (Falls g 2) tt tt _ _ _ (puts (Giving.ToEntry (Block.Run v f)) 2 h (omega arith))
  give_falls (Giving.ToEntry b) h = own_holds 1 (tree_of_block g b) _ _ (puts (Giving.ToTree b) 1 h (omega arith)) (λ s k u v. tt)
  give_falls (Giving.ToTree b) h = λ r k e. tt
