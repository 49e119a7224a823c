-- A get that runs alone: what it has ruled out at each stage. A tree is bare if none of its children has a free block of the get's size.
use Rattle.std.specs.Prelude.{Option, Some, None}
use mathlib.Core.Path.{◌≡◌, refl, sym, ap, ◌∙◌, subst}
use mathlib.Core.Logic.{◌≢◌}
use mathlib.Core.List.{List}
use Prim.Native.Nat.{ℕ, suc, ◌+◌, ◌-◌, ◌*◌, ◌/◌, ◌≤◌, ◌<◌}
use native.Mathlib.Omega.{arith}
use native.Mathlib.Decide.{ℕ_discrete, dec_lt}
use lib.Dec.{eqb, ltb}
use lib.ListN.{length, get_or}
use borrow.Author.Tests.{eqb-true, ltb-false}
use Rattle.laws.specs.Tests.{pick}
use Rattle.laws.specs.Sum.{sum_to}
use Rattle.laws.specs.Words.{bits}
use Rattle.laws.proofs.Tests.{pick_elim}
use Rattle.laws.proofs.Sum.{here, elsewhere, placed, at_other, sum_part, sum_zero, sum_single}
use Rattle.rules.specs.Types.{Order, Block, CpuEntry, Pass, Found, Place, Taking}
use Rattle.rules.specs.Numbers.{child_words, word_bits, Shape, per_tree, trees_of, children_of}
use Rattle.rules.specs.Conversions.{tree}
use Rattle.rules.specs.Blocks.{size}
use Rattle.rules.specs.Zone.{Zone, shaped}
use Rattle.rules.specs.Plan.{by_cpu}
use Rattle.rules.specs.Places.{place_tree, skip, after_pass, after_steal, after_place}
use Rattle.rules.specs.Bounds.{to_come}
use Rattle.rules.specs.Events.{Cpu, resting}
use Rattle.rules.proofs.Falls.{to_come_lem, come_low, come_high}
use Rattle.rules.proofs.Own.{free_of}
use Rattle.rules.proofs.Shares.{share, has, owed, reserves}
use Rattle.rules.proofs.Upper.{entry_at, tally_at, flag_at}
use Rattle.rules.proofs.Invariant.{free_tree, Up}
use Rattle.rules.proofs.Room.{Short, short_count}

above : (s : ℕ) → 0 ≢ s → 0 < s
above s h = elim (ℕ_discrete 0 s) [
  | yes e ↦ absurd (h e)
  | no e ↦ omega arith
]

beyond : (a s : ℕ) → a ≤ s → a ≢ s → a < s
beyond a s l h = elim (ℕ_discrete a s) [
  | yes e ↦ absurd (h e)
  | no e ↦ omega arith
]

-- ---- what is known

module _ (g : Shape) (j : ℕ) (o : Order) (z : Zone) where
  abbrev pub ShortAt : ℕ → ℕ → Type 0
  ShortAt t c = Short (size o) z.children z.words (t * per_tree g + c)

  abbrev pub Bare : ℕ → Type 0
  Bare t = (c : ℕ) → c < children_of g t → ShortAt t c

  -- each of the first k trees is bare or reserved
  abbrev pub Trees : ℕ → Type 0
  Trees k = (t : ℕ) → t < k → t < trees_of g → flag_at z.trees t ≡ 0 → Bare t

  -- each of the first k CPUs but the own has no entry
  abbrev pub Gone : ℕ → Type 0
  Gone k = (i : ℕ) → i < k → i < g.cpus → i ≢ j → entry_at g z.cpus i ≡ Some CpuEntry.Absent

  -- the children from s on up to c, which the search has passed
  abbrev pub Passed : ℕ → ℕ → ℕ → Type 0
  Passed t s c = (d : ℕ) → d < children_of g t → to_come g t s c < to_come g t s d → ShortAt t d

  -- the first w words of child c, with no free run
  abbrev pub Full : ℕ → ℕ → ℕ → Type 0
  Full t c w = (v i : ℕ) → v < w → i < word_bits / size o → bits (size o) (size o * i) (get_or z.words (child_words * (t * per_tree g + c) + v) 0) ≢ 0

  -- at a place: nothing but at a tree of the any pass, and at a CPU
  abbrev pub Knows : Place → Type 0
  Knows (Place.Own t) = Unit {0}
  Knows (Place.Found (Found.Pass (Pass.Near t b))) = Unit {0}
  Knows (Place.Found (Found.Pass (Pass.Partial t))) = Unit {0}
  Knows (Place.Found (Found.Pass (Pass.Free t))) = Unit {0}
  Knows (Place.Found (Found.Pass (Pass.Any t))) = Trees t.0
  Knows (Place.Found (Found.Steal i t)) = Trees (trees_of g) × Gone (suc i)

  -- when the place is left: its tree is bare
  abbrev pub Spent : Place → Type 0
  Spent (Place.Own t) = Unit {0}
  Spent (Place.Found (Found.Pass (Pass.Near t b))) = Unit {0}
  Spent (Place.Found (Found.Pass (Pass.Partial t))) = Unit {0}
  Spent (Place.Found (Found.Pass (Pass.Free t))) = Unit {0}
  Spent (Place.Found (Found.Pass (Pass.Any t))) = Bare t.0
  Spent (Place.Found (Found.Steal i t)) = Bare t.0

  abbrev pub So : Taking → Type 0
  So (Taking.Own q) = Unit {0}
  So (Taking.TakeCount q t) = Unit {0}
  So (Taking.FillEntry q t h) = Unit {0}
  So (Taking.ReturnHand q t h) = Unit {0}
  So (Taking.LookAgain q t) = Unit {0}
  So (Taking.Release q p) = Knows p × Spent p
  So (Taking.Unreserve q p h) = Knows p × Spent p
  So (Taking.Try q p) = Knows (Place.Found (Found.Pass p))
  So (Taking.Write q f h) = Knows (Place.Found f)
  So (Taking.Steal q i) = Trees (trees_of g) × Gone i
  So (Taking.StealCount q i t h) = Trees (trees_of g) × Gone (suc i)
  So (Taking.Child q p s c) = Knows p × Passed (place_tree p).0 s c
  So (Taking.Word v p s c w) = Knows p × Passed (place_tree p).0 s c × Full (place_tree p).0 c w
  So (Taking.GiveBack v p s c) = Knows p × Passed (place_tree p).0 s c × ShortAt (place_tree p).0 c
  So (Taking.Last b) = Unit {0}
  So (Taking.Fail q p) = Knows p × Spent p
  So Taking.NoRoom = Trees (trees_of g) × Gone g.cpus

  -- ---- the next place

  pub steal_next : (i : ℕ) → Trees (trees_of g) → Gone i → So (pick (ltb (skip j i) g.cpus) (Taking.Steal o (skip j i)) Taking.NoRoom)
  steal_next i t h =
      let gone : Gone (skip j i) = λ k l m n. pick_elim (λ y. k < y → entry_at g z.cpus k ≡ Some CpuEntry.Absent) (eqb i j) (λ e x. h k (let q = eqb-true i j e in let r : k ≢ i = λ y. n (y ∙ q) in omega arith) m n) (λ e x. h k x m n) l in
      pick_elim So (ltb (skip j i) g.cpus) (λ e. (t, gone)) (λ e. let q = ltb-false (skip j i) g.cpus e in (t, λ k l m n. gone k (omega arith) m n))

  trees_next : (t : ℕ) → Trees t → Bare t → Trees (suc t)
  trees_next t h b u l m e = elim (ℕ_discrete u t) [
    | yes q ↦ subst Bare (sym q) b
    | no q ↦ h u (omega arith) m e
  ]

  -- a pass over all trees, from tree t on
  any_next : (t : ℕ) → Trees (suc t) → So (pick (ltb (suc t) (trees_of g)) (Taking.Try o (Pass.Any (tree (suc t)))) (pick (ltb (skip j 0) g.cpus) (Taking.Steal o (skip j 0)) Taking.NoRoom))
  any_next t h = pick_elim So (ltb (suc t) (trees_of g)) (λ e. h) (λ e. let q = ltb-false (suc t) (trees_of g) e in steal_next 0 (λ u l m f. h u (omega arith) m f) (λ i l m n. absurd (omega arith)))

  -- a tree of the any pass that is not reserved is bare when it is left
  abbrev pub Over : Pass → Type 0
  Over (Pass.Near t b) = Unit {0}
  Over (Pass.Partial t) = Unit {0}
  Over (Pass.Free t) = Unit {0}
  Over (Pass.Any t) = flag_at z.trees t.0 ≡ 0 → Bare t.0

  pub pass_next : (p : Pass) → Knows (Place.Found (Found.Pass p)) → Over p → So (after_pass g j o p)
  unfolding after_pass
  pass_next (Pass.Near t b) k s = pick_elim So _ (λ e. tt) (λ e. tt)
  pass_next (Pass.Partial t) k s = pick_elim So _ (λ e. tt) (λ e. tt)
  pass_next (Pass.Free t) k s = pick_elim So _ (λ e. tt) (λ e. λ u l m f. absurd (omega arith))
  pass_next (Pass.Any t) k s = any_next t.0 (λ u l m f. elim (ℕ_discrete u t.0) [
    | yes q ↦ subst Bare (sym q) (s (subst (λ y. flag_at z.trees y ≡ 0) q f))
    | no q ↦ k u (omega arith) m f
  ])

  pub place_next : (p : Place) → Knows p → Spent p → So (after_place g j o p)
  unfolding after_place after_steal
  place_next (Place.Own t) k s = pick_elim So _ (λ e. tt) (λ e. tt)
  place_next (Place.Found (Found.Pass (Pass.Near t b))) k s = pass_next (Pass.Near t b) k tt
  place_next (Place.Found (Found.Pass (Pass.Partial t))) k s = pass_next (Pass.Partial t) k tt
  place_next (Place.Found (Found.Pass (Pass.Free t))) k s = pass_next (Pass.Free t) k tt
  place_next (Place.Found (Found.Pass (Pass.Any t))) k s = pass_next (Pass.Any t) k (λ f. s)
  place_next (Place.Found (Found.Steal i t)) k s = steal_next (suc i) k.0 k.1

  -- what a place leaves behind, where its tree is bare
  pub spent : (p : Place) → Bare (place_tree p).0 → Spent p
  spent (Place.Own t) b = tt
  spent (Place.Found (Found.Pass (Pass.Near t c))) b = tt
  spent (Place.Found (Found.Pass (Pass.Partial t))) b = tt
  spent (Place.Found (Found.Pass (Pass.Free t))) b = tt
  spent (Place.Found (Found.Pass (Pass.Any t))) b = b
  spent (Place.Found (Found.Steal i t)) b = b

  -- ---- the search: child c is passed, and the next one is d
  module _ (t s c : ℕ) (k+ : 0 < per_tree g) (some : 0 < g.huge) (l : j < g.cpus) (u : s < children_of g t) (v : c < children_of g t) (h : Passed t s c) (b : ShortAt t c) where
    low : (d : ℕ) → d < s → to_come g t s d ≡ s - d
    low = come_low g k+ some j l t s

    high : (d : ℕ) → s ≤ d → to_come g t s d ≡ children_of g t - d + s
    high = come_high g k+ some j l t s

    -- a child is passed, or it is c, or it comes later
    one_more : (d : ℕ) → d < children_of g t → to_come g t s c ≤ to_come g t s d → ShortAt t d
    one_more d m q = elim (ℕ_discrete d c) [
      | yes e ↦ subst (ShortAt t) (sym e) b
      | no e ↦ h d m (elim (dec_lt d s) [
        | yes x ↦ elim (dec_lt c s) [
          | yes y ↦ omega (arith, low d x, low c y, q)
          | no y ↦ omega (arith, low d x, high c (omega arith), q)
        ]
        | no x ↦ elim (dec_lt c s) [
          | yes y ↦ omega (arith, high d (omega arith), low c y, q)
          | no y ↦ omega (arith, high d (omega arith), high c (omega arith), q)
        ]
      ])
    ]

    abbrev next : ℕ
    next = pick (eqb (suc c) (children_of g t)) 0 (suc c)

    last : next ≡ s → to_come g t s c ≤ 1
    last = pick_elim (λ y. y ≡ s → to_come g t s c ≤ 1) (eqb (suc c) (children_of g t))
        (λ q e. let w = eqb-true (suc c) (children_of g t) q in omega (arith, high c (omega arith)))
        (λ q e. omega (arith, low c (omega arith)))

    fewer : next ≢ s → to_come g t s c ≤ suc (to_come g t s next)
    fewer = pick_elim (λ y. y ≢ s → to_come g t s c ≤ suc (to_come g t s y)) (eqb (suc c) (children_of g t))
        (λ q e. let w = eqb-true (suc c) (children_of g t) q in let s+ : 0 < s = above s e in omega (arith, low 0 s+, high c (omega arith)))
        (λ q e. elim (dec_lt c s) [
          | yes y ↦ let x : suc c < s = beyond (suc c) s y e in omega (arith, low c y, low (suc c) x)
          | no y ↦ omega (arith, high c (omega arith), high (suc c) (omega arith))
        ])

    pub searched_all : next ≡ s → Bare t
    searched_all e d m = one_more d m (omega (arith, last e, (to_come_lem g k+ some j l t s d u m).0))

    pub searched_one : next ≢ s → Passed t s next
    searched_one e d m q = one_more d m (omega (arith, fewer e))

-- ---- what a store leaves of it

module _ (g : Shape) (j : ℕ) (o : Order) (z z' : Zone) where
  pub knows_kept : (p : Place) → ((k : ℕ) → Trees g j o z k → Trees g j o z' k) → ((k : ℕ) → Gone g j o z k → Gone g j o z' k) → Knows g j o z p → Knows g j o z' p
  knows_kept (Place.Own t) a b h = tt
  knows_kept (Place.Found (Found.Pass (Pass.Near t c))) a b h = tt
  knows_kept (Place.Found (Found.Pass (Pass.Partial t))) a b h = tt
  knows_kept (Place.Found (Found.Pass (Pass.Free t))) a b h = tt
  knows_kept (Place.Found (Found.Pass (Pass.Any t))) a b h = a t.0 h
  knows_kept (Place.Found (Found.Steal i t)) a b h = (a (trees_of g) h.0, b (suc i) h.1)

  pub spent_kept : (p : Place) → ((t : ℕ) → Bare g j o z t → Bare g j o z' t) → Spent g j o z p → Spent g j o z' p
  spent_kept (Place.Own t) a h = tt
  spent_kept (Place.Found (Found.Pass (Pass.Near t c))) a h = tt
  spent_kept (Place.Found (Found.Pass (Pass.Partial t))) a h = tt
  spent_kept (Place.Found (Found.Pass (Pass.Free t))) a h = tt
  spent_kept (Place.Found (Found.Pass (Pass.Any t))) a h = a t.0 h
  spent_kept (Place.Found (Found.Steal i t)) a h = a t.0 h

-- ---- counts, where nobody else is under way

none_shares : (t : ℕ) (e : Option CpuEntry) → has t e ≡ 0 → share t e ≡ 0
unfolding has share by_cpu
none_shares t None h = refl
none_shares t (Some CpuEntry.Absent) h = refl
none_shares t (Some (CpuEntry.Holds v s k)) h = elim (placed v.0 1 t) [
  | here e q ↦ absurd (omega arith)
  | elsewhere e q ↦ at_other v.0 k t e
]

module _ (n : ℕ) (z : Zone) (cs : ℕ → Cpu) (held lost : List Block) (u : Up n z cs held lost) (j : ℕ) (l : j < length z.cpus) (idle : (i : ℕ) → j ≢ i → cs i ≡ resting) where
  abbrev g : Shape
  g = shaped n z

  abbrev C : ℕ
  C = length z.cpus

  own_owes : (t : ℕ) → sum_to C (λ i. owed g (cs i).latest t) ≡ owed g (cs j).latest t
  unfolding owed
  own_owes t = sum_single C j (λ i. owed g (cs i).latest t) l (λ i m q. ap (λ (c : Cpu). owed g c.latest t) (idle i q))

  own_reserves : (t : ℕ) → sum_to C (λ i. reserves (cs i).latest t) ≡ reserves (cs j).latest t
  unfolding reserves
  own_reserves t = sum_single C j (λ i. reserves (cs i).latest t) l (λ i m q. ap (λ (c : Cpu). reserves c.latest t) (idle i q))

  -- a tree that no entry holds: its count and what the get has of it are its free frames
  pub all_free : (t : ℕ) → t < trees_of g → flag_at z.trees t ≡ reserves (cs j).latest t → tally_at z.trees t + owed g (cs j).latest t ≡ free_tree g z.children z.words t
  all_free t h e =
      let H : ℕ → ℕ = λ i. has t (entry_at g z.cpus i) in
      let none : sum_to C H ≡ 0 = omega (arith, u.upper.flags t h, own_reserves t) in
      omega (arith, u.upper.tallies t h, own_owes t, sum_zero C (λ i. share t (entry_at g z.cpus i)) (λ i m. none_shares t (entry_at g z.cpus i) (omega (arith, sum_part C H i m))))

  pub bare : (o : Order) (t : ℕ) → free_tree g z.children z.words t < size o → Bare g j o z t
  unfolding free_tree
  bare o t h c m = short_count (size o) z.children z.words (t * per_tree g + c) (omega (arith, sum_part (children_of g t) (λ i. free_of z.children z.words (t * per_tree g + i)) c m))

  -- with every entry absent and nothing reserved by the get no tree is reserved
  pub none_reserved : (t : ℕ) → t < trees_of g → reserves (cs j).latest t ≡ 0 → ((i : ℕ) → i < C → entry_at g z.cpus i ≡ Some CpuEntry.Absent) → flag_at z.trees t ≡ 0
  unfolding has by_cpu
  none_reserved t h e a = omega (arith, u.upper.flags t h, own_reserves t, sum_zero C (λ i. has t (entry_at g z.cpus i)) (λ i m. ap (has t) (a i m)))
