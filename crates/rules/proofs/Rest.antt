-- Frames that blocks cover; and an open zone in which nothing is under way: taken and free frames are what the history leaves, and the zone is settled.
use mathlib.Core.Path.{◌≡◌, refl, sym, ap, ◌∙◌}
use mathlib.Core.Bool.{true, ◌&&◌}
use mathlib.Core.List.{List, [], ◌∷◌}
use Prim.Native.Nat.{ℕ, zero, suc, ◌+◌, ◌-◌, ◌*◌, ◌/◌, ◌≤◌, ◌<◌}
use native.Mathlib.Omega.{arith}
use native.Mathlib.Decide.{ℕ_discrete, dec_lt}
use lib.ListN.{length, get_or}
use borrow.Author.Tests.{eq-eqb}
use Rattle.laws.specs.Tests.{pick}
use Rattle.laws.specs.Sum.{sum_to, sum_l, at}
use Rattle.laws.proofs.Tests.{pick_elim, pick_no, both_and, every_all}
use Rattle.laws.proofs.Sum.{run_in, run_below, run_above, at_same, at_other, sum_ext, sum_zero, sum_groups}
use Rattle.laws.proofs.Parts.{part_at}
use Rattle.rules.specs.Types.{Block}
use Rattle.rules.specs.Numbers.{child_frames, Shape, per_tree, trees_of, children_of, capacity}
use Rattle.rules.specs.Conversions.{huge, tree}
use Rattle.rules.specs.Blocks.{run_size, size_of, first_of}
use Rattle.rules.specs.Lower.{is_flagged, count_in, part_sum}
use Rattle.rules.specs.Zone.{Zone, shaped, cpu_entry_at}
use Rattle.rules.specs.Plan.{by_tree}
use Rattle.rules.specs.Open.{child_at, children_formed, flags_empty, trees_formed, cpus_formed, child_settled, tree_count, cpu_count, child_count, tree_settled, settled}
use Rattle.rules.specs.Events.{Cpu, resting}
use Rattle.rules.specs.Promise.{covers, covered, taken_at, reserved_at, holds_at, owned_by}
use Rattle.rules.proofs.Guards.{cpu_elim}
use Rattle.rules.proofs.Shapes.{child_in_lem}
use Rattle.rules.proofs.Fresh.{child_at_lem}
use Rattle.rules.proofs.Fields.{flag_bit}
use Rattle.rules.proofs.Own.{bit_at, free_of, Survived, taken_owned, free_unowned, owned_survived}
use Rattle.rules.proofs.Shares.{base_of, whole_of, share, has, low_of, owed, reserves}
use Rattle.rules.proofs.Upper.{entry_at, tally_at, flag_at}
use Rattle.rules.proofs.Sizes.{run_some, run_inside}
use Rattle.rules.proofs.Invariant.{BlockIn, AllIn, weighs, free_tree, Up}
use Rattle.rules.proofs.Readings.{tree_says_lem}
use Rattle.rules.proofs.Phases.{weighed, zeros_at_lem, all_formed, all_empty}

-- ---- the frames of a block, as base frames and as whole children

covers_is : (b : Block) (f : ℕ) → covers b f ≡ base_of f b + whole_of (f / child_frames) b
unfolding base_of whole_of
covers_is (Block.Run v x) f = omega arith
covers_is (Block.Whole h) f = elim (ℕ_discrete h.0 (f / child_frames)) [
  | yes e ↦ omega (arith, run_in child_frames (h.0 * child_frames) f (omega arith) (omega arith), ap (λ c. at h.0 1 c) (sym e), at_same h.0 1)
  | no m ↦ elim (dec_lt f (h.0 * child_frames)) [
    | yes l ↦ omega (arith, run_below child_frames (h.0 * child_frames) f l, at_other h.0 1 (f / child_frames) m)
    | no k ↦ omega (arith, run_above child_frames (h.0 * child_frames) f (omega arith), at_other h.0 1 (f / child_frames) m)
  ]
]

pub covered_is : (l : List Block) (f : ℕ) → covered l f ≡ sum_l (base_of f) l + sum_l (whole_of (f / child_frames)) l
unfolding sum_l
covered_is [] f = refl
covered_is (b ∷ l) f = omega (arith, covers_is b f, covered_is l f)

-- a block of the zone ends in it
pub block_ends : (n : ℕ) (b : Block) → BlockIn n b → (first_of b).0 + size_of b ≤ child_frames * n
block_ends n (Block.Run v f) l = run_inside v n f.0 l.0 l.1
block_ends n (Block.Whole x) l = omega (arith, l)

pub block_some : (b : Block) → 0 < size_of b
block_some (Block.Run v f) = run_some v
block_some (Block.Whole x) = omega arith

-- beyond the zone no block of it stands
pub covered_out : (n : ℕ) (l : List Block) (f : ℕ) → AllIn n l → child_frames * n ≤ f → covered l f ≡ 0
unfolding sum_l
covered_out n [] f a h = refl
covered_out n (Block.Run v x ∷ l) f a h = omega (arith, covered_out n l f a.1 h, run_above (run_size v) x.0 f (omega (arith, block_ends n (Block.Run v x) a.0)))
covered_out n (Block.Whole x ∷ l) f a h = omega (arith, covered_out n l f a.1 h, run_above child_frames (x.0 * child_frames) f (omega (arith, a.0)))

-- two places of a list
one_of : (w : Block → ℕ) (l : List Block) (i : ℕ) (d : Block) → i < length l → w (get_or l i d) ≤ sum_l w l
unfolding sum_l
one_of w [] i d h = absurd (omega arith)
one_of w (b ∷ l) zero d h = omega arith
one_of w (b ∷ l) (suc i) d h = omega (arith, one_of w l i d (omega arith))

pub two_of : (w : Block → ℕ) (l : List Block) (i j : ℕ) (d : Block) → i < j → j < length l → w (get_or l i d) + w (get_or l j d) ≤ sum_l w l
unfolding sum_l
two_of w [] i j d h k = absurd (omega arith)
two_of w (b ∷ l) i zero d h k = absurd (omega arith)
two_of w (b ∷ l) zero (suc j) d h k = omega (arith, one_of w l j d (omega arith))
two_of w (b ∷ l) (suc i) (suc j) d h k = omega (arith, two_of w l i j d (omega arith) (omega arith))

-- ---- nothing is under way

module _ (n : ℕ) (z : Zone) (cs : ℕ → Cpu) (held lost : List Block) (u : Up n z cs held lost) (r : (j : ℕ) → cs j ≡ resting) where
  abbrev g : Shape
  g = shaped n z

  abbrev C : ℕ
  C = length z.cpus

  rest_weighs : (w : Block → ℕ) → weighs w held lost C cs ≡ weighed w held lost
  unfolding sum_l
  rest_weighs w = omega (arith, sum_zero C (λ j. sum_l w (owned_by (cs j).latest)) (λ j h. ap (λ (c : Cpu). sum_l w (owned_by c.latest)) (r j)))

  rest_low : (x : ℕ) → sum_to C (λ j. low_of g (cs j).latest x) ≡ 0
  unfolding low_of
  rest_low x = sum_zero C (λ j. low_of g (cs j).latest x) (λ j h. ap (λ (c : Cpu). low_of g c.latest x) (r j))

  rest_owed : (t : ℕ) → sum_to C (λ j. owed g (cs j).latest t) ≡ 0
  unfolding owed
  rest_owed t = sum_zero C (λ j. owed g (cs j).latest t) (λ j h. ap (λ (c : Cpu). owed g c.latest t) (r j))

  under : Survived n z.children z.words (λ f. weighs (base_of f) held lost C cs) (λ c. weighs (whole_of c) held lost C cs)
  under = owned_survived n z.children z.words _ _ _ u.lower

  -- the flag alone says what the entry says
  pub taken_is : (f : ℕ) → f < child_frames * n → taken_at z f ≡ pick (is_flagged (get_or z.children (f / child_frames) 0)) 1 (bit_at z.words f)
  taken_is f h = ap (λ b. pick b 1 (bit_at z.words f)) (flag_bit _ (under.formed (f / child_frames) (omega arith)))

  -- what is taken is held or lost
  pub rest_taken : (f : ℕ) → f < child_frames * n → taken_at z f ≡ covered held f + covered lost f
  rest_taken f h = taken_is f h ∙ taken_owned n z.children z.words _ _ under f h ∙ omega (arith, rest_weighs (base_of f), rest_weighs (whole_of (f / child_frames)), covered_is held f, covered_is lost f)

  -- a child's free frames are those that the history leaves free
  abbrev Free : ℕ → ℕ → ℕ
  Free a k = sum_to k (λ i. 1 - (covered held (a + i) + covered lost (a + i)))

  free_is : (c : ℕ) → c < n → free_of z.children z.words c ≡ Free (child_frames * c) child_frames
  free_is c h = free_unowned n z.children z.words _ _ under c h ∙ sum_ext child_frames _ _ (λ i l.
      let f : ℕ = child_frames * c + i in
      let e : f / child_frames ≡ c = omega arith in
      let x = ap (λ q. sum_l (whole_of q) held) e in
      let y = ap (λ q. sum_l (whole_of q) lost) e in
      omega (arith, rest_weighs (base_of f), rest_weighs (whole_of c), covered_is held f, covered_is lost f, x, y))

  -- every child counts its free frames
  counts_free : (c : ℕ) → c < n → count_in (get_or z.children c 0) ≡ free_of z.children z.words c
  counts_free c h = omega (arith, u.lower.counts c h, rest_low c)

  pub rest_children : (c : ℕ) → c < n → count_in (child_at g z (huge c)) ≡ Free (child_frames * c) child_frames
  rest_children c h = ap count_in (child_at_lem g (omega arith) z c h) ∙ counts_free c h ∙ free_is c h

  -- every tree's counters add up to its free frames
  tree_count_lem : (t : ℕ) → t < trees_of g → tree_count g z (tree t) ≡ tally_at z.trees t
  unfolding tree_count by_tree
  tree_count_lem t h = rw (tree_says_lem n z cs held lost u (tree t) h)

  shares_are : (t : ℕ) → sum_to C (cpu_count g z (tree t)) ≡ sum_to C (λ j. share t (entry_at g z.cpus j))
  unfolding cpu_count share at
  shares_are t = refl

  counters : (t : ℕ) → t < trees_of g → tree_count g z (tree t) + sum_to C (cpu_count g z (tree t)) ≡ free_tree g z.children z.words t
  counters t h = omega (arith, tree_count_lem t h, shares_are t, u.upper.tallies t h, rest_owed t)

  pub rest_trees : (t : ℕ) → t < trees_of g → tree_count g z (tree t) + sum_to C (cpu_count g z (tree t)) ≡ Free (child_frames * (t * per_tree g)) (capacity g t)
  unfolding free_tree
  rest_trees t h =
      let a : ℕ = child_frames * (t * per_tree g) in
      let k : ℕ = children_of g t in
      let F : ℕ → ℕ = λ i. 1 - (covered held (a + i) + covered lost (a + i)) in
      let q : k * child_frames ≡ capacity g t = omega arith in
      counters t h ∙ (sum_ext k _ _ (λ c l. free_is (t * per_tree g + c) (child_in_lem g (omega arith) t c l) ∙ sum_ext child_frames _ _ (λ i m.
      let e : child_frames * (t * per_tree g + c) + i ≡ a + (c * child_frames + i) = omega arith in
      ap (λ x. 1 - (covered held x + covered lost x)) e))
      ∙ (sym (sum_groups k child_frames F) ∙ ap (λ x. sum_to x F) q))

  -- every tree's r is the number of entries that hold it
  rest_reserves : (t : ℕ) → sum_to C (λ j. reserves (cs j).latest t) ≡ 0
  unfolding reserves
  rest_reserves t = sum_zero C (λ j. reserves (cs j).latest t) (λ j h. ap (λ (c : Cpu). reserves c.latest t) (r j))

  reserved_is : (t : ℕ) → t < trees_of g → reserved_at g z (tree t) ≡ flag_at z.trees t
  unfolding reserved_at by_tree
  reserved_is t h = rw (tree_says_lem n z cs held lost u (tree t) h)

  holders_are : (t : ℕ) → sum_to C (holds_at g z (tree t)) ≡ sum_to C (λ j. has t (entry_at g z.cpus j))
  unfolding holds_at has at
  holders_are t = refl

  pub rest_reserved : (t : ℕ) → t < trees_of g → reserved_at g z (tree t) ≡ sum_to C (holds_at g z (tree t))
  rest_reserved t h = omega (arith, reserved_is t h, holders_are t, u.upper.flags t h, rest_reserves t)

  -- ---- close answers Done

  trees_formed_lem : trees_formed g z ≡ true
  unfolding trees_formed by_tree
  trees_formed_lem = every_all (trees_of g) _ (λ t h. rw (tree_says_lem n z cs held lost u (tree t) h) refl)

  cpus_formed_lem : cpus_formed g z ≡ true
  unfolding cpus_formed
  cpus_formed_lem = every_all C _ (λ j h. cpu_elim (λ b. b ≡ true) (cpu_entry_at g z j) (λ e. absurd (u.upper.sound j h e)) (λ e. refl) (λ t s k e. refl))

  children_settled : (c : ℕ) → c < n → child_settled g z (huge c) ≡ true
  unfolding child_settled free_of
  children_settled c h = rw (child_at_lem g (omega arith) z c h, zeros_at_lem g (omega arith) z c h) (pick_elim (λ b. b ≡ true) (is_flagged (get_or z.children c 0)) (λ f. refl)
      (λ f. eq-eqb _ _ (counts_free c h ∙ pick_no _ _ _ f)))

  child_count_lem : (t : ℕ) → child_count g z (tree t) ≡ free_tree g z.children z.words t
  unfolding child_count part_sum free_tree
  child_count_lem t = sum_ext (children_of g t) _ _ (λ c l. ap count_in (part_at (t * per_tree g) (children_of g t) z.children c 0 l) ∙ counts_free _ (child_in_lem g (omega arith) t c l))

  pub rest_sound : (children_formed g z && (flags_empty g z && (trees_formed g z && cpus_formed g z))) ≡ true
  rest_sound = both_and _ _ (all_formed n z _ _ under) (both_and _ _ (all_empty n z _ _ under) (both_and _ _ trees_formed_lem cpus_formed_lem))

  pub rest_settled : settled g z ≡ true
  unfolding settled tree_settled
  rest_settled = both_and _ _ (every_all n _ children_settled) (every_all (trees_of g) _ (λ t h. eq-eqb _ _ (counters t h ∙ sym (child_count_lem t))))
