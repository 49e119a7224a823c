-- The invariant of an open zone, and that a step keeps it: one lemma for each kind of store.
use Rattle.std.specs.Prelude.{Some, None}
use mathlib.Core.Path.{◌≡◌, refl, sym, ap, ◌∙◌, subst}
use mathlib.Core.Logic.{◌≢◌}
use mathlib.Core.List.{List, [], ◌∷◌, ◌++◌}
use Prim.Native.Nat.{ℕ, ◌+◌, ◌-◌, ◌*◌, ◌%◌, ◌^◌, ◌≤◌, ◌<◌}
use native.Mathlib.Omega.{arith}
use native.Mathlib.Nat.{add-zero}
use native.Mathlib.Decide.{ℕ_discrete}
use lib.ListN.{length, get_or, set, length-set}
use Rattle.laws.specs.Sum.{sum_to, sum_l, at, upd}
use Rattle.laws.specs.Words.{bits, ones}
use Rattle.laws.proofs.Sum.{at_same, at_none, sum_upd, sum_l_append, map_upd, upd_at, upd_other, sum_add}
use Rattle.rules.specs.Types.{Run, Block, ChildEntry, CpuEntry, Record, Answer}
use Rattle.rules.specs.Numbers.{child_frames, child_words, word_bits, most_huge, most_cpus, format1, Shape, per_tree, trees_of, children_of, capacity}
use Rattle.rules.specs.Conversions.{huge, frame}
use Rattle.rules.specs.Blocks.{run_size}
use Rattle.rules.specs.Answers.{number, Next, ends, goes_on, record_of, next_of, by_next}
use Rattle.rules.specs.Entries.{header_word, running, cpu_says, cpu_word}
use Rattle.rules.specs.Lower.{child_says, count_word, flagged_word}
use Rattle.rules.specs.Zone.{Zone, shaped, Store, stored, nothing}
use Rattle.rules.specs.Plan.{Mark, plain, takes, clears, Plan, says}
use Rattle.rules.specs.Events.{Cpu, resting, taken, unless_cleared, lost_by, handed}
use Rattle.rules.specs.Promise.{owned_by, most, Names}
use Rattle.rules.proofs.Sizes.{run_some}
use Rattle.rules.proofs.Layouts.{format1_sound}
use Rattle.rules.proofs.Shapes.{child_in_lem, sum_tree}
use Rattle.rules.proofs.Shares.{base_of, whole_of, share, has, low_of, owed, reserves, Wanted, want, Proper, AgreesWith, Agrees}
use Rattle.rules.proofs.Own.{free_of, Owned, owned_same, count_stored, count_free, flag_stored, flag_free, flag_cleared, unflag_free, bits_stored, set_free, bits_cleared, clear_free}
use Rattle.rules.proofs.Upper.{entry_at, tally_at, flag_at, Upper, record_changed, tree_stored, own_stored, other_absent}

-- ---- sums over what is held, what is lost, and what operations own
abbrev pub weighs : (Block → ℕ) → List Block → List Block → ℕ → (ℕ → Cpu) → ℕ
weighs w held lost n cs = sum_l w held + sum_l w lost + sum_to n (λ j. sum_l w (owned_by (cs j).latest))

abbrev pub lows : Shape → (ℕ → Cpu) → ℕ → ℕ
lows g cs x = sum_to g.cpus (λ j. low_of g (cs j).latest x)

-- the free frames of tree t
unfoldable pub free_tree : Shape → List ℕ → List ℕ → ℕ → ℕ
free_tree g cs ws t = sum_to (children_of g t) (λ c. free_of cs ws (t * per_tree g + c))

-- every block of a list lies in the zone
abbrev pub BlockIn : ℕ → Block → Type 0
BlockIn n (Block.Run v f) = (f.0 < n * child_frames) × (f.0 % run_size v ≡ 0)
BlockIn n (Block.Whole h) = h.0 < n

abbrev pub AllIn : ℕ → List Block → Type 0
AllIn n [] = Unit {0}
AllIn n (b ∷ l) = BlockIn n b × AllIn n l

pub record Up (n : ℕ) (z : Zone) (cs : ℕ → Cpu) (held lost : List Block) : Type 0 where
  pub some : 0 < n
  pub small : n ≤ most_huge
  pub header : z.header ≡ header_word running n ∷ []
  pub some_cpu : 0 < length z.cpus
  pub few_cpus_lem : length z.cpus ≤ most_cpus
  -- words and children, with what operations own and have under way there
  pub lower : Owned n z.children z.words (lows (shaped n z) cs) (λ f. weighs (base_of f) held lost (length z.cpus) cs) (λ c. weighs (whole_of c) held lost (length z.cpus) cs)
  -- trees and CPU entries, with what operations owe and reserve
  pub upper : Upper (shaped n z) z.trees z.cpus (λ j. (cs j).latest) (free_tree (shaped n z) z.children z.words)
  -- what a CPU began and stored agrees with its record; beyond the table there is no CPU
  pub agrees : (j : ℕ) → Agrees (cs j)
  pub beyond : (j : ℕ) → length z.cpus ≤ j → cs j ≡ resting

-- ---- a CPU after its step was answered
abbrev pub answered : Cpu → Mark → Answer → Cpu
answered c m a = by_next (next_of a) resting (λ r. record { latest = r; begun = c.begun; marks = m ∷ c.marks })

module _ (n : ℕ) (z : Zone) (cs : ℕ → Cpu) (held lost : List Block) (u : Up n z cs held lost) (j : ℕ) (l : j < length z.cpus) (r : Record) (e : (cs j).latest ≡ r) where
  abbrev g : Shape
  g = shaped n z

  -- what a step's plan must be of the record alone
  pub record Fine (p : Plan) : Type 0 where
    pub proper : Proper g j (record_of p.answer)
    pub lostly : lost_by (cs j).begun (p.mark ∷ (cs j).marks) ≡ handed (cs j).begun p.answer ++ owned_by (record_of p.answer)
    pub agrees : Agrees (answered (cs j) p.mark p.answer)
    pub small : number p.answer ≤ most (cs j).begun
    pub inside : AllIn n (handed (cs j).begun p.answer)
    pub names : Names (cs j).begun p.answer

  pub record Keeps (p : Plan) : Type 0 where
    pub up : Up n (stored format1 z p.store) (upd cs j (answered (cs j) p.mark p.answer)) (handed (cs j).begun p.answer ++ held) lost
    pub fine : Fine p

  pub latest_is : (m : Mark) (a : Answer) → (answered (cs j) m a).latest ≡ record_of a
  latest_is m a = go (next_of a)
    where
      go : (x : Next) → (by_next x resting (λ r. record { latest = r; begun = (cs j).begun; marks = m ∷ (cs j).marks })).latest ≡ by_next x Record.Finished (λ r. r)
      go ends = refl
      go (goes_on r) = refl

  module _ (p : Plan) where
    abbrev r' : Record
    r' = record_of p.answer

    abbrev c' : Cpu
    c' = answered (cs j) p.mark p.answer

    -- what is under way below a child's count
    low_step : (x : ℕ) → lows g (upd cs j c') x + low_of g r x ≡ lows g cs x + low_of g r' x
    low_step x = rw (e, latest_is p.mark p.answer) at (sum_upd (λ (c : Cpu). low_of g c.latest x) (length z.cpus) j cs (cs j) c' l refl)

    -- what is owned
    weigh_step : (w : Block → ℕ) → weighs w (handed (cs j).begun p.answer ++ held) lost (length z.cpus) (upd cs j c') + sum_l w (owned_by r)
        ≡ weighs w held lost (length z.cpus) cs + sum_l w (handed (cs j).begun p.answer) + sum_l w (owned_by r')
    weigh_step w =
        let s = rw (e, latest_is p.mark p.answer) at (sum_upd (λ (c : Cpu). sum_l w (owned_by c.latest)) (length z.cpus) j cs (cs j) c' l refl) in
        omega (arith, s, sum_l_append w (handed (cs j).begun p.answer) held)

    -- the invariant, put together again
    together : (z' : Zone) → stored format1 z p.store ≡ z' → Fine p → z'.header ≡ z.header → length z'.cpus ≡ length z.cpus
        → Owned n z'.children z'.words (lows g (upd cs j c')) (λ f. weighs (base_of f) (handed (cs j).begun p.answer ++ held) lost (length z.cpus) (upd cs j c')) (λ c. weighs (whole_of c) (handed (cs j).begun p.answer ++ held) lost (length z.cpus) (upd cs j c'))
        → Upper g z'.trees z'.cpus (upd (λ i. (cs i).latest) j r') (free_tree g z'.children z'.words) → Keeps p
    together z' q f h c lower upper = record {
      fine = f;
      up = rw q (record {
        some = u.some;
        small = u.small;
        header = h ∙ u.header;
        some_cpu = rw c u.some_cpu;
        few_cpus_lem = rw c u.few_cpus_lem;
        lower = rw c lower;
        upper = rw c (rw (map_upd (λ (x : Cpu). x.latest) cs j c', latest_is p.mark p.answer) upper);
        agrees = λ i. elim (ℕ_discrete j i) [
          | yes y ↦ subst Agrees (sym (upd_at cs j c' i y)) f.agrees
          | no y ↦ subst Agrees (sym (upd_other cs j c' i y)) (u.agrees i)
        ];
        beyond = λ i k. upd_other cs j c' i (λ y. omega (arith, l, rw c at k)) ∙ u.beyond i (rw c at k);
      });
    }

  -- ---- stores of the upper level, and looks

  -- without a mark, what was owned is owned or handed out
  plain_lost : (c : Cpu) → Agrees c → lost_by c.begun (plain ∷ c.marks) ≡ owned_by c.latest
  unfolding lost_by taken unless_cleared
  plain_lost c a = go c.latest a
    where
      go : (q : Record) → AgreesWith c.begun c.marks q → lost_by c.begun (plain ∷ c.marks) ≡ owned_by q
      go Record.Finished h = ap (λ b. lost_by b (plain ∷ c.marks)) h.0
      go (Record.Get i s) h = ap (λ b. lost_by b (plain ∷ c.marks)) h.1 ∙ h.3
      go (Record.Put i s) h = ap (λ b. lost_by b (plain ∷ c.marks)) h.1 ∙ h.2
      go (Record.Create y) h = absurd h
      go (Record.Open y) h = absurd h

  -- what all blocks weigh after a step, that was answered with a
  abbrev weighed : (Block → ℕ) → Mark → Answer → ℕ
  weighed w m a = weighs w (handed (cs j).begun a ++ held) lost (length z.cpus) (upd cs j (answered (cs j) m a))

  module _ (st : Store) (a : Answer) (f : Fine (says st a)) where
    weigh_same : (w : Block → ℕ) → weighed w plain a ≡ weighs w held lost (length z.cpus) cs
    weigh_same w =
        let o : handed (cs j).begun a ++ owned_by (record_of a) ≡ owned_by r = sym f.lostly ∙ plain_lost (cs j) (u.agrees j) ∙ ap owned_by e in
        omega (arith, weigh_step (says st a) w, sum_l_append w (handed (cs j).begun a) (owned_by (record_of a)), ap (sum_l w) o)

  module _ (st : Store) (a : Answer) (f : Fine (says st a)) (low : (x : ℕ) → low_of g (record_of a) x ≡ low_of g r x) where
    lower_same : Owned n z.children z.words (lows g (upd cs j (answered (cs j) plain a))) (λ b. weighed (base_of b) plain a) (λ b. weighed (whole_of b) plain a)
    lower_same = owned_same n z.children z.words _ _ _ u.lower _ _ _ (λ x. omega (arith, low_step (says st a) x, low x)) (λ b. weigh_same st a f (base_of b)) (λ b. weigh_same st a f (whole_of b))

  abbrev R : ℕ → Record
  R = λ i. (cs i).latest

  abbrev F : ℕ → ℕ
  F = free_tree g z.children z.words

  -- nothing is stored
  pub looked : (a : Answer) → Fine (says nothing a) → ((x : ℕ) → low_of g (record_of a) x ≡ low_of g r x) → ((t : ℕ) → owed g (record_of a) t ≡ owed g r t) → ((t : ℕ) → reserves r t ≡ reserves (record_of a) t)
      → Wanted (want (record_of a)) (entry_at g z.cpus j) → Keeps (says nothing a)
  unfolding stored
  looked a f low o v w = together (says nothing a) z refl f refl refl (lower_same nothing a f low)
      (record_changed g format1_sound z.trees z.cpus R F u.upper j l r e (record_of a) F (λ t h. ap (λ x. x + F t) (o t)) v w f.proper)

  -- the own entry is stored
  pub own_kept : (c : CpuEntry) (a : Answer) → Fine (says (Store.cpu j c) a) → ((x : ℕ) → low_of g (record_of a) x ≡ low_of g r x) → cpu_says g (cpu_word format1 c) ≡ Some c → Some c ≢ None
      → ((t : ℕ) → share t (Some c) + owed g (record_of a) t ≡ share t (entry_at g z.cpus j) + owed g r t) → ((t : ℕ) → has t (Some c) + reserves (record_of a) t ≡ has t (entry_at g z.cpus j) + reserves r t)
      → Wanted (want (record_of a)) (Some c) → Keeps (says (Store.cpu j c) a)
  unfolding stored
  own_kept c a f low q d o v w = together (says (Store.cpu j c) a) _ refl f refl (length-set z.cpus j _) (lower_same (Store.cpu j c) a f low)
      (own_stored g format1_sound z.trees z.cpus R F u.upper j l r e (record_of a) c q d o v w f.proper)

  -- another CPU's entry becomes absent
  pub other_kept : (i : ℕ) (a : Answer) → Fine (says (Store.cpu i CpuEntry.Absent) a) → ((x : ℕ) → low_of g (record_of a) x ≡ low_of g r x) → i < length z.cpus → i ≢ j
      → ((t : ℕ) → owed g (record_of a) t ≡ share t (entry_at g z.cpus i) + owed g r t) → ((t : ℕ) → reserves (record_of a) t ≡ has t (entry_at g z.cpus i) + reserves r t)
      → Wanted (want (record_of a)) (entry_at g z.cpus j) → Keeps (says (Store.cpu i CpuEntry.Absent) a)
  unfolding stored
  other_kept i a f low h q o v w = together (says (Store.cpu i CpuEntry.Absent) a) _ refl f refl (length-set z.cpus i _) (lower_same (Store.cpu i CpuEntry.Absent) a f low)
      (other_absent g format1_sound z.trees z.cpus R F u.upper j l r e (record_of a) i h q o v w f.proper)

  -- a tree's entry is stored
  pub tree_kept : (t b k : ℕ) (a : Answer) → Fine (says (Store.tree t b k) a) → ((x : ℕ) → low_of g (record_of a) x ≡ low_of g r x) → t < trees_of g → b < 2 → k ≤ capacity g t
      → ((x : ℕ) → at t k x + owed g (record_of a) x ≡ at t (tally_at z.trees t) x + owed g r x) → ((x : ℕ) → at t b x + reserves r x ≡ at t (flag_at z.trees t) x + reserves (record_of a) x)
      → Wanted (want (record_of a)) (entry_at g z.cpus j) → Keeps (says (Store.tree t b k) a)
  unfolding stored
  tree_kept t b k a f low h c d o v w = together (says (Store.tree t b k) a) _ refl f refl refl (lower_same (Store.tree t b k) a f low)
      (tree_stored g format1_sound z.trees z.cpus R F u.upper j l r e (record_of a) t b k h c d o v w f.proper)

  -- ---- stores of the lower level: the record, and the free frames of its tree with it

  lower_upper : (cs' ws' : List ℕ) (r' : Record) → ((t : ℕ) → t < trees_of g → owed g r' t + F t ≡ owed g r t + free_tree g cs' ws' t) → ((t : ℕ) → reserves r t ≡ reserves r' t)
      → Wanted (want r') (entry_at g z.cpus j) → Proper g j r' → Upper g z.trees z.cpus (upd R j r') (free_tree g cs' ws')
  lower_upper cs' ws' r' o v w p = record_changed g format1_sound z.trees z.cpus R F u.upper j l r e r' (free_tree g cs' ws') o v w p

  -- child c of tree t has d frames fewer, or more: so has the tree
  tree_free : (cs' ws' : List ℕ) (t c d d' : ℕ) → c < children_of g t → ((x : ℕ) → free_of cs' ws' x + at (t * per_tree g + c) d x ≡ free_of z.children z.words x + at (t * per_tree g + c) d' x)
      → (y : ℕ) → free_tree g cs' ws' y + at t d y ≡ F y + at t d' y
  unfolding free_tree
  tree_free cs' ws' t c d d' h f y =
      let b : ℕ → ℕ = λ i. free_of z.children z.words (y * per_tree g + i) in
      let x : ℕ → ℕ = λ i. at (t * per_tree g + c) d' (y * per_tree g + i) in
      let p = sum_add (children_of g y) (λ i. free_of cs' ws' (y * per_tree g + i)) (λ i. at (t * per_tree g + c) d (y * per_tree g + i)) (λ i. b i + x i) (λ i m. f (y * per_tree g + i)) in
      let o = sum_add (children_of g y) b x (λ i. b i + x i) (λ i m. refl) in
      omega (arith, p, o, sum_tree g (omega arith) t c d y h, sum_tree g (omega arith) t c d' y h)

  abbrev cs₀ : List ℕ
  cs₀ = z.children

  abbrev ws₀ : List ℕ
  ws₀ = z.words

  -- a child's count, and what is under way below it
  pub count_kept : (t c k k' : ℕ) (a : Answer) → Fine (says (Store.child (t * per_tree g + c) (count_word k')) a) → c < children_of g t → child_says (get_or cs₀ (t * per_tree g + c) 0) ≡ Some (ChildEntry.Counts k) → k' ≤ child_frames
      → ((x : ℕ) → low_of g (record_of a) x + at (t * per_tree g + c) k' x ≡ low_of g r x + at (t * per_tree g + c) k x) → ((y : ℕ) → owed g (record_of a) y ≡ owed g r y) → ((y : ℕ) → reserves r y ≡ reserves (record_of a) y)
      → Wanted (want (record_of a)) (entry_at g z.cpus j) → Keeps (says (Store.child (t * per_tree g + c) (count_word k')) a)
  unfolding stored
  count_kept t c k k' a f h q d low o v w =
      let i : ℕ = t * per_tree g + c in
      let m : i < n = child_in_lem g (omega arith) t c h in
      let p : Plan = says (Store.child i (count_word k')) a in
      let cs' : List ℕ = set cs₀ i (count_word k') in
      let lower = count_stored n cs₀ ws₀ _ _ _ u.lower i k k' (lows g (upd cs j (answered (cs j) plain a))) m q d (λ x. omega (arith, low_step p x, low x)) in
      together p _ refl f refl refl
      (owned_same n cs' ws₀ _ _ _ lower _ _ _ (λ x. refl) (λ b. weigh_same _ a f (base_of b)) (λ b. weigh_same _ a f (whole_of b)))
      (lower_upper cs' ws₀ (record_of a)
      (λ y b. omega (arith, o y, tree_free cs' ws₀ t c 0 0 h (λ x. ap (λ b. b + at i 0 x) (count_free n cs₀ ws₀ _ _ _ u.lower i k k' m q d x)) y)) v w f.proper)

  -- ---- marked stores: a block is owned from its taking store on, and no longer from its clearing store on

  module _ (st : Store) (a : Answer) (b : Block) (h : handed (cs j).begun a ≡ []) where
    weigh_takes : owned_by r ≡ [] → owned_by (record_of a) ≡ b ∷ [] → (w : Block → ℕ) → weighed w (takes b) a ≡ weighs w held lost (length z.cpus) cs + w b
    unfolding sum_l
    weigh_takes p q w = omega (arith, weigh_step (record { store = st; answer = a; mark = takes b }) w, ap (sum_l w) h, ap (sum_l w) p, ap (sum_l w) q)

    weigh_clears : owned_by r ≡ b ∷ [] → owned_by (record_of a) ≡ [] → (w : Block → ℕ) → weighed w (clears b) a + w b ≡ weighs w held lost (length z.cpus) cs
    unfolding sum_l
    weigh_clears p q w = omega (arith, weigh_step (record { store = st; answer = a; mark = clears b }) w, ap (sum_l w) h, ap (sum_l w) p, ap (sum_l w) q)

  -- the taking store of a huge frame
  pub flag_kept : (t c : ℕ) (a : Answer) → let b : Block = Block.Whole (huge (t * per_tree g + c)) in let p : Plan = record { store = Store.child (t * per_tree g + c) flagged_word; answer = a; mark = takes b } in
      Fine p → handed (cs j).begun a ≡ [] → owned_by r ≡ [] → owned_by (record_of a) ≡ b ∷ [] → c < children_of g t → child_says (get_or cs₀ (t * per_tree g + c) 0) ≡ Some (ChildEntry.Counts child_frames)
      → ((x : ℕ) → low_of g (record_of a) x ≡ low_of g r x) → ((y : ℕ) → owed g (record_of a) y + at t child_frames y ≡ owed g r y) → ((y : ℕ) → reserves r y ≡ reserves (record_of a) y)
      → Wanted (want (record_of a)) (entry_at g z.cpus j) → Keeps p
  unfolding stored base_of whole_of
  flag_kept t c a f hd o₁ o₂ h q low o v w =
      let i : ℕ = t * per_tree g + c in
      let b : Block = Block.Whole (huge i) in
      let st : Store = Store.child i flagged_word in
      let p : Plan = record { store = st; answer = a; mark = takes b } in
      let m : i < n = child_in_lem g (omega arith) t c h in
      let cs' : List ℕ = set cs₀ i flagged_word in
      let wt = weigh_takes st a b hd o₁ o₂ in
      let lower = flag_stored n cs₀ ws₀ _ _ _ u.lower i (λ x. weighed (whole_of x) (takes b) a) m q (λ x. wt (whole_of x)) in
      together p _ refl f refl refl
      (owned_same n cs' ws₀ _ _ _ lower _ _ _ (λ x. omega (arith, low_step p x, low x)) (λ x. wt (base_of x) ∙ add-zero _) (λ x. refl))
      (lower_upper cs' ws₀ (record_of a)
      (λ y b. omega (arith, o y, tree_free cs' ws₀ t c child_frames 0 h (λ x. flag_free n cs₀ ws₀ _ _ _ u.lower i m q x ∙ omega (arith, at_none i x)) y, at_none t y)) v w f.proper)

  -- the clearing store of a huge frame
  pub unflag_kept : (t c : ℕ) (a : Answer) → let b : Block = Block.Whole (huge (t * per_tree g + c)) in let p : Plan = record { store = Store.child (t * per_tree g + c) (count_word child_frames); answer = a; mark = clears b } in
      Fine p → handed (cs j).begun a ≡ [] → owned_by r ≡ b ∷ [] → owned_by (record_of a) ≡ [] → c < children_of g t → child_says (get_or cs₀ (t * per_tree g + c) 0) ≡ Some ChildEntry.Flagged
      → ((x : ℕ) → low_of g (record_of a) x ≡ low_of g r x) → ((y : ℕ) → owed g (record_of a) y ≡ owed g r y + at t child_frames y) → ((y : ℕ) → reserves r y ≡ reserves (record_of a) y)
      → Wanted (want (record_of a)) (entry_at g z.cpus j) → Keeps p
  unfolding stored base_of whole_of
  unflag_kept t c a f hd o₁ o₂ h q low o v w =
      let i : ℕ = t * per_tree g + c in
      let b : Block = Block.Whole (huge i) in
      let st : Store = Store.child i (count_word child_frames) in
      let p : Plan = record { store = st; answer = a; mark = clears b } in
      let m : i < n = child_in_lem g (omega arith) t c h in
      let cs' : List ℕ = set cs₀ i (count_word child_frames) in
      let wt = weigh_clears st a b hd o₁ o₂ in
      let lower = flag_cleared n cs₀ ws₀ _ _ _ u.lower i (λ x. weighed (whole_of x) (clears b) a) m q (λ x. wt (whole_of x)) in
      together p _ refl f refl refl
      (owned_same n cs' ws₀ _ _ _ lower _ _ _ (λ x. omega (arith, low_step p x, low x)) (λ x. sym (add-zero _) ∙ wt (base_of x)) (λ x. refl))
      (lower_upper cs' ws₀ (record_of a)
      (λ y b. omega (arith, o y, tree_free cs' ws₀ t c 0 child_frames h (λ x. omega (arith, unflag_free n cs₀ ws₀ _ _ _ u.lower i m q x, at_none i x)) y, at_none t y)) v w f.proper)

  -- word i of child c of tree t, and the frame of its bit b
  abbrev word_no : ℕ → ℕ → ℕ → ℕ
  word_no t c i = child_words * (t * per_tree g + c) + i

  abbrev frame_no : ℕ → ℕ → ℕ → ℕ → ℕ
  frame_no t c i b = (t * per_tree g + c) * child_frames + i * word_bits + b

  -- the taking store of a run
  pub bits_kept : (v : Run) (t c i b : ℕ) (a : Answer) → let x : Block = Block.Run v (frame (frame_no t c i b)) in
      let p : Plan = record { store = Store.word (word_no t c i) (get_or ws₀ (word_no t c i) 0 + ones (run_size v) b); answer = a; mark = takes x } in
      Fine p → handed (cs j).begun a ≡ [] → owned_by r ≡ [] → owned_by (record_of a) ≡ x ∷ [] → c < children_of g t → i < child_words → b + run_size v ≤ word_bits → bits (run_size v) b (get_or ws₀ (word_no t c i) 0) ≡ 0
      → ((y : ℕ) → low_of g (record_of a) y + at (t * per_tree g + c) (run_size v) y ≡ low_of g r y) → ((y : ℕ) → owed g (record_of a) y + at t (run_size v) y ≡ owed g r y) → ((y : ℕ) → reserves r y ≡ reserves (record_of a) y)
      → Wanted (want (record_of a)) (entry_at g z.cpus j) → Keeps p
  unfolding stored base_of whole_of
  bits_kept v t c i b a f hd o₁ o₂ h k d q low o rs w =
      let x : Block = Block.Run v (frame (frame_no t c i b)) in
      let nu : ℕ = get_or ws₀ (word_no t c i) 0 + ones (run_size v) b in
      let st : Store = Store.word (word_no t c i) nu in
      let p : Plan = record { store = st; answer = a; mark = takes x } in
      let m : t * per_tree g + c < n = child_in_lem g (omega arith) t c h in
      let ws' : List ℕ = set ws₀ (word_no t c i) nu in
      let wt = weigh_takes st a x hd o₁ o₂ in
      let lq : (y : ℕ) → lows g (upd cs j (answered (cs j) (takes x) a)) y + at (t * per_tree g + c) (run_size v) y ≡ lows g cs y = λ y. omega (arith, low_step p y, low y) in
      let some : run_size v ≤ lows g cs (t * per_tree g + c) = omega (arith, lq (t * per_tree g + c), at_same (t * per_tree g + c) (run_size v)) in
      let lower = bits_stored n cs₀ ws₀ _ _ _ u.lower (t * per_tree g + c) i (run_size v) b (lows g (upd cs j (answered (cs j) (takes x) a))) (λ y. weighed (base_of y) (takes x) a) m k d (run_some v) some q lq (λ y. wt (base_of y)) in
      together p _ refl f refl refl
      (owned_same n cs₀ ws' _ _ _ lower _ _ _ (λ y. refl) (λ y. refl) (λ y. wt (whole_of y) ∙ add-zero _))
      (lower_upper cs₀ ws' (record_of a)
      (λ y b'. omega (arith, o y, tree_free cs₀ ws' t c (run_size v) 0 h (λ y. set_free n cs₀ ws₀ _ _ _ u.lower (t * per_tree g + c) i (run_size v) b m k d (run_some v) some q y ∙ omega (arith, at_none (t * per_tree g + c) y)) y, at_none t y)) rs w f.proper)

  -- the clearing store of a run
  pub bits_unkept : (v : Run) (t c i b : ℕ) (a : Answer) → let x : Block = Block.Run v (frame (frame_no t c i b)) in
      let p : Plan = record { store = Store.word (word_no t c i) (get_or ws₀ (word_no t c i) 0 - ones (run_size v) b); answer = a; mark = clears x } in
      Fine p → handed (cs j).begun a ≡ [] → owned_by r ≡ x ∷ [] → owned_by (record_of a) ≡ [] → c < children_of g t → i < child_words → b + run_size v ≤ word_bits → bits (run_size v) b (get_or ws₀ (word_no t c i) 0) ≡ 2 ^ run_size v - 1
      → ((y : ℕ) → low_of g (record_of a) y ≡ low_of g r y + at (t * per_tree g + c) (run_size v) y) → ((y : ℕ) → owed g (record_of a) y ≡ owed g r y + at t (run_size v) y) → ((y : ℕ) → reserves r y ≡ reserves (record_of a) y)
      → Wanted (want (record_of a)) (entry_at g z.cpus j) → Keeps p
  unfolding stored base_of whole_of
  bits_unkept v t c i b a f hd o₁ o₂ h k d q low o rs w =
      let x : Block = Block.Run v (frame (frame_no t c i b)) in
      let nu : ℕ = get_or ws₀ (word_no t c i) 0 - ones (run_size v) b in
      let st : Store = Store.word (word_no t c i) nu in
      let p : Plan = record { store = st; answer = a; mark = clears x } in
      let m : t * per_tree g + c < n = child_in_lem g (omega arith) t c h in
      let ws' : List ℕ = set ws₀ (word_no t c i) nu in
      let wt = weigh_clears st a x hd o₁ o₂ in
      let lower = bits_cleared n cs₀ ws₀ _ _ _ u.lower (t * per_tree g + c) i (run_size v) b (lows g (upd cs j (answered (cs j) (clears x) a))) (λ y. weighed (base_of y) (clears x) a) m k d (run_some v) q (λ y. omega (arith, low_step p y, low y)) (λ y. wt (base_of y)) in
      together p _ refl f refl refl
      (owned_same n cs₀ ws' _ _ _ lower _ _ _ (λ y. refl) (λ y. refl) (λ y. sym (add-zero _) ∙ wt (whole_of y)))
      (lower_upper cs₀ ws' (record_of a)
      (λ y b'. omega (arith, o y, tree_free cs₀ ws' t c 0 (run_size v) h (λ y. omega (arith, clear_free n cs₀ ws₀ _ _ _ u.lower (t * per_tree g + c) i (run_size v) b m k d (run_some v) q y, at_none (t * per_tree g + c) y)) y, at_none t y)) rs w f.proper)
