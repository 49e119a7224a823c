-- A get that runs alone ends with a free block, or with No room where every tree is bare.
use mathlib.Core.Path.{◌≡◌, refl, sym, ap, ◌∙◌, subst}
use mathlib.Core.Logic.{◌≢◌, inl, inr}
use mathlib.Core.Bool.{not}
use mathlib.Core.List.{List, [], ◌∷◌, ◌++◌}
use Prim.Native.Nat.{ℕ, zero, suc, ◌+◌, ◌*◌, ◌/◌, ◌%◌, ◌≤◌, ◌<◌}
use native.Mathlib.Omega.{arith}
use native.Mathlib.Decide.{ℕ_discrete}
use native.Mathlib.Nat.{mod-lt, div-add-mod', mul-le-mul_right, mul-zero, zero-mul, add-zero}
use lib.ListN.{length}
use borrow.Author.Tests.{lt-leb}
use Rattle.laws.specs.Sum.{upd, sum_l, run}
use Rattle.laws.proofs.Sum.{upd_at, upd_other, run_in}
use Rattle.rules.specs.Types.{Frame, Order, Block, Taking, Record, Answer}
use Rattle.rules.specs.Numbers.{child_frames, child_words, word_bits, format1, Shape, per_tree, trees_of}
use Rattle.rules.specs.Blocks.{run_size, size, size_of, first_of, block_at}
use Rattle.rules.specs.Answers.{number, frame_of, record_of}
use Rattle.rules.specs.Zone.{Zone, nothing, shaped, shape_of}
use Rattle.rules.specs.Plan.{Mark, Plan, says}
use Rattle.rules.specs.Ranges.{taking_in}
use Rattle.rules.specs.Begin.{order_number, order_of, bad_cpu, bad_order, begin_get}
use Rattle.rules.specs.Step.{step, after, most_get, follow}
use Rattle.rules.specs.Bounds.{Ends}
use Rattle.rules.specs.Events.{Begun, idle, getting, putting, Cpu, resting, taken, handed, ready}
use Rattle.rules.specs.Promise.{taken_at, covered, most, Names}
use Rattle.rules.specs.Solo.{frames, Free, NoneFree, alone, Solo, SoloRule}
use Rattle.rules.proofs.Sizes.{word_of_lem, order_again}
use Rattle.rules.proofs.Ways.{guarded_none}
use Rattle.rules.proofs.Bounds.{bounds}
use Rattle.rules.proofs.Shapes.{huge_is, tree_in_lem, number_in}
use Rattle.rules.proofs.Shares.{low_of, owed, reserves, Agrees, OfOrder, Proper}
use Rattle.rules.proofs.Invariant.{AllIn, Up, answered}
use Rattle.rules.proofs.Readings.{shape_is, open_skips}
use Rattle.rules.proofs.Turns.{begun_up, get_step, as_many}
use Rattle.rules.proofs.Histories.{in_phase, reached}
use Rattle.rules.proofs.Rest.{block_ends, taken_is, rest_taken}
use Rattle.rules.proofs.Room.{taken_in, Short, taken_le, some_of}
use Rattle.rules.proofs.Alone.{Bare, So}
use Rattle.rules.proofs.Stays.{Said, step_on}

-- the order that a CPU's operation gets
abbrev order_got : Begun → Order
order_got idle = Order.Nine
order_got (getting o) = o
order_got (putting b) = Order.Nine

-- an answer below 3
small_elim : (Q : Answer → Type 0) → ((f : Frame) → Q (Answer.Done f)) → ((r : Record) → Q (Answer.UnderWay r)) → Q Answer.NoRoom → (a : Answer) → number a ≤ 2 → Q a
small_elim Q d u n (Answer.Done f) l = d f
small_elim Q d u n (Answer.UnderWay r) l = u r
small_elim Q d u n Answer.NoRoom l = n
small_elim Q d u n Answer.BadOrder l = absurd (omega arith)
small_elim Q d u n Answer.BadFrame l = absurd (omega arith)
small_elim Q d u n Answer.Misaligned l = absurd (omega arith)
small_elim Q d u n Answer.NotTaken l = absurd (omega arith)
small_elim Q d u n Answer.BadCpu l = absurd (omega arith)
small_elim Q d u n Answer.BadBuffers l = absurd (omega arith)
small_elim Q d u n Answer.NotAZone l = absurd (omega arith)
small_elim Q d u n Answer.Closed l = absurd (omega arith)
small_elim Q d u n Answer.BadRecord l = absurd (omega arith)
small_elim Q d u n Answer.Damaged l = absurd (omega arith)
small_elim Q d u n Answer.NotSettled l = absurd (omega arith)
small_elim Q d u n Answer.BadSize l = absurd (omega arith)

module _ (n j : ℕ) (o : Order) (held lost : List Block) where
  -- nothing is under way
  pub record Rests (z : Zone) (hs : List Block) : Type 0 where
    pub cpus : ℕ → Cpu
    pub up : Up n z cpus hs lost
    pub rest : (i : ℕ) → cpus i ≡ resting

  -- CPU j's get is under way, and nothing else
  pub record Runs (z : Zone) (r : Record) : Type 0 where
    pub cpus : ℕ → Cpu
    pub up : Up n z cpus held lost
    pub in_table : j < length z.cpus
    pub idle : (i : ℕ) → j ≢ i → cpus i ≡ resting
    pub stage : Taking
    pub is : r ≡ Record.Get j stage
    pub latest : (cpus j).latest ≡ Record.Get j stage
    pub begun : (cpus j).begun ≡ getting o
    pub of : OfOrder stage o
    pub so : So (shaped n z) j o z stage

  -- where it has come to with an answer
  pub data Comes (z : Zone) (a : Answer) : Type 0 where
    got : (f : Frame) → a ≡ Answer.Done f → Rests z (block_at o f ∷ held) → AllIn n (block_at o f ∷ []) → (first_of (block_at o f)).0 ≡ f.0 → f.0 % size o ≡ 0 → Comes z a
    none : a ≡ Answer.NoRoom → Rests z held → ((t : ℕ) → t < trees_of (shaped n z) → Bare (shaped n z) j o z t) → Comes z a
    goes : (r : Record) → a ≡ Answer.UnderWay r → Runs z r → Comes z a

  module _ (z : Zone) (cs : ℕ → Cpu) (u : Up n z cs held lost) (l : j < length z.cpus) (d : (i : ℕ) → j ≢ i → cs i ≡ resting) (b : (cs j).begun ≡ getting o) where
    -- the CPUs after a step
    others : (c : Cpu) (i : ℕ) → j ≢ i → upd cs j c i ≡ resting
    others c i e = upd_other cs j c i e ∙ d i e

    all_rest : (i : ℕ) → upd cs j resting i ≡ resting
    all_rest i = elim (ℕ_discrete j i) [
      | yes e ↦ upd_at cs j resting i e
      | no e ↦ others resting i e
    ]

    -- the get goes on with a stage of its own
    going : (z' : Zone) → shaped n z ≡ shaped n z' → (m : Mark) (r : Record) → let c : Cpu = record { latest = r; begun = (cs j).begun; marks = m ∷ (cs j).marks } in
        Up n z' (upd cs j c) held lost → Agrees c → Proper (shaped n z) j r → Said n z cs held lost u j l o z' (Answer.UnderWay r) → Runs z' r
    going z' q m Record.Finished v a p h = let k : most idle ≡ most (getting o) = ap most (sym a.0 ∙ b) in absurd (omega arith)
    going z' q m (Record.Get i s) v a p h =
        let c : Cpu = record { latest = Record.Get i s; begun = (cs j).begun; marks = m ∷ (cs j).marks } in
        record {
          cpus = upd cs j c;
          up = v;
          in_table = subst (λ (g : Shape). j < g.cpus) q l;
          idle = others c;
          stage = s;
          is = ap (λ i. Record.Get i s) p.0;
          latest = ap (λ (x : Cpu). x.latest) (upd_at cs j c j refl) ∙ ap (λ i. Record.Get i s) p.0;
          begun = ap (λ (x : Cpu). x.begun) (upd_at cs j c j refl) ∙ b;
          of = subst (OfOrder s) (ap order_got (sym a.1 ∙ b)) a.2;
          so = subst (λ g. So g j o z' s) q h;
        }
    going z' q m (Record.Put i s) v a p h = let k : most (putting a.0) ≡ most (getting o) = ap most (sym a.1 ∙ b) in absurd (omega arith)
    going z' q m (Record.Create s) v a p h = absurd p
    going z' q m (Record.Open s) v a p h = absurd p

    -- where a step comes to
    abbrev Stepped : Zone → Mark → Answer → Type 0
    Stepped z' m a = Up n z' (upd cs j (answered (cs j) m a)) (handed (getting o) a ++ held) lost → Agrees (answered (cs j) m a) → Proper (shaped n z) j (record_of a) → AllIn n (handed (getting o) a) → Names (getting o) a → Said n z cs held lost u j l o z' a → Comes z' a

    comes : (z' : Zone) → shaped n z ≡ shaped n z' → (m : Mark) (a : Answer) → number a ≤ 2 → Stepped z' m a
    comes z' q m = small_elim (Stepped z' m)
        (λ f v a p i k h. got f refl (record { cpus = upd cs j resting; up = v; rest = all_rest }) i k h)
        (λ r v a p i k h. goes r refl (going z' q m r v a p h))
        (λ v a p i k h. none refl (record { cpus = upd cs j resting; up = v; rest = all_rest }) (subst (λ g. (t : ℕ) → t < trees_of g → Bare g j o z' t) q (h refl)))

  step_comes : (z : Zone) (r : Record) → Runs z r → Comes (after z (step z r)) (step z r).answer
  step_comes z r x = subst (λ r. Comes (after z (step z r)) (step z r).answer) (sym x.is) (
      let p : Plan = step z (Record.Get j x.stage) in
      let u : Up n z x.cpus held lost = x.up in
      let k = get_step n z x.cpus held lost u j x.in_table j x.stage refl x.latest in
      let f = k.fine in
      let b : (x.cpus j).begun ≡ getting o = x.begun in
      comes z x.cpus u x.in_table x.idle b (after z p) (ap (λ c. record { format = format1; huge = n; cpus = c }) (sym (as_many z p.store))) p.mark p.answer
      (subst (λ y. number p.answer ≤ most y) b f.small)
      (subst (λ y. Up n (after z p) (upd x.cpus j (answered (x.cpus j) p.mark p.answer)) (handed y p.answer ++ held) lost) b k.up)
      f.agrees f.proper
      (subst (λ y. AllIn n (handed y p.answer)) b f.inside)
      (subst (λ y. Names y p.answer) b f.names)
      (step_on n z x.cpus held lost u j x.in_table x.idle o x.stage x.latest x.of x.so))

  run_comes : (fuel k : ℕ) (a : Answer) (z : Zone) → Comes z a → Comes (follow step fuel k a z).zone (follow step fuel k a z).answer
  unfolding follow
  run_comes zero k a z x = x
  run_comes (suc fuel) k a z (got f e r i m h) = rw e (got f refl r i m h)
  run_comes (suc fuel) k a z (none e r h) = rw e (none refl r h)
  run_comes (suc fuel) k a z (goes r e x) = rw e (run_comes fuel (suc k) (step z r).answer (after z (step z r)) (step_comes z r x))

-- ---- the rule

-- a block's size divides a child
whole_of_lem : (s m : ℕ) → s * m ≡ word_bits → s * (child_words * m) ≡ child_frames
whole_of_lem s m e = omega arith

parts : (o : Order) → (m : ℕ) × (size o * m ≡ child_frames)
parts (Order.Run v) = (child_words * (word_bits / run_size v), whole_of_lem (run_size v) (word_bits / run_size v) (word_of_lem v))
parts Order.Nine = (1, omega arith)

size_at : (o : Order) (f : Frame) → size_of (block_at o f) ≡ size o
size_at (Order.Run v) f = refl
size_at Order.Nine f = refl

-- where every child is short no block is free
short_none : (n s m : ℕ) → s * m ≡ child_frames → (cs ws : List ℕ) → ((x : ℕ) → x < n → Short s cs ws x) → (f : ℕ) → f % s ≡ 0 → f + s ≤ child_frames * n → ((i : ℕ) → i < s → taken_in cs ws (f + i) ≡ 0) → ⊥
short_none n s m e cs ws h f a b q =
    let y : ℕ = f / s in
    let m+ : 0 < m = some_of m (λ z. let w : s * m ≡ 0 = ap (λ c. s * c) z ∙ mul-zero s in omega arith) in
    let s+ : 0 < s = some_of s (λ z. let w : s * m ≡ 0 = ap (λ c. c * m) z ∙ zero-mul m in omega arith) in
    let x : ℕ = y / m in
    let i : ℕ = y % m in
    let l : i < m = mod-lt y m+ in
    let p : x * m + i ≡ y = div-add-mod' y m in
    let d : y * s + f % s ≡ f = div-add-mod' f s in
    let c : f ≡ child_frames * x + s * i = omega (arith, ap (λ c. s * c) p, ap (λ c. x * c) e) in
    let w : s * i + s ≤ child_frames = omega (arith, mul-le-mul_right s l) in
    h x (omega arith) i w (λ k t. ap (taken_in cs ws) (omega arith) ∙ q k t)

module _ (n : ℕ) (z : Zone) (cs : ℕ → Cpu) (held lost : List Block) (u : Up n z cs held lost) (r : (i : ℕ) → cs i ≡ resting) (j : ℕ) (l : j < length z.cpus) (o : Order) where
  begun : Comes n j o held lost z (begin_get z j (order_number o)).answer
  unfolding begin_get taking_in low_of owed reserves taken sum_l
  begun =
      let c : Cpu = record { latest = Record.Get j (Taking.Own o); begun = getting o; marks = [] } in
      let e : begin_get z j (order_number o) ≡ says nothing (Answer.UnderWay (Record.Get j (Taking.Own (order_of (order_number o))))) = open_skips n z cs held lost u (bad_cpu z j ∷ bad_order (order_number o) ∷ []) _ ∙ guarded_none (bad_cpu z j ∷ bad_order (order_number o) ∷ []) _ (lt-leb (length z.cpus) j l, (ap not (order_again o).0, tt)) in
      goes (Record.Get j (Taking.Own o)) (ap (λ (p : Plan). p.answer) e ∙ ap (λ o. Answer.UnderWay (Record.Get j (Taking.Own o))) (order_again o).1) (record {
        cpus = upd cs j c;
        up = begun_up n z cs held lost u j l (r j) c held (o, refl, refl, refl) (refl, tt, tt) (λ x. refl) (λ x. refl) (λ x. refl) tt (λ w. add-zero _);
        in_table = l;
        idle = λ i e. upd_other cs j c i e ∙ r i;
        stage = Taking.Own o;
        is = refl;
        latest = ap (λ (x : Cpu). x.latest) (upd_at cs j c j refl);
        begun = ap (λ (x : Cpu). x.begun) (upd_at cs j c j refl);
        of = refl;
        so = tt;
      })

  ended : Comes n j o held lost (alone z j o).zone (alone z j o).answer
  ended = run_comes n j o held lost (most_get (shape_of z)) 0 _ z begun

  H : (shape_of z).huge ≡ n
  H = ap (λ (g : Shape). g.huge) (shape_is n z cs held lost u)

  in_zone : (i : ℕ) → i < frames z → i < child_frames * n
  in_zone i h = subst (λ k. i < child_frames * k) H h

  before : (i : ℕ) → i < child_frames * n → taken_at z i ≡ covered held i + covered lost i
  before = rest_taken n z cs held lost u r

  -- a block handed out: its frames were free, and are taken besides
  module _ (z' : Zone) (f : Frame) (x : Rests n j o held lost z' (block_at o f ∷ held)) (i : AllIn n (block_at o f ∷ [])) (m : (first_of (block_at o f)).0 ≡ f.0) where
    now : (k : ℕ) → k < child_frames * n → taken_at z' k ≡ taken_at z k + run (size o) f.0 k
    unfolding sum_l
    now k h = omega (arith, rest_taken n z' x.cpus (block_at o f ∷ held) lost x.up x.rest k h, before k h, ap (λ s. run s (first_of (block_at o f)).0 k) (size_at o f), ap (λ s. run (size o) s k) m)

    ends_in : f.0 + size o ≤ child_frames * n
    ends_in = omega (arith, block_ends n (block_at o f) i.0, size_at o f, m)

    was_free : f.0 % size o ≡ 0 → Free z o f.0
    was_free h = record {
      aligned = h;
      inside = subst (λ k. f.0 + size o ≤ child_frames * k) (sym H) ends_in;
      free = λ k l. omega (arith, now (f.0 + k) (omega (arith, ends_in)), taken_is n z' x.cpus (block_at o f ∷ held) lost x.up x.rest (f.0 + k) (omega (arith, ends_in)), taken_le z'.children z'.words (f.0 + k), run_in (size o) f.0 (f.0 + k) (omega arith) (omega arith));
    }

  -- no block handed out: the same frames are taken, and every tree is bare
  module _ (z' : Zone) (x : Rests n j o held lost z' held) (b : (t : ℕ) → t < trees_of (shaped n z') → Bare (shaped n z') j o z' t) where
    as_before : (k : ℕ) → k < child_frames * n → taken_at z' k ≡ taken_at z k
    as_before k h = rest_taken n z' x.cpus held lost x.up x.rest k h ∙ sym (before k h)

    short : (y : ℕ) → y < n → Short (size o) z'.children z'.words y
    short y h =
        let g : Shape = shaped n z' in
        subst (Short (size o) z'.children z'.words) (huge_is g (omega arith) y) (b (y / per_tree g) (tree_in_lem g (omega arith) y h) (y % per_tree g) (number_in g (omega arith) y h))

    none_free : NoneFree z o
    none_free f h =
        let l : f + size o ≤ child_frames * n = subst (λ k. f + size o ≤ child_frames * k) H h.inside in
        short_none n (size o) (parts o).0 (parts o).1 z'.children z'.words short f h.aligned l (λ i m. let k : f + i < child_frames * n = omega arith in sym (taken_is n z' x.cpus held lost x.up x.rest (f + i) k) ∙ as_before (f + i) k ∙ h.free i m)

  solo : Solo z j o
  solo = go ended
    where
      go : Comes n j o held lost (alone z j o).zone (alone z j o).answer → Solo z j o
      go (got f e x i m h) =
          let k : number (alone z j o).answer ≡ 0 = ap number e in
          let same : (y : Frame) → (alone z j o).answer ≡ Answer.Done y → f.0 ≡ y.0 = λ y q. ap frame_of (sym e ∙ q) in
          record {
            ends = inl k;
            none = λ q. absurd (omega arith);
            no_room = λ q. absurd (q f.0 (was_free (alone z j o).zone f x i m h));
            same = λ q. absurd (omega arith);
            block = λ y q. subst (Free z o) (same y q) (was_free (alone z j o).zone f x i m h);
            takes = λ y q c d. subst (λ s. taken_at (alone z j o).zone c ≡ taken_at z c + run (size o) s c) (same y q) (now (alone z j o).zone f x i m c (in_zone c d));
          }
      go (none e x h) =
          let k : number (alone z j o).answer ≡ 2 = ap number e in
          let other : (y : Frame) → (alone z j o).answer ≡ Answer.Done y → ⊥ = λ y q. let p : number (alone z j o).answer ≡ 0 = ap number q in omega arith in
          record {
            ends = inr k;
            none = λ q. none_free (alone z j o).zone x h;
            no_room = λ q. k;
            same = λ q c d. as_before (alone z j o).zone x h c (in_zone c d);
            block = λ y q. absurd (other y q);
            takes = λ y q. absurd (other y q);
          }
      go (goes y e x) = absurd (subst Ends e (bounds.get_run z j (order_number o)))

pub solo_rule : SoloRule
solo_rule = record { solo = λ n s w r j l o. let h = reached n s w in solo n s.zone s.cpus s.held s.lost (in_phase n s h ready r.0) r.1 j l o }
