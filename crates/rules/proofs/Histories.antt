-- Every state that a history reaches keeps the invariant of its phase.
use mathlib.Core.Path.{◌≡◌, refl, sym, ap, ◌∙◌, subst}
use mathlib.Core.Logic.{inl, inr}
use mathlib.Core.List.{List, [], ◌∷◌, ◌++◌}
use Prim.Native.Nat.{ℕ, zero, suc, ◌+◌, ◌≤◌, ◌<◌}
use native.Mathlib.Omega.{arith}
use native.Mathlib.Nat.{add-zero}
use lib.ListN.{length, get_or}
use borrow.Author.Tests.{leb-false}
use Rattle.laws.specs.Tests.{Passes}
use Rattle.laws.specs.Sum.{sum_l, upd}
use Rattle.laws.proofs.Sum.{upd_at, upd_twice}
use Rattle.rules.specs.Types.{Frame, Run, Order, Block, Taking, Giving, Record, Answer}
use Rattle.rules.specs.Numbers.{trees_of}
use Rattle.rules.specs.Conversions.{frame, huge}
use Rattle.rules.specs.Blocks.{first_of, block_at}
use Rattle.rules.specs.Answers.{number, by_answer, Next, ends, goes_on, next_of, by_next}
use Rattle.rules.specs.Zone.{Zone, shaped, nothing, stored}
use Rattle.rules.specs.Plan.{Mark, Plan, says, Refusal}
use Rattle.rules.specs.Ranges.{block_in, taking_in, giving_in}
use Rattle.rules.specs.Begin.{order_number, order_of, bad_cpu, bad_order, bad_frame, misaligned, begin_get, begin_put}
use Rattle.rules.specs.Step.{step, after}
use Rattle.rules.specs.Open.{open_zone, open_step, close_zone}
use Rattle.rules.specs.Events.{Begun, idle, getting, putting, Cpu, resting, taken, unless_cleared, lost_by, lost_all, Phase, ready, down, opening, State, without, Call, get, put, step_of, close, open_first, open_later, order_of_block, planned, marked_by, stored_by, handed, with_cpu, cut_off, answered_by, Event, call, cut, cut_in, after_cut, next, Called, Left, Admitted, Reach, start, then}
use Rattle.rules.proofs.Sizes.{order_again}
use Rattle.rules.proofs.Guards.{guarded_elim}
use Rattle.rules.proofs.Shares.{low_of, owed, reserves}
use Rattle.rules.proofs.Invariant.{BlockIn, AllIn, Up}
use Rattle.rules.proofs.Readings.{shape_is, open_skips}
use Rattle.rules.proofs.Phases.{Down, Op, still, down_huge}
use Rattle.rules.proofs.Turns.{Goes, first_goes, later_goes, cut_down, down_again, op_down, op_huge, begun_up, in_table, stepped, step_cut}
use Rattle.rules.proofs.Ends.{created_up, Closes, closes, close_down}

-- ---- the invariant of a state

abbrev pub Phased : ℕ → State → Phase → Type 0
Phased n s ready = Up n s.zone s.cpus s.held s.lost
Phased n s down = Down n s.zone s.held s.lost × (s.cpus ≡ still)
Phased n s (opening r) = Op n s.zone r s.held s.lost × (s.cpus ≡ still)

pub record Holds (n : ℕ) (s : State) : Type 0 where
  pub phased : Phased n s s.phase
  -- held blocks lie in the zone
  pub inside : AllIn n s.held

-- a state by its parts
abbrev pub made : Zone → (ℕ → Cpu) → Phase → List Block → List Block → State
made z cs p held lost = record { zone = z; cpus = cs; phase = p; held = held; lost = lost }

pub phase_is : (s : State) (p : Phase) → s.phase ≡ p → s ≡ made s.zone s.cpus p s.held s.lost
phase_is s p e = ap (λ q. made s.zone s.cpus q s.held s.lost) e

-- ---- lists of blocks

pub inside_at : (n : ℕ) (l : List Block) (i : ℕ) → i < length l → AllIn n l → BlockIn n (get_or l i (Block.Run Run.One (frame 0)))
inside_at n [] i h a = absurd (omega arith)
inside_at n (b ∷ l) zero h a = a.0
inside_at n (b ∷ l) (suc i) h a = inside_at n l i (omega arith) a.1

inside_without : (n : ℕ) (l : List Block) (i : ℕ) → AllIn n l → AllIn n (without l i)
unfolding without
inside_without n [] i a = tt
inside_without n (b ∷ l) zero a = a.1
inside_without n (b ∷ l) (suc i) a = (a.0, inside_without n l i a.1)

pub inside_append : (n : ℕ) (k l : List Block) → AllIn n k → AllIn n l → AllIn n (k ++ l)
inside_append n [] l a b = b
inside_append n (x ∷ k) l a b = (a.0, inside_append n k l a.1 b)

without_weighs : (w : Block → ℕ) (l : List Block) (i : ℕ) → i < length l → sum_l w (without l i) + sum_l w (get_or l i (Block.Run Run.One (frame 0)) ∷ []) ≡ sum_l w l
unfolding without sum_l
without_weighs w [] i h = absurd (omega arith)
without_weighs w (b ∷ l) zero h = omega arith
without_weighs w (b ∷ l) (suc i) h = omega (arith, without_weighs w l i (omega arith))

lost_still : (n : ℕ) → lost_all n still ≡ []
unfolding lost_all lost_by
lost_still zero = refl
lost_still (suc n) = lost_still n

-- a held block is put at the frame and order that it was got with
block_again : (b : Block) → block_at (order_of (order_number (order_of_block b))) (first_of b) ≡ b
block_again (Block.Run v f) = rw (order_again (Order.Run v)).1 refl
block_again (Block.Whole h) = rw (order_again Order.Nine).1 (ap (λ i. Block.Whole (huge i)) (omega arith))

block_passes : (n : ℕ) (z : Zone) (b : Block) → BlockIn n b → Passes (block_in (shaped n z) b)
block_passes n z (Block.Run v f) h = (h.0, (h.1, tt))
block_passes n z (Block.Whole x) h = (h, tt)

-- ---- answers

-- an answer is Done, or under way, or another
pub answer_elim : {A : Type 0} (Q : A → Type 0) (a : Answer) (d : ℕ → A) (u : Record → A) (e : A) → ((f : Frame) → a ≡ Answer.Done f → Q (d f.0)) → ((r : Record) → a ≡ Answer.UnderWay r → Q (u r)) → (2 ≤ number a → Q e) → Q (by_answer a d u e)
answer_elim Q (Answer.Done f) d u e x y z = x f refl
answer_elim Q (Answer.UnderWay r) d u e x y z = y r refl
answer_elim Q Answer.NoRoom d u e x y z = z (omega arith)
answer_elim Q Answer.BadOrder d u e x y z = z (omega arith)
answer_elim Q Answer.BadFrame d u e x y z = z (omega arith)
answer_elim Q Answer.Misaligned d u e x y z = z (omega arith)
answer_elim Q Answer.NotTaken d u e x y z = z (omega arith)
answer_elim Q Answer.BadCpu d u e x y z = z (omega arith)
answer_elim Q Answer.BadBuffers d u e x y z = z (omega arith)
answer_elim Q Answer.NotAZone d u e x y z = z (omega arith)
answer_elim Q Answer.Closed d u e x y z = z (omega arith)
answer_elim Q Answer.BadRecord d u e x y z = z (omega arith)
answer_elim Q Answer.Damaged d u e x y z = z (omega arith)
answer_elim Q Answer.NotSettled d u e x y z = z (omega arith)
answer_elim Q Answer.BadSize d u e x y z = z (omega arith)

-- a get that goes on is handed nothing
pub goes_handed : (b : Begun) (a : Answer) (r : Record) → next_of a ≡ goes_on r → handed b a ≡ []
goes_handed idle a r e = refl
goes_handed (getting o) a r e = answer_elim (λ x. x ≡ []) a (λ f. block_at o (frame f) ∷ []) (λ r. []) [] (λ f q. let k : ◌≡◌ {A = ℕ} 0 1 = ap (λ x. by_next x 0 (λ r. 1)) (sym (ap next_of q) ∙ e) in absurd (omega arith)) (λ q h. refl) (λ h. refl)
goes_handed (putting b) a r e = refl

-- ---- beginnings

module _ (n : ℕ) (z : Zone) (cs : ℕ → Cpu) (held lost : List Block) (u : Up n z cs held lost) (a : AllIn n held) where
  abbrev S : State
  S = made z cs ready held lost

  same : Holds n S
  same = record { phased = u; inside = a }

  get_call_lem : (j o : ℕ) → cs j ≡ resting → Holds n (next S (call (get j o)))
  unfolding next planned answered_by begin_get stored taking_in low_of owed reserves taken sum_l
  get_call_lem j o e =
      let Q : Plan → Type 0 = λ (p : Plan). Holds n (answered_by (made (after z p) cs ready held lost) (get j o) p.answer) in
      subst Q (sym (open_skips n z cs held lost u (bad_cpu z j ∷ bad_order o ∷ []) _)) (guarded_elim Q (bad_cpu z j ∷ bad_order o ∷ []) _ (same, (same, tt)) (λ m. record {
        phased = begun_up n z cs held lost u j (leb-false (length z.cpus) j m.0) e (record { latest = Record.Get j (Taking.Own (order_of o)); begun = getting (order_of o); marks = [] }) held (order_of o, refl, refl, refl) (refl, tt, tt) (λ x. refl) (λ x. refl) (λ x. refl) tt (λ w. add-zero _);
        inside = a;
      }))

  put_call_lem : (j i : ℕ) → cs j ≡ resting → i < length held → Holds n (next S (call (put j i)))
  unfolding next planned answered_by begin_put stored giving_in low_of owed reserves unless_cleared
  put_call_lem j i e h =
      let b : Block = get_or held i (Block.Run Run.One (frame 0)) in
      let k : ℕ = order_number (order_of_block b) in
      let l : List Refusal = bad_cpu z j ∷ (bad_order k ∷ (bad_frame z (first_of b) ∷ (misaligned k (first_of b) ∷ []))) in
      let Q : Plan → Type 0 = λ (p : Plan). Holds n (answered_by (made (after z p) cs ready held lost) (put j i) p.answer) in
      subst Q (sym (open_skips n z cs held lost u l _)) (guarded_elim Q l _ (same, (same, (same, (same, tt)))) (λ m.
      subst (λ x. Q (says nothing (Answer.UnderWay (Record.Put j (Giving.Clear x))))) (sym (block_again b)) (record {
        phased = begun_up n z cs held lost u j (leb-false (length z.cpus) j m.0) e (record { latest = Record.Put j (Giving.Clear b); begun = putting b; marks = [] }) (without held i) (b, refl, refl) (refl, block_passes n z b (inside_at n held i h a)) (λ x. refl) (λ x. refl) (λ x. refl) tt (λ w. without_weighs w held i h);
        inside = inside_without n held i a;
      })))

  -- ---- steps

  step_call_lem : (j : ℕ) → (cs j ≡ resting → ⊥) → Holds n (next S (call (step_of j)))
  unfolding next planned answered_by
  step_call_lem j b =
      let l : j < length z.cpus = in_table n z cs held lost u j b in
      let p : Plan = step z (cs j).latest in
      let k = stepped n z cs held lost u j l b in
      let c : Cpu = record { latest = (cs j).latest; begun = (cs j).begun; marks = p.mark ∷ (cs j).marks } in
      rw (upd_at cs j c j refl) (go (after z p) c (next_of p.answer) (handed (cs j).begun p.answer) (goes_handed (cs j).begun p.answer) k.up k.fine.inside)
    where
      go : (z' : Zone) (c : Cpu) (x : Next) (hs : List Block) → ((r : Record) → x ≡ goes_on r → hs ≡ []) → Up n z' (upd cs j (by_next x resting (λ r. record { latest = r; begun = c.begun; marks = c.marks }))) (hs ++ held) lost → AllIn n hs
          → Holds n (by_next x (with_cpu (made z' (upd cs j c) ready held lost) j resting (hs ++ held)) (λ r. with_cpu (made z' (upd cs j c) ready held lost) j (record { latest = r; begun = c.begun; marks = c.marks }) held))
      go z' c ends hs q v i = record { phased = subst (λ f. Up n z' f (hs ++ held) lost) (sym (upd_twice cs j c resting)) v; inside = inside_append n hs held i a }
      go z' c (goes_on r) hs q v i =
          let d : Cpu = record { latest = r; begun = c.begun; marks = c.marks } in
          record { phased = subst (λ f. Up n z' f held lost) (sym (upd_twice cs j c d)) (subst (λ h. Up n z' (upd cs j d) (h ++ held) lost) (q r refl) v); inside = a }

  -- ---- closes

  close_call_lem : Holds n (next S (call close))
  unfolding next planned answered_by stored
  close_call_lem = go (closes n z cs held lost u)
    where
      go : Closes n z cs held lost u (close_zone z) → Holds n (answered_by (stored_by S close) close (close_zone z).answer)
      go (inl e) = rw e.0 (record { phased = (close_down n z cs held lost u e.1, refl); inside = a })
      go (inr e) = answer_elim (Holds n) (close_zone z).answer (λ f. cut_off (stored_by S close) (stored_by S close).zone) (λ r. stored_by S close) (stored_by S close) (λ f q. let k : number (close_zone z).answer ≡ 0 = ap number q in absurd (omega (arith, e.0))) (λ r q. let k : number (close_zone z).answer ≡ 1 = ap number q in absurd (omega (arith, e.0))) (λ q. rw e.1 same)

  -- ---- cuts

  module _ (ts es : List ℕ) (left : Left S ts es) where
    right : length ts ≡ trees_of (shaped n z)
    right = left.trees ∙ ap trees_of (shape_is n z cs held lost u)

    cut_same : Holds n (after_cut S ts es)
    cut_same = record { phased = (cut_down n z cs held lost u ts es right left.some left.most, refl); inside = a }

    -- a call that stores nothing
    cut_looked : (c : Call) → (planned S c).store ≡ nothing → ((m : Mark) → marked_by S c m ≡ cs) → Holds n (next S (cut_in c ts es))
    unfolding next stored
    cut_looked c e q = rw (e, q (planned S c).mark) cut_same

    -- a beginning stores nothing
    cut_get : (j o : ℕ) → Holds n (next S (cut_in (get j o) ts es))
    unfolding planned begin_get
    cut_get j o = cut_looked (get j o) (guarded_elim (λ (p : Plan). p.store ≡ nothing) _ _ (refl, (refl, (refl, (refl, (refl, (refl, tt)))))) (λ m. refl)) (λ m. refl)

    cut_put : (j i : ℕ) → Holds n (next S (cut_in (put j i) ts es))
    unfolding planned begin_put
    cut_put j i = cut_looked (put j i) (guarded_elim (λ (p : Plan). p.store ≡ nothing) _ _ (refl, (refl, (refl, (refl, (refl, (refl, (refl, (refl, tt)))))))) (λ m. refl)) (λ m. refl)

    cut_step : (j : ℕ) → (cs j ≡ resting → ⊥) → Holds n (next S (cut_in (step_of j) ts es))
    unfolding next planned
    cut_step j b =
        let l : j < length z.cpus = in_table n z cs held lost u j b in
        record { phased = (step_cut n z cs held lost u j l (cs j).latest refl (step z (cs j).latest) (stepped n z cs held lost u j l b) ts es right left.some left.most, refl); inside = a }

    cut_close : Holds n (next S (cut_in close ts es))
    unfolding next planned stored
    cut_close = go (closes n z cs held lost u)
      where
        go : Closes n z cs held lost u (close_zone z) → Holds n (after_cut (stored_by S close) ts es)
        go (inl e) = rw e.0 (record { phased = (down_again n _ held _ (close_down n z cs held lost u e.1) ts es right left.some left.most, refl); inside = a })
        go (inr e) = rw e.1 cut_same

-- ---- after a cut or a close, and inside an open

lost_none : (n : ℕ) (lost : List Block) → lost_all n still ++ lost ≡ lost
lost_none n lost = ap (λ l. l ++ lost) (lost_still n)

module _ (n : ℕ) (z : Zone) (held lost : List Block) (a : AllIn n held) where
  -- the state after a step of an open, by its answer
  open_goes : (z' : Zone) (x : Answer) (p : Phase) → Goes n z' x held lost → Holds n (answered_by (made z' still p held lost) open_later x)
  unfolding answered_by
  open_goes z' x p (inl q) = rw q.1 (record { phased = (q.2, refl); inside = a })
  open_goes z' x p (inr q) = rw q.0 (record { phased = q.1; inside = a })

  module _ (d : Down n z held lost) where
    first_call : Holds n (next (made z still down held lost) (call open_first))
    unfolding next planned answered_by
    first_call = let q = first_goes n z held lost d in rw q.1 (record { phased = (q.2, refl); inside = a })

    module _ (ts es : List ℕ) (left : Left (made z still down held lost) ts es) where
      right_down : length ts ≡ trees_of (shaped n z)
      right_down = left.trees ∙ ap (λ k. trees_of (shaped k z)) (down_huge n z held lost d)

      down_cut : Holds n (next (made z still down held lost) (cut ts es))
      unfolding next
      down_cut = rw (lost_none (length z.cpus) lost) (record { phased = (down_again n z held lost d ts es right_down left.some left.most, refl); inside = a })

      first_cut : Holds n (next (made z still down held lost) (cut_in open_first ts es))
      unfolding next planned trees_of
      first_cut = let q = first_goes n z held lost d in rw (lost_none (length (after z (open_zone z)).cpus) lost) (record { phased = (op_down n _ q.0 held lost q.2 ts es right_down left.some left.most, refl); inside = a })

  module _ (r : Record) (o : Op n z r held lost) where
    later_call : Holds n (next (made z still (opening r) held lost) (call open_later))
    unfolding next planned
    later_call = open_goes _ _ (opening r) (later_goes n z r held lost o)

    module _ (ts es : List ℕ) (left : Left (made z still (opening r) held lost) ts es) where
      right_op : length ts ≡ trees_of (shaped n z)
      right_op = left.trees ∙ ap (λ k. trees_of (shaped k z)) (op_huge n z r held lost o)

      op_cut : Holds n (next (made z still (opening r) held lost) (cut ts es))
      unfolding next
      op_cut = rw (lost_none (length z.cpus) lost) (record { phased = (op_down n z r held lost o ts es right_op left.some left.most, refl); inside = a })

      later_cut : Holds n (next (made z still (opening r) held lost) (cut_in open_later ts es))
      unfolding next planned trees_of
      later_cut = go (later_goes n z r held lost o)
        where
          z' : Zone
          z' = after z (open_step z r)

          go : Goes n z' (open_step z r).answer held lost → Holds n (after_cut (made z' still (opening r) held lost) ts es)
          go (inl q) = rw (lost_none (length z'.cpus) lost) (record { phased = (op_down n z' q.0 held lost q.2 ts es right_op left.some left.most, refl); inside = a })
          go (inr q) = record { phased = (cut_down n z' still held lost q.1 ts es right_op left.some left.most, refl); inside = a }

-- ---- any event

-- the phase of an admitted call
module _ (n : ℕ) (s : State) (h : Holds n s) where
  -- what holds of a state in phase p holds of s
  pub at_phase : (p : Phase) (e : s.phase ≡ p) (Q : State → Type 0) → Q (made s.zone s.cpus p s.held s.lost) → Q s
  at_phase p e Q x = subst Q (sym (phase_is s p e)) x

  pub in_phase : (p : Phase) → s.phase ≡ p → Phased n s p
  in_phase p e = subst (Phased n s) e h.phased

  -- outside an open zone nothing is under way
  pub at_still : (p : Phase) (e : s.phase ≡ p) → s.cpus ≡ still → (Q : State → Type 0) → Q (made s.zone still p s.held s.lost) → Q s
  at_still p e q Q x = at_phase p e Q (subst (λ c. Q (made s.zone c p s.held s.lost)) (sym q) x)

  called : (c : Call) → Called s c → Holds n (next s (call c))
  called (get j o) (e, i) = at_phase ready e (λ x. Holds n (next x (call (get j o)))) (get_call_lem n _ _ _ _ (in_phase ready e) h.inside j o i)
  called (put j k) (e, i, m) = at_phase ready e (λ x. Holds n (next x (call (put j k)))) (put_call_lem n _ _ _ _ (in_phase ready e) h.inside j k i m)
  called (step_of j) (e, i) = at_phase ready e (λ x. Holds n (next x (call (step_of j)))) (step_call_lem n _ _ _ _ (in_phase ready e) h.inside j i)
  called close e = at_phase ready e (λ x. Holds n (next x (call close))) (close_call_lem n _ _ _ _ (in_phase ready e) h.inside)
  called open_first e = let d = in_phase down e in at_still down e d.1 (λ x. Holds n (next x (call open_first))) (first_call n _ _ _ h.inside d.0)
  called open_later (r, e) = let o = in_phase (opening r) e in at_still (opening r) e o.1 (λ x. Holds n (next x (call open_later))) (later_call n _ _ _ h.inside r o.0)

  -- what a cut may leave does not hang on phase and CPUs
  left_at : (ts es : List ℕ) → Left s ts es → (p : Phase) (cs : ℕ → Cpu) → Left (made s.zone cs p s.held s.lost) ts es
  left_at ts es l p cs = record { trees = l.trees; some = l.some; most = l.most }

  cut_any : (ts es : List ℕ) → Left s ts es → Holds n (next s (cut ts es))
  unfolding next
  cut_any ts es l = go s.phase refl
    where
      go : (p : Phase) → s.phase ≡ p → Holds n (after_cut s ts es)
      go ready e = at_phase ready e (λ x. Holds n (after_cut x ts es)) (cut_same n _ _ _ _ (in_phase ready e) h.inside ts es (left_at ts es l ready _))
      go down e = let d = in_phase down e in at_still down e d.1 (λ x. Holds n (after_cut x ts es)) (down_cut n _ _ _ h.inside d.0 ts es (left_at ts es l down _))
      go (opening r) e = let o = in_phase (opening r) e in at_still (opening r) e o.1 (λ x. Holds n (after_cut x ts es)) (op_cut n _ _ _ h.inside r o.0 ts es (left_at ts es l (opening r) _))

  cut_in_lem : (c : Call) (ts es : List ℕ) → Called s c → Left s ts es → Holds n (next s (cut_in c ts es))
  cut_in_lem c ts es q l = go c q
    where
      go : (c : Call) → Called s c → Holds n (next s (cut_in c ts es))
      go (get j o) (e, i) = at_phase ready e (λ x. Holds n (next x (cut_in (get j o) ts es))) (cut_get n _ _ _ _ (in_phase ready e) h.inside ts es (left_at ts es l ready _) j o)
      go (put j k) (e, i, m) = at_phase ready e (λ x. Holds n (next x (cut_in (put j k) ts es))) (cut_put n _ _ _ _ (in_phase ready e) h.inside ts es (left_at ts es l ready _) j k)
      go (step_of j) (e, i) = at_phase ready e (λ x. Holds n (next x (cut_in (step_of j) ts es))) (cut_step n _ _ _ _ (in_phase ready e) h.inside ts es (left_at ts es l ready _) j i)
      go close e = at_phase ready e (λ x. Holds n (next x (cut_in close ts es))) (cut_close n _ _ _ _ (in_phase ready e) h.inside ts es (left_at ts es l ready _))
      go open_first e = let d = in_phase down e in at_still down e d.1 (λ x. Holds n (next x (cut_in open_first ts es))) (first_cut n _ _ _ h.inside d.0 ts es (left_at ts es l down _))
      go open_later (r, e) = let o = in_phase (opening r) e in at_still (opening r) e o.1 (λ x. Holds n (next x (cut_in open_later ts es))) (later_cut n _ _ _ h.inside r o.0 ts es (left_at ts es l (opening r) _))

  pub event : (e : Event) → Admitted s e → Holds n (next s e)
  event (call c) q = called c q
  event (cut ts es) q = cut_any ts es q
  event (cut_in c ts es) q = cut_in_lem c ts es q.0 q.1

pub reached : (n : ℕ) (s : State) → Reach n s → Holds n s
reached n s (start z f) = record { phased = created_up n z f; inside = tt }
reached n s (then {s = x} e r a) = event n x (reached n x r) e a
