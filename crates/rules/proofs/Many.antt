-- Many steps in one call are that many events: one law for steps and for the later steps of an open, by the fuel.
use mathlib.Core.Path.{◌≡◌, refl, sym, ap, ◌∙◌, subst}
use mathlib.Core.List.{List, [], ◌∷◌, ◌++◌}
use Prim.Native.Nat.{ℕ, zero, suc, ◌+◌, ◌-◌, ◌≤◌, ◌<◌}
use native.Mathlib.Omega.{arith}
use Rattle.laws.proofs.Sum.{upd_at}
use Rattle.rules.specs.Types.{Frame, Block, Record, Answer}
use Rattle.rules.specs.Answers.{number, Next, ends, goes_on, next_of, by_next, record_of}
use Rattle.rules.specs.Numbers.{trees_of}
use Rattle.rules.specs.Zone.{Zone, shape_of, stored}
use Rattle.rules.specs.Plan.{Mark, Plan}
use Rattle.rules.specs.Begin.{order_number, order_of, begin_get, begin_put}
use Rattle.rules.specs.Blocks.{first_of}
use Rattle.rules.specs.Step.{step, after, Ran, ran, follow, runs, search_steps, most_get}
use Rattle.rules.specs.Open.{open_step}
use Rattle.rules.specs.Bounds.{left, Ends}
use Rattle.rules.specs.Events.{Begun, idle, getting, putting, Cpu, resting, ready, opening, State, cpus_of, held_at, Call, get, put, step_of, close, open_first, open_later, order_of_block, open_record, planned, stored_by, handed, with_cpu, with_phase, answered_by, call, next, Called, Reach, then}
use Rattle.rules.specs.Promise.{most_steps}
use Rattle.rules.specs.Exhibit.{history, times}
use Rattle.rules.specs.Many.{last_answer, AsEvents, CpuRun, OpenRun, get_bound, Many}
use Rattle.rules.proofs.Guards.{guarded_elim}
use Rattle.rules.proofs.Bounds.{run_ends, bounds}
use Rattle.rules.proofs.Lengths.{left_soon}
use Rattle.rules.proofs.Shares.{AgreesWith, Agrees}
use Rattle.rules.proofs.Histories.{reached, in_phase, answer_elim, goes_handed}
use Rattle.rules.proofs.Demand.{demand3}

-- ---- answers that go on

pub goes_is : (a : Answer) (r : Record) → next_of a ≡ goes_on r → a ≡ Answer.UnderWay r
goes_is a r = answer_elim (λ (x : Next). x ≡ goes_on r → a ≡ Answer.UnderWay r) a (λ f. ends) goes_on ends
    (λ f e p. let k : ◌≡◌ {A = ℕ} 0 1 = cc in absurd (omega arith))
    (λ q e p. let k : q ≡ r = cc in e ∙ ap Answer.UnderWay k)
    (λ h p. let k : ◌≡◌ {A = ℕ} 0 1 = cc in absurd (omega arith))

-- ---- what a call leaves

module _ (s : State) where
  pub zone_is : (c : Call) → (next s (call c)).zone ≡ after s.zone (planned s c)
  unfolding next answered_by
  zone_is c = go c (planned s c).answer
    where
      by : (x : Next) (y a : State) (f : Record → State) → a.zone ≡ y.zone → ((r : Record) → (f r).zone ≡ y.zone) → (by_next x a f).zone ≡ y.zone
      by ends y a f p q = p
      by (goes_on r) y a f p q = q r

      go : (d : Call) (a : Answer) → (answered_by (stored_by s c) d a).zone ≡ (stored_by s c).zone
      go (get j o) a = by (next_of a) (stored_by s c) _ _ refl (λ r. refl)
      go (put j i) a = by (next_of a) (stored_by s c) _ _ refl (λ r. refl)
      go (step_of j) a = by (next_of a) (stored_by s c) _ _ refl (λ r. refl)
      go close a = answer_elim (λ (x : State). x.zone ≡ (stored_by s c).zone) a _ _ _ (λ f q. refl) (λ r q. refl) (λ q. refl)
      go open_first a = by (next_of a) (stored_by s c) _ _ refl (λ r. refl)
      go open_later a = answer_elim (λ (x : State). x.zone ≡ (stored_by s c).zone) a _ _ _ (λ f q. refl) (λ r q. refl) (λ q. refl)

-- a CPU after an answer to its step
abbrev cpu_after : Cpu → Mark → Next → Cpu
cpu_after c m x = by_next x resting (λ r. record { latest = r; begun = c.begun; marks = m ∷ c.marks })

-- what a step's answer x, with hs handed out, makes of state s
record Left (s : State) (j : ℕ) (m : Mark) (x : Next) (hs : List Block) (e : State) : Type 0 where
  pub cpu : e.cpus j ≡ cpu_after (s.cpus j) m x
  pub phase : e.phase ≡ s.phase
  pub held : e.held ≡ hs ++ s.held

module _ (s : State) (j : ℕ) where
  abbrev p : Plan
  p = planned s (step_of j)

  step_leaves : Left s j p.mark (next_of p.answer) (handed (s.cpus j).begun p.answer) (next s (call (step_of j)))
  unfolding next answered_by
  step_leaves = rw (upd_at s.cpus j c j refl) (go (next_of p.answer) (handed (s.cpus j).begun p.answer) (goes_handed (s.cpus j).begun p.answer))
    where
      c : Cpu
      c = record { latest = (s.cpus j).latest; begun = (s.cpus j).begun; marks = p.mark ∷ (s.cpus j).marks }

      x : State
      x = stored_by s (step_of j)

      go : (y : Next) (hs : List Block) → ((r : Record) → y ≡ goes_on r → hs ≡ []) → Left s j p.mark y hs (by_next y (with_cpu x j resting (hs ++ s.held)) (λ r. with_cpu x j (record { latest = r; begun = c.begun; marks = c.marks }) s.held))
      go ends hs q = record { cpu = upd_at x.cpus j _ j refl; phase = refl; held = refl }
      go (goes_on r) hs q = record { cpu = upd_at x.cpus j _ j refl; phase = refl; held = sym (ap (λ (l : List Block). l ++ s.held) (q r refl)) }

  pub step_latest : ((next s (call (step_of j))).cpus j).latest ≡ record_of p.answer
  step_latest = ap (λ (c : Cpu). c.latest) step_leaves.cpu ∙ go (next_of p.answer)
    where
      go : (x : Next) → (cpu_after (s.cpus j) p.mark x).latest ≡ by_next x Record.Finished (λ r. r)
      go ends = refl
      go (goes_on r) = refl

  step_begun : (r : Record) → next_of p.answer ≡ goes_on r → ((next s (call (step_of j))).cpus j).begun ≡ (s.cpus j).begun
  step_begun r e = ap (λ (c : Cpu). c.begun) (step_leaves.cpu ∙ ap (cpu_after (s.cpus j) p.mark) e)

-- a CPU that is not idle has begun something
busy : (c : Cpu) → Agrees c → (c ≡ resting → ⊥) → c.begun ≡ idle → ⊥
busy c a b e = go c.latest refl a
  where
    go : (r : Record) → c.latest ≡ r → AgreesWith c.begun c.marks r → ⊥
    go Record.Finished q h = b (ap (λ r. record { latest = r; begun = c.begun; marks = c.marks }) q ∙ (ap (λ x. record { latest = Record.Finished; begun = x; marks = c.marks }) e ∙ ap (λ m. record { latest = Record.Finished; begun = idle; marks = m }) h.1))
    go (Record.Get i s) q h = let f = h.1 in let k : ◌≡◌ {A = ℕ} 0 1 = cc in omega arith
    go (Record.Put i s) q h = let f = h.1 in let k : ◌≡◌ {A = ℕ} 0 1 = cc in omega arith
    go (Record.Create y) q h = h
    go (Record.Open y) q h = h

-- ---- a call that goes on by its record: as many events as steps

module _ (n : ℕ) (c : Call) (f : Zone → Record → Plan) (of : State → Record) (plan : (s : State) → planned s c ≡ f s.zone (of s)) (Q : Answer → State → Type 0)
    (on : (s : State) → Reach n s → Called s c → (a : Answer) (q : Record) → next_of a ≡ goes_on q → Q a s → Q (planned s c).answer (next s (call c)) × ((r : Record) → next_of (planned s c).answer ≡ goes_on r → Called (next s (call c)) c × (of (next s (call c)) ≡ r))) where
  -- a run after the answer a, when k steps were made before it
  record Goes (fuel k : ℕ) (s : State) (a : Answer) (x : Ran) : Type 0 where
    pub made : ℕ
    pub steps : x.steps ≡ k + made
    pub few : made ≤ fuel
    pub admitted : (i : ℕ) → i < made → Called (history (times i c) s) c
    pub reach : Reach n (history (times made c) s)
    pub zone : x.zone ≡ (history (times made c) s).zone
    pub answer : x.answer ≡ last_answer a c s made
    pub stops : made < fuel → Ends x.answer
    pub said : Q x.answer (history (times made c) s)

  none : (fuel k : ℕ) (s : State) (a : Answer) → Reach n s → Q a s → (0 < fuel → Ends a) → Goes fuel k s a (ran a k s.zone)
  unfolding history
  none fuel k s a r q h = record { made = 0; steps = omega arith; few = omega arith; admitted = λ i l. absurd (omega arith); reach = r; zone = refl; answer = refl; stops = h; said = q }

  last_on : (s : State) (a : Answer) (m : ℕ) → last_answer (planned s c).answer c (next s (call c)) m ≡ last_answer a c s (suc m)
  unfolding history
  last_on s a zero = refl
  last_on s a (suc m) = refl

  one_more : (fuel k : ℕ) (s : State) (a : Answer) (x : Ran) → Called s c → Goes fuel (suc k) (next s (call c)) (planned s c).answer x → Goes (suc fuel) k s a x
  unfolding history
  one_more fuel k s a x w g = record {
    made = suc g.made;
    steps = omega arith;
    few = omega arith;
    admitted = before;
    reach = g.reach;
    zone = g.zone;
    answer = g.answer ∙ last_on s a g.made;
    stops = λ l. g.stops (omega arith);
    said = g.said;
  }
    where
      before : (i : ℕ) → i < suc g.made → Called (history (times i c) s) c
      before zero l = w
      before (suc i) l = g.admitted i (omega arith)

  goes : (fuel k : ℕ) (s : State) (a : Answer) → Reach n s → Q a s → ((r : Record) → next_of a ≡ goes_on r → Called s c × (of s ≡ r)) → Goes fuel k s a (follow f fuel k a s.zone)
  unfolding follow
  goes zero k s a r q h = none zero k s a r q (λ l. absurd (omega arith))
  goes (suc fuel) k s a r q h = go (next_of a) refl (λ w x t. goes fuel (suc k) (next s (call c)) (planned s c).answer (then (call c) r w) x t)
    where
      go : (y : Next) → next_of a ≡ y
          → ((w : Called s c) → Q (planned s c).answer (next s (call c)) → ((r : Record) → next_of (planned s c).answer ≡ goes_on r → Called (next s (call c)) c × (of (next s (call c)) ≡ r)) → Goes fuel (suc k) (next s (call c)) (planned s c).answer (follow f fuel (suc k) (planned s c).answer (next s (call c)).zone))
          → Goes (suc fuel) k s a (by_next y (ran a k s.zone) (λ r. let p : Plan = f s.zone r in follow f fuel (suc k) p.answer (after s.zone p)))
      go ends e ih = none (suc fuel) k s a r q (λ l. rw e tt)
      go (goes_on b) e ih =
          let w = h b e in
          let o = on s r w.0 a b e q in
          let G : Ran → Type 0 = Goes fuel (suc k) (next s (call c)) (planned s c).answer in
          one_more fuel k s a _ w.0 (subst (λ (p : Plan). G (follow f fuel (suc k) p.answer (after s.zone p))) (plan s ∙ ap (f s.zone) w.1) (subst (λ z. G (follow f fuel (suc k) (planned s c).answer z)) (zone_is s c) (ih w.0 o.0 o.1)))

  pub as_events : (fuel : ℕ) (s : State) (a : Answer) → Reach n s → Q a s → ((r : Record) → next_of a ≡ goes_on r → Called s c × (of s ≡ r)) → (x : Ran) → follow f fuel 0 a s.zone ≡ x → AsEvents n fuel c s a x × Q x.answer (history (times x.steps c) s)
  as_events fuel s a r q h x e =
      let g = subst (Goes fuel 0 s a) e (goes fuel 0 s a r q h) in
      let m : g.made ≡ x.steps = omega arith in (
        record {
          few = omega (arith, g.few);
          admitted = λ i l. g.admitted i (omega arith);
          reached = subst (λ k. Reach n (history (times k c) s)) m g.reach;
          zone = subst (λ k. x.zone ≡ (history (times k c) s).zone) m g.zone;
          answer = subst (λ k. x.answer ≡ last_answer a c s k) m g.answer;
          stops = λ l. g.stops (omega arith);
        },
        subst (λ k. Q x.answer (history (times k c) s)) m g.said,
      )

-- ---- the steps of a get or put

module _ (n j : ℕ) (b : Begun) (held : List Block) where
  -- what an answer says of CPU j, which began b, and of the held blocks
  record Said (a : Answer) (s : State) : Type 0 where
    pub latest : (s.cpus j).latest ≡ record_of a
    pub begun : (r : Record) → next_of a ≡ goes_on r → (s.cpus j).begun ≡ b
    pub handing : s.held ≡ handed b a ++ held

  step_on : (s : State) → Reach n s → Called s (step_of j) → (a : Answer) (q : Record) → next_of a ≡ goes_on q → Said a s
      → Said (planned s (step_of j)).answer (next s (call (step_of j))) × ((r : Record) → next_of (planned s (step_of j)).answer ≡ goes_on r → Called (next s (call (step_of j))) (step_of j) × (((next s (call (step_of j))).cpus j).latest ≡ r))
  step_on s w (e, i) a q g d =
      let u = in_phase n s (reached n s w) ready e in
      let same : (s.cpus j).begun ≡ b = d.begun q g in
      let here : s.held ≡ held = d.handing ∙ ap (λ (l : List Block). l ++ held) (goes_handed b a q g) in (
        record {
          latest = step_latest s j;
          begun = λ r m. step_begun s j r m ∙ same;
          handing = (step_leaves s j).held ∙ (ap (λ x. handed x (planned s (step_of j)).answer ++ s.held) same ∙ ap (λ (l : List Block). handed b (planned s (step_of j)).answer ++ l) here);
        },
        λ r m. (((step_leaves s j).phase ∙ e, λ t. busy (s.cpus j) (u.agrees j) i (sym (step_begun s j r m) ∙ ap (λ (c : Cpu). c.begun) t)), step_latest s j ∙ ap (λ x. by_next x Record.Finished (λ r. r)) m),
      )

  cpu_run : (fuel : ℕ) (s : State) (a : Answer) (z : Zone) → s.zone ≡ z → Reach n s → Said a s → ((r : Record) → next_of a ≡ goes_on r → Called s (step_of j) × ((s.cpus j).latest ≡ r)) → AsEvents n fuel (step_of j) s a (follow step fuel 0 a z) × Said (follow step fuel 0 a z).answer (history (times (follow step fuel 0 a z).steps (step_of j)) s)
  unfolding planned
  cpu_run fuel s a z e r d h = as_events n (step_of j) step (λ s. (s.cpus j).latest) (λ s. refl) Said step_on fuel s a r d h (follow step fuel 0 a z) (ap (follow step fuel 0 a) e)

module _ (n : ℕ) (s : State) (r : Reach n s) (j : ℕ) where
  -- from a state whose CPU j stands as the answer says
  run_from : (fuel : ℕ) (a : Answer) (z : Zone) → s.zone ≡ z → (s.cpus j).latest ≡ record_of a → handed (s.cpus j).begun a ≡ [] → ((q : Record) → next_of a ≡ goes_on q → Called s (step_of j)) → CpuRun n fuel j s a (follow step fuel 0 a z)
  run_from fuel a z e l t h =
      let k = cpu_run n j (s.cpus j).begun s.held fuel s a z e r (record { latest = l; begun = λ q m. refl; handing = sym (ap (λ (x : List Block). x ++ s.held) t) }) (λ q m. (h q m, l ∙ ap (λ x. by_next x Record.Finished (λ r. r)) m)) in
      record { events = k.0; latest = k.1.latest; held = k.1.handing }

steps_run : (n : ℕ) (s : State) → Reach n s → (j : ℕ) → Called s (step_of j) → (fuel : ℕ) → CpuRun n fuel j s (Answer.UnderWay (s.cpus j).latest) (follow step fuel 0 (Answer.UnderWay (s.cpus j).latest) s.zone)
steps_run n s r j c fuel = run_from n s r j fuel _ s.zone refl refl (goes_handed (s.cpus j).begun (Answer.UnderWay (s.cpus j).latest) (s.cpus j).latest refl) (λ q m. c)

-- ---- beginnings

-- a CPU after the answer to its beginning
abbrev begun_cpu : Begun → Next → Cpu
begun_cpu b x = by_next x resting (λ r. record { latest = r; begun = b; marks = [] })

-- a beginning of CPU j leaves the tables, and the CPU as its answer says
begun_run : (n : ℕ) (s : State) → Reach n s → (j : ℕ) (b : Begun) (a : Answer) (z : Zone) → s.zone ≡ z → s.phase ≡ ready → (b ≡ idle → ⊥) → s.cpus j ≡ begun_cpu b (next_of a) → (fuel : ℕ) → CpuRun n fuel j s a (follow step fuel 0 a z)
begun_run n s r j b a z e p i c fuel = run_from n s r j fuel a z e (ap (λ (x : Cpu). x.latest) c ∙ latest (next_of a)) (ap (λ (x : Cpu). handed x.begun a) c ∙ hands (next_of a) refl) (λ q m. (p, λ t. i (sym (ap (λ (x : Cpu). x.begun) (c ∙ ap (begun_cpu b) m)) ∙ ap (λ (x : Cpu). x.begun) t)))
  where
    latest : (x : Next) → (begun_cpu b x).latest ≡ by_next x Record.Finished (λ r. r)
    latest ends = refl
    latest (goes_on q) = refl

    hands : (x : Next) → next_of a ≡ x → handed (begun_cpu b x).begun a ≡ []
    hands ends m = refl
    hands (goes_on q) m = goes_handed b a q m

module _ (n : ℕ) (s : State) (r : Reach n s) (j : ℕ) where
  begin_cpu : (x : Next) (b : Begun) (y : State) (held : List Block) → s.cpus j ≡ resting → y.cpus ≡ s.cpus → (by_next x y (λ r. with_cpu y j (record { latest = r; begun = b; marks = [] }) held)).cpus j ≡ begun_cpu b x
  begin_cpu ends b y held e q = ap (λ (f : ℕ → Cpu). f j) q ∙ e
  begin_cpu (goes_on r) b y held e q = upd_at y.cpus j _ j refl

  begin_phase : (x : Next) (b : Begun) (y : State) (held : List Block) → (by_next x y (λ r. with_cpu y j (record { latest = r; begun = b; marks = [] }) held)).phase ≡ y.phase
  begin_phase ends b y held = refl
  begin_phase (goes_on r) b y held = refl

  -- a beginning stores nothing
  get_zone : (o : ℕ) → after s.zone (begin_get s.zone j o) ≡ s.zone
  unfolding begin_get stored
  get_zone o = guarded_elim (λ (p : Plan). after s.zone p ≡ s.zone) _ _ (refl, (refl, (refl, (refl, (refl, (refl, tt)))))) (λ m. refl)

  put_zone : (f : Frame) (o : ℕ) → after s.zone (begin_put s.zone j f o) ≡ s.zone
  unfolding begin_put stored
  put_zone f o = guarded_elim (λ (p : Plan). after s.zone p ≡ s.zone) _ _ (refl, (refl, (refl, (refl, (refl, (refl, (refl, (refl, tt)))))))) (λ m. refl)

  get_run_lem : (o : ℕ) → Called s (get j o) → (fuel : ℕ) → CpuRun n fuel j (next s (call (get j o))) (begin_get s.zone j o).answer (follow step fuel 0 (begin_get s.zone j o).answer s.zone)
  unfolding next answered_by planned
  get_run_lem o (e, i) =
      let a : Answer = (begin_get s.zone j o).answer in
      begun_run n (next s (call (get j o))) (then (call (get j o)) r (e, i)) j (getting (order_of o)) a s.zone (zone_is s (get j o) ∙ get_zone o) (begin_phase (next_of a) _ (stored_by s (get j o)) _ ∙ e) (λ q. let k : ◌≡◌ {A = ℕ} 0 1 = cc in omega arith) (begin_cpu (next_of a) _ (stored_by s (get j o)) _ i refl)

  put_run_lem : (i : ℕ) → Called s (put j i) → (fuel : ℕ) → let a : Answer = (begin_put s.zone j (first_of (held_at s i)) (order_number (order_of_block (held_at s i)))).answer in CpuRun n fuel j (next s (call (put j i))) a (follow step fuel 0 a s.zone)
  unfolding next answered_by planned
  put_run_lem i (e, d, l) =
      let a : Answer = (begin_put s.zone j (first_of (held_at s i)) (order_number (order_of_block (held_at s i)))).answer in
      begun_run n (next s (call (put j i))) (then (call (put j i)) r (e, d, l)) j (putting (held_at s i)) a s.zone (zone_is s (put j i) ∙ put_zone _ _) (begin_phase (next_of a) _ (stored_by s (put j i)) _ ∙ e) (λ q. let k : ◌≡◌ {A = ℕ} 0 1 = cc in omega arith) (begin_cpu (next_of a) _ (stored_by s (put j i)) _ d refl)

-- ---- the later steps of an open

-- the phase that an answer says
abbrev Stands : Answer → State → Type 0
Stands a s = s.phase ≡ by_next (next_of a) ready opening

pub later_phase : (s : State) (a : Answer) → number a ≤ 1 → (answered_by s open_later a).phase ≡ by_next (next_of a) ready opening
unfolding answered_by
later_phase s a l = answer_elim (λ (x : State). x.phase ≡ by_next (next_of a) ready opening) a (λ f. with_phase s ready) (λ r. with_phase s (opening r)) s (λ f e. rw e refl) (λ r e. rw e refl) (λ h. absurd (omega arith))

module _ (n : ℕ) where
  open_on : (s : State) → Reach n s → Called s open_later → (a : Answer) (q : Record) → next_of a ≡ goes_on q → Stands a s
      → Stands (planned s open_later).answer (next s (call open_later)) × ((r : Record) → next_of (planned s open_later).answer ≡ goes_on r → Called (next s (call open_later)) open_later × (open_record (next s (call open_later)).phase ≡ r))
  unfolding next
  open_on s w c a q g d =
      let p : Stands (planned s open_later).answer (next s (call open_later)) = later_phase (stored_by s open_later) (planned s open_later).answer ((demand3.holds n s w).open_later c) in
      (p, λ r m. let e : (next s (call open_later)).phase ≡ opening r = p ∙ ap (λ x. by_next x ready opening) m in ((r, e), ap open_record e))

  open_run : (s : State) → Reach n s → (r : Record) → s.phase ≡ opening r → (fuel : ℕ) → OpenRun n fuel s (Answer.UnderWay r) (follow open_step fuel 0 (Answer.UnderWay r) s.zone)
  unfolding planned
  open_run s w r e fuel =
      let k = as_events n open_later open_step (λ s. open_record s.phase) (λ s. refl) Stands open_on fuel s (Answer.UnderWay r) w e (λ q m. ((r, e), ap open_record e ∙ ap (λ x. by_next x Record.Finished (λ r. r)) m)) (follow open_step fuel 0 (Answer.UnderWay r) s.zone) refl in
      record { events = k.0; phase = k.1 }

-- ---- more fuel

-- a run that has ended goes no further
ended : (f : Zone → Record → Plan) (more k : ℕ) (a : Answer) (z : Zone) → Ends a → follow f more k a z ≡ ran a k z
unfolding follow
ended f zero k a z h = refl
ended f (suc more) k a z h = go (next_of a) h
  where
    go : (x : Next) → by_next x (Unit {0}) (λ r. ⊥) → by_next x (ran a k z) (λ r. let p : Plan = f z r in follow f more (suc k) p.answer (after z p)) ≡ ran a k z
    go ends h = refl
    go (goes_on r) h = absurd h

more_fuel : (f : Zone → Record → Plan) (fuel more k : ℕ) (a : Answer) (z : Zone) → Ends (follow f fuel k a z).answer → follow f (fuel + more) k a z ≡ follow f fuel k a z
unfolding follow
more_fuel f zero more k a z h = let e : 0 + more ≡ more = omega arith in ap (λ m. follow f m k a z) e ∙ ended f more k a z h
more_fuel f (suc fuel) more k a z h = let e : suc fuel + more ≡ suc (fuel + more) = omega arith in ap (λ m. follow f m k a z) e ∙ go (next_of a) h (λ r. let p : Plan = f z r in more_fuel f fuel more (suc k) p.answer (after z p))
  where
    on : ℕ → Record → Ran
    on m r = let p : Plan = f z r in follow f m (suc k) p.answer (after z p)

    go : (x : Next) → Ends (by_next x (ran a k z) (on fuel)).answer → ((r : Record) → Ends (on fuel r).answer → on (fuel + more) r ≡ on fuel r) → by_next x (ran a k z) (on (fuel + more)) ≡ by_next x (ran a k z) (on fuel)
    go ends h ih = refl
    go (goes_on r) h ih = ih r h

pub enough : (f : Zone → Record → Plan) (fuel bound : ℕ) (a : Answer) (z : Zone) → Ends (follow f bound 0 a z).answer → bound ≤ fuel → follow f fuel 0 a z ≡ follow f bound 0 a z
enough f fuel bound a z h l =
    let e : fuel ≡ bound + (fuel - bound) = omega arith in
    ap (λ m. follow f m 0 a z) e ∙ more_fuel f bound (fuel - bound) 0 a z h

-- a run counts its steps from what was made before
pub counted : (f : Zone → Record → Plan) (fuel k : ℕ) (a : Answer) (z : Zone) → let x : Ran = follow f fuel k a z in follow f fuel (suc k) a z ≡ ran x.answer (suc x.steps) x.zone
unfolding follow
counted f zero k a z = refl
counted f (suc fuel) k a z = go (next_of a) (λ r. let p : Plan = f z r in counted f fuel (suc k) p.answer (after z p))
  where
    on : ℕ → Record → Ran
    on i r = let p : Plan = f z r in follow f fuel (suc i) p.answer (after z p)

    go : (y : Next) → ((r : Record) → on (suc k) r ≡ ran (on k r).answer (suc (on k r).steps) (on k r).zone) → let x : Ran = by_next y (ran a k z) (on k) in by_next y (ran a (suc k) z) (on (suc k)) ≡ ran x.answer (suc x.steps) x.zone
    go ends ih = refl
    go (goes_on r) ih = ih r

get_bound_lem : (z : Zone) → most_get (shape_of z) ≡ get_bound z
unfolding search_steps trees_of
get_bound_lem z = refl

-- what is left of an operation under way is below its bound
steps_most_lem : (n : ℕ) (s : State) → Reach n s → (j fuel : ℕ) → let m : ℕ = most_steps n (cpus_of s) (s.cpus j).begun in m ≤ fuel → runs fuel s.zone (s.cpus j).latest ≡ runs m s.zone (s.cpus j).latest
steps_most_lem n s w j fuel l =
    let m : ℕ = most_steps n (cpus_of s) (s.cpus j).begun in
    let h : left (shape_of s.zone) (s.cpus j).latest < m = subst (λ k. left (shape_of s.zone) (s.cpus j).latest < most_steps k (cpus_of s) (s.cpus j).begun) (demand3.holds n s w).size (left_soon n s w j) in
    enough step fuel m (Answer.UnderWay (s.cpus j).latest) s.zone (run_ends m s.zone (s.cpus j).latest h) l

pub many : Many
many = record {
  steps = steps_run;
  gets = get_run_lem;
  puts = put_run_lem;
  opens = open_run;
  steps_most = steps_most_lem;
  get_most = λ z j o fuel l. enough step fuel (get_bound z) _ z (subst (λ m. Ends (follow step m 0 (begin_get z j o).answer z).answer) (get_bound_lem z) (bounds.get_run z j o)) l;
  put_most = λ z j f o fuel l. enough step fuel 4 _ z (bounds.put_run z j f o) l;
}
