-- The calls on two words are the calls of a history: latest records are in range, so two words hold them; the rest is the rules' own plans.
use mathlib.Core.Path.{◌≡◌, refl, sym, ap, ◌∙◌, subst}
use mathlib.Core.Logic.{inl, inr}
use mathlib.Core.List.{List, []}
use Prim.Native.Nat.{ℕ, suc, ◌-◌, ◌^◌, ◌≤◌, ◌<◌, max}
use native.Mathlib.Omega.{arith}
use native.Mathlib.Decide.{dec_lt}
use native.Mathlib.Nat.{le-max_right}
use lib.ListN.{length}
use borrow.Author.Tests.{eq-eqb}
use Rattle.laws.proofs.Tests.{pick_yes}
use Rattle.rules.specs.declared.Block.{Block}
use Rattle.rules.specs.declared.Creating.{Creating}
use Rattle.rules.specs.declared.Record.{Record}
use Rattle.rules.specs.declared.Answer.{Answer}
use Rattle.rules.specs.Blocks.{first_of}
use Rattle.rules.specs.Answers.{number, Next, ends, goes_on, next_of, by_next, record_of}
use Rattle.rules.specs.Zone.{Zone, shaped, shape_of}
use Rattle.rules.specs.Plan.{Plan}
use Rattle.rules.specs.Checks.{header_checks, length_checks}
use Rattle.rules.specs.Ranges.{creating_in, step_range, create_range, open_range}
use Rattle.rules.specs.Step as rules
use Rattle.rules.specs.Step.{step, after, follow}
use Rattle.rules.specs.Create.{done, size_checks, create_zone, create_step, create_steps}
use Rattle.rules.specs.Open.{open_step, close_zone}
use Rattle.rules.specs.Fresh.{Fitting, creates}
use Rattle.rules.specs.Bounds.{Ends}
use Rattle.rules.specs.Events as Events
use Rattle.rules.specs.Events.{Cpu, Phase, ready, down, opening, State, held_at, Call, get, put, step_of, close, open_first, open_later, order_of_block, open_record, planned, stored_by, with_phase, answered_by, call, next, Reach, start, then}
use Rattle.rules.specs.Exhibit.{history, times}
use Rattle.rules.specs.Many.{last_answer, AsEvents, OpenRun}
use Rattle.rules.proofs.Guards.{guarded_elim, not_refused}
use Rattle.rules.proofs.Bounds.{open_sized}
use Rattle.rules.proofs.Ways.{guarded_none, allowed}
use Rattle.rules.proofs.Fresh as Fresh
use Rattle.rules.proofs.Shares.{Proper}
use Rattle.rules.proofs.Invariant.{BlockIn, Up}
use Rattle.rules.proofs.Histories as Histories
use Rattle.rules.proofs.Demand.{demand3}
use Rattle.rules.proofs.Many.{zone_is, step_latest, later_phase, enough, counted, many}
use Rattle.rules.specs.Bounds.{zone_shape}
use Rattle.records.specs.Inverse.{InRange}
use Rattle.records.proofs.Fits.{range_fits, finished_fits, order_small, words_fit}
use Rattle.records.proofs.Inverse.{inverse}
use Rattle.capi.specs.declared.Answered.{Answered}
use Rattle.capi.specs.declared.Ran.{Ran}
use Rattle.capi.specs.Calls.{answered_as, ran_as, laid, no_record, no_create_record, Called, called, made, followed, step_call, run_call, create_call, create_run_call, open_run_call}
use Rattle.capi_histories.specs.Driven.{words, Holds, latest_of, open_of, does, DoesMany, first_at, order_at, Drives, created_by, Driven}
use Rattle.capi_histories.proofs.Instance.{shown}

-- ---- records that two words hold

range_holds : (n c : ℕ) → n ≤ 65536 → c ≤ 64 → (r : Record) → InRange (zone_shape n c) r → Holds r
range_holds n c a b r h = let w = words_fit r (range_fits n c a b r h) in record { first = w.0; second = w.1; again = inverse.ranged n c a b r h }

finished_holds : Holds Record.Finished
finished_holds = let w = words_fit Record.Finished finished_fits in record { first = w.0; second = w.1; again = inverse.finished }

-- the record of an open that is not refused is in range
later_holds : (z : Zone) (r : Record) → number (open_step z r).answer ≤ 1 → Holds r
unfolding open_step
later_holds z r = guarded_elim (λ (p : Plan). number p.answer ≤ 1 → Holds r) _ _
    ((λ h. absurd (omega arith)), ((λ h. absurd (omega arith)), ((λ h. absurd (omega arith)), ((λ h. absurd (omega arith)), ((λ h. absurd (omega arith)), ((λ h. absurd (omega arith)), tt))))))
    (λ m h.
    let k = not_refused (length_checks (shape_of z) z) m.1.1.1.0 in
    range_holds _ _ (open_sized z (m.0, (m.1.0, (m.1.1.0, (m.1.1.1.0, tt))))).1 (omega (arith, k.1.1.1.1.0)) r (inr (inr (not_refused (open_range (shape_of z) r) m.1.1.1.1.0))))

-- ---- calls on two words

made_two : (e : Answer) (z : Zone) (l : List ℕ) (p : Plan) → length l ≡ 2 → made e z l p ≡ called (answered_as p.answer) (after z p) (words (record_of p.answer))
unfolding made laid
made_two e z l p h = let b = eq-eqb (length l) 2 h in pick_yes _ _ _ b ∙ ap (called (answered_as p.answer) (after z p)) (pick_yes _ _ _ b)

followed_two : (e : Answer) (z : Zone) (l : List ℕ) (x : rules.Ran) → length l ≡ 2 → followed e z l x ≡ called (ran_as x.answer x.steps) x.zone (words (record_of x.answer))
unfolding followed laid
followed_two e z l x h = let b = eq-eqb (length l) 2 h in pick_yes _ _ _ b ∙ ap (called (ran_as x.answer x.steps) x.zone) (pick_yes _ _ _ b)

-- a plan that is the history's call does what it does
made_does : (e : Answer) (s : State) (l : List ℕ) (p : Plan) (c : Call) (of : State → Record) → length l ≡ 2 → planned s c ≡ p → of (next s (call c)) ≡ record_of (planned s c).answer → made e s.zone l p ≡ does s c of
made_does e s l p c of h q r =
    made_two e s.zone l p h ∙ (sym (ap (λ (p : Plan). called (answered_as p.answer) (after s.zone p) (words (record_of p.answer))) q)
    ∙ (ap (λ z. called (answered_as (planned s c).answer) z (words (record_of (planned s c).answer))) (sym (zone_is s c)) ∙ ap (λ r. called (answered_as (planned s c).answer) (next s (call c)).zone (words r)) (sym r)))

-- a run that is k events does what they do
many_does : (n fuel : ℕ) (c : Call) (s : State) (a : Answer) (of : State → Record) (x : rules.Ran) (y : Called Ran) → AsEvents n fuel c s a x → of (history (times x.steps c) s) ≡ record_of x.answer
    → y ≡ called (ran_as x.answer x.steps) x.zone (words (record_of x.answer)) → DoesMany n fuel c s a of y
many_does n fuel c s a of x y v r e = record {
  k = x.steps;
  few = v.few;
  admitted = v.admitted;
  reached = v.reached;
  stops = λ l. subst Ends v.answer (v.stops l);
  does = e ∙ (ap (λ q. called (ran_as x.answer x.steps) x.zone (words q)) (sym r) ∙ (ap (λ b. called (ran_as b x.steps) x.zone w) v.answer ∙ ap (λ z. called (ran_as (last_answer a c s x.steps) x.steps) z w) v.zone));
}
  where
    w : List ℕ
    w = words (of (history (times x.steps c) s))

-- ---- a reached state

-- n is a zone's size
small : (n : ℕ) (s : State) → Reach n s → n ≤ 65536
small n s (start z f) = omega (arith, f.size.1.0)
small n s (then {s = x} e r a) = small n x r

module _ (n : ℕ) (s : State) (r : Reach n s) where
  latest_holds : (j : ℕ) → Holds (s.cpus j).latest
  unfolding step_range
  latest_holds j = go s.phase (Histories.reached n s r).phased
    where
      proper : Up n s.zone s.cpus s.held s.lost → j < length s.zone.cpus → (q : Record) → Proper (shaped n s.zone) j q → Holds q
      proper u l Record.Finished h = finished_holds
      proper u l (Record.Get i t) h = range_holds n (length s.zone.cpus) u.small u.few_cpus_lem (Record.Get i t) (inl (rw h.0 (l, h.1)))
      proper u l (Record.Put i t) h = range_holds n (length s.zone.cpus) u.small u.few_cpus_lem (Record.Put i t) (inl (rw h.0 (l, h.1)))
      proper u l (Record.Create y) h = absurd h
      proper u l (Record.Open y) h = absurd h

      go : (p : Phase) → Histories.Phased n s p → Holds (s.cpus j).latest
      go ready u = elim (dec_lt j (length s.zone.cpus)) [
        | yes l ↦ proper u l (s.cpus j).latest (u.upper.proper j l)
        | no m ↦ subst (λ (c : Cpu). Holds c.latest) (sym (u.beyond j (omega arith))) finished_holds
      ]
      go down d = subst (λ (c : ℕ → Cpu). Holds (c j).latest) (sym d.1) finished_holds
      go (opening q) o = subst (λ (c : ℕ → Cpu). Holds (c j).latest) (sym o.1) finished_holds

  open_holds : Holds (open_record s.phase)
  unfolding planned
  open_holds = go s.phase refl
    where
      go : (p : Phase) → s.phase ≡ p → Holds (open_record p)
      go ready e = finished_holds
      go down e = finished_holds
      go (opening q) e = later_holds s.zone q (rw e at ((demand3.holds n s r).open_later (q, e)))

  held_fits : (i : ℕ) → i < length s.held → (first_at s i < 2 ^ 64) × (order_at s i < 2 ^ 64)
  held_fits i l = (first (held_at s i) (Histories.inside_at n s.held i l (Histories.reached n s r).inside), omega (arith, order_small (order_of_block (held_at s i))))
    where
      first : (b : Block) → BlockIn n b → (first_of b).0 < 2 ^ 64
      first (Block.Run v f) h = omega (arith, h.0, small n s r)
      first (Block.Whole x) h = omega (arith, h, small n s r)

  -- ---- the record after a call is what its answer hands back

  get_latest : (j o : ℕ) → Events.Called s (get j o) → ((next s (call (get j o))).cpus j).latest ≡ record_of (planned s (get j o)).answer
  unfolding planned follow history
  get_latest j o c = (many.gets n s r j o c 0).latest

  put_latest : (j i : ℕ) → Events.Called s (put j i) → ((next s (call (put j i))).cpus j).latest ≡ record_of (planned s (put j i)).answer
  unfolding planned follow history
  put_latest j i c = (many.puts n s r j i c 0).latest

  first_record : Events.Called s open_first → open_of (next s (call open_first)) ≡ record_of (planned s open_first).answer
  unfolding next answered_by
  first_record e = go (next_of (planned s open_first).answer)
    where
      go : (x : Next) → open_of (by_next x (stored_by s open_first) (λ r. with_phase (stored_by s open_first) (opening r))) ≡ by_next x Record.Finished (λ r. r)
      go ends = ap open_record e
      go (goes_on q) = refl

  phase_record : (x : Next) → open_record (by_next x ready opening) ≡ by_next x Record.Finished (λ r. r)
  phase_record ends = refl
  phase_record (goes_on q) = refl

  later_record : Events.Called s open_later → open_of (next s (call open_later)) ≡ record_of (planned s open_later).answer
  unfolding next
  later_record c = ap open_record (later_phase (stored_by s open_later) (planned s open_later).answer ((demand3.holds n s r).open_later c)) ∙ phase_record (next_of (planned s open_later).answer)

  -- ---- single calls

  step_does : (j : ℕ) → Events.Called s (step_of j) → step_call s.zone (words (s.cpus j).latest) ≡ does s (step_of j) (latest_of j)
  unfolding planned
  step_does j c = made_does _ s (words (s.cpus j).latest) _ (step_of j) (latest_of j) refl (ap (step s.zone) (sym (latest_holds j).again)) (step_latest s j)

  -- ---- calls of many steps

  run_does : (j : ℕ) → Events.Called s (step_of j) → (fuel : ℕ) → DoesMany n (max 1 fuel) (step_of j) s (Answer.UnderWay (s.cpus j).latest) (latest_of j) (run_call s.zone (words (s.cpus j).latest) fuel)
  run_does j c fuel =
      let k = many.steps n s r j c (max 1 fuel) in
      let l : List ℕ = words (s.cpus j).latest in
      many_does _ _ _ _ _ (latest_of j) _ _ k.events k.latest (ap (λ q. followed (no_record Answer.Closed s.zone.header) s.zone l (rules.runs (max 1 fuel) s.zone q)) (latest_holds j).again ∙ followed_two _ s.zone l _ refl)

  open_run_does : Events.Called s open_later → (fuel : ℕ) → DoesMany n (max 1 fuel) open_later s (Answer.UnderWay (open_record s.phase)) open_of (open_run_call s.zone (words (open_record s.phase)) fuel)
  open_run_does (q, e) fuel =
      let x : rules.Ran = follow open_step (max 1 fuel) 0 (Answer.UnderWay (open_record s.phase)) s.zone in
      let k : OpenRun n (max 1 fuel) s (Answer.UnderWay (open_record s.phase)) x = subst (λ q. OpenRun n (max 1 fuel) s (Answer.UnderWay q) (follow open_step (max 1 fuel) 0 (Answer.UnderWay q) s.zone)) (sym (ap open_record e)) (many.opens n s r q e (max 1 fuel)) in
      let l : List ℕ = words (open_record s.phase) in
      many_does _ _ _ _ _ open_of _ _ k.events (ap open_record k.phase ∙ phase_record (next_of x.answer)) (ap (λ q. followed (no_record Answer.Closed s.zone.header) s.zone l (follow open_step (max 1 fuel) 0 (Answer.UnderWay q) s.zone)) open_holds.again ∙ followed_two _ s.zone l _ refl)

  drives : Drives n s
  unfolding planned
  drives = record {
    latest = latest_holds;
    opening = open_holds;
    held = held_fits;
    gets = λ j o c l h. made_does _ s l _ (get j o) (latest_of j) h refl (get_latest j o c);
    puts = λ j i c l h. made_does _ s l _ (put j i) (latest_of j) h refl (put_latest j i c);
    steps = step_does;
    opens = λ c l h. made_does _ s l _ open_first open_of h refl (first_record c);
    open_steps = λ c. made_does _ s (words (open_record s.phase)) _ open_later open_of refl (ap (open_step s.zone) (sym open_holds.again)) (later_record c);
    closes = λ c. ap (λ z. called (answered_as (close_zone s.zone).answer) z []) (sym (zone_is s close));
    runs = run_does;
    get_runs = λ j o c l h fuel. let k = many.gets n s r j o c fuel in many_does _ _ _ _ _ (latest_of j) _ _ k.events k.latest (followed_two _ s.zone l _ h);
    put_runs = λ j i c l h fuel. let k = many.puts n s r j i c fuel in many_does _ _ _ _ _ (latest_of j) _ _ k.events k.latest (followed_two _ s.zone l _ h);
    open_runs = open_run_does;
  }

-- ---- where a history begins

module _ (n : ℕ) (z : Zone) (h : Fitting n z) where
  -- create's first record, and the tables after its store
  abbrev r₀ : Record
  r₀ = Record.Create (Creating.Words 0)

  abbrev z₀ : Zone
  z₀ = after z (create_zone n z)

  abbrev N : ℕ
  N = create_steps (shaped n z)

  create_begins : (create_zone n z).answer ≡ Answer.UnderWay r₀
  unfolding create_zone
  create_begins = ap (λ (p : Plan). p.answer) (guarded_none _ _ (allowed (size_checks n) h.size, (allowed (header_checks z) h.header, (allowed (length_checks (shaped n z) z) h.tables, tt))))

  create_holds : Holds r₀
  unfolding create_range creating_in
  create_holds = range_holds n 1 (omega (arith, h.size.1.0)) (omega arith) r₀ (inr (inl (omega (arith, h.size.0), tt)))

  -- the later steps alone, counted from 0
  created_alone : follow (create_step n) N 0 (Answer.UnderWay r₀) z₀ ≡ rules.ran done (N - 1) (creates n z N).zone
  created_alone =
      let x : rules.Ran = follow (create_step n) N 0 (create_zone n z).answer z₀ in
      let e = counted (create_step n) N 0 (create_zone n z).answer z₀ in
      let c = (Fresh.runs).create n z h in
      let a : x.answer ≡ done = sym (ap (λ (y : rules.Ran). y.answer) e) ∙ c.answer in
      let k : suc x.steps ≡ N = sym (ap (λ (y : rules.Ran). y.steps) e) ∙ c.steps in
      let m : x.steps ≡ N - 1 = omega arith in
      let v : x.zone ≡ (creates n z N).zone = sym (ap (λ (y : rules.Ran). y.zone) e) in
      sym (ap (λ b. follow (create_step n) N 0 b z₀) create_begins) ∙ (ap (λ b. rules.ran b x.steps x.zone) a ∙ (ap (λ i. rules.ran done i x.zone) m ∙ ap (rules.ran done (N - 1)) v))

  starts : (l : List ℕ) → length l ≡ 2 → (fuel : ℕ) → N ≤ fuel → created_by n z l fuel ≡ called (ran_as done (N - 1)) (creates n z N).zone (words Record.Finished)
  starts l two fuel f =
      let F : ℕ = max 1 fuel in
      let e : create_call z l n ≡ called (answered_as (create_zone n z).answer) z₀ (words r₀) = made_two _ z l (create_zone n z) two ∙ ap (λ b. called (answered_as (create_zone n z).answer) z₀ (words (record_of b))) create_begins in
      let g : N ≤ F = omega (arith, le-max_right 1 fuel) in
      let run : follow (create_step n) F 0 (Answer.UnderWay r₀) z₀ ≡ rules.ran done (N - 1) (creates n z N).zone = enough (create_step n) F N (Answer.UnderWay r₀) z₀ (subst (λ (x : rules.Ran). Ends x.answer) (sym created_alone) tt) g ∙ created_alone in
      ap (λ (x : Called Answered). create_run_call x.zone x.rec n fuel) e
      ∙ (ap (λ q. followed (no_create_record n) z₀ (words r₀) (follow (create_step n) F 0 (Answer.UnderWay q) z₀)) create_holds.again
      ∙ (ap (followed (no_create_record n) z₀ (words r₀)) run ∙ followed_two _ z₀ (words r₀) _ refl))

pub driven : Driven
driven = record { starts = starts; drives = drives; shown = shown }
