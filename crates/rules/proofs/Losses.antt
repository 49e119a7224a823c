-- What an event adds to the lost blocks: at most one a CPU, of a get one of its order, of a put its own, each of them in the zone; and only cuts and closes answered Done add any.
use mathlib.Core.Path.{◌≡◌, refl, sym, ap, ◌∙◌, subst}
use mathlib.Core.Logic.{◌⊎◌, inl, inr}
use mathlib.Core.List.{List, [], ◌∷◌, ◌++◌}
use Prim.Native.Nat.{ℕ, zero, suc, ◌<◌}
use native.Mathlib.Omega.{arith}
use native.Mathlib.Decide.{ℕ_discrete, dec_lt}
use lib.ListN.{length}
use Rattle.laws.specs.Tests.{Passes}
use Rattle.laws.specs.Sum.{upd}
use Rattle.laws.proofs.Sum.{upd_at, upd_other}
use Rattle.rules.specs.Types.{Frame, Order, Block, Taking, Giving, Record, Answer}
use Rattle.rules.specs.Conversions.{frame}
use Rattle.rules.specs.Blocks.{block_at}
use Rattle.rules.specs.Answers.{number, Next, ends, goes_on, next_of, by_next}
use Rattle.rules.specs.Zone.{Zone, shaped}
use Rattle.rules.specs.Plan.{Mark, plain, takes, clears}
use Rattle.rules.specs.Ranges.{block_in, taking_in, giving_in}
use Rattle.rules.specs.Step.{step}
use Rattle.rules.specs.Events.{Begun, idle, getting, putting, Cpu, resting, unless_cleared, lost_by, lost_of, lost_all, Phase, ready, down, opening, State, cpus_of, Call, get, put, step_of, close, open_first, open_later, order_of_block, planned, stored_by, handed, with_phase, cut_off, answered_by, Event, call, cut, cut_in, next, Called, Admitted, Reach, start, then}
use Rattle.rules.specs.Promise.{owned_by, Loses, gathered, Lost}
use Rattle.rules.proofs.Shares.{Proper, OfOrder, AgreesWith, Agrees}
use Rattle.rules.proofs.Invariant.{BlockIn, AllIn, Up, Fine}
use Rattle.rules.proofs.Phases.{still}
use Rattle.rules.proofs.Turns.{in_table, stepped, as_many}
use Rattle.rules.proofs.Histories.{Phased, Holds, in_phase, inside_append, answer_elim, reached}

-- ---- lists of lists

gathered_lost : (k : ℕ) (c : ℕ → Cpu) → lost_all k c ≡ gathered k (λ j. lost_of (c j))
unfolding lost_all gathered
gathered_lost zero c = refl
gathered_lost (suc k) c = ap (λ l. lost_of (c k) ++ l) (gathered_lost k c)

gathered_none : (k : ℕ) → gathered k (λ j. []) ≡ []
unfolding gathered
gathered_none zero = refl
gathered_none (suc k) = gathered_none k

gathered_in : (n k : ℕ) (f : ℕ → List Block) → ((j : ℕ) → AllIn n (f j)) → AllIn n (gathered k f)
unfolding gathered
gathered_in n zero f h = tt
gathered_in n (suc k) f h = inside_append n (f k) (gathered k f) (h k) (gathered_in n k f h)

-- ---- one CPU

-- what it may lose, in the zone
abbrev Good : ℕ → Begun → List Block → Type 0
Good n b l = Loses b l × AllIn n l

none_good : (n : ℕ) (b : Begun) → Good n b []
none_good n idle = (refl, tt)
none_good n (getting o) = (inl refl, tt)
none_good n (putting x) = (inl refl, tt)

rest_good : (n : ℕ) → Good n idle (lost_of resting)
unfolding lost_by
rest_good n = (refl, tt)

block_in_lem : (n : ℕ) (z : Zone) (b : Block) → Passes (block_in (shaped n z) b) → BlockIn n b
block_in_lem n z (Block.Run v f) h = (h.0, h.1.0)
block_in_lem n z (Block.Whole x) h = h.0

unlost : (x : Block) (l : List Mark) → Loses (putting x) (unless_cleared x l)
unfolding unless_cleared
unlost x [] = inr refl
unlost x (plain ∷ l) = unlost x l
unlost x (takes b ∷ l) = unlost x l
unlost x (clears b ∷ l) = inl refl

order_at_lem : (o : Order) (f : Frame) → order_of_block (block_at o f) ≡ o
order_at_lem (Order.Run v) f = refl
order_at_lem Order.Nine f = refl

module _ (n : ℕ) (z : Zone) (j : ℕ) where
  owned_get : (i : ℕ) (s : Taking) (o : Order) → OfOrder s o → Passes (taking_in (shaped n z) j s) → Good n (getting o) (owned_by (Record.Get i s))
  unfolding taking_in
  owned_get i (Taking.Own k) o e h = (inl refl, tt)
  owned_get i (Taking.TakeCount k t) o e h = (inl refl, tt)
  owned_get i (Taking.FillEntry k t x) o e h = (inl refl, tt)
  owned_get i (Taking.ReturnHand k t x) o e h = (inl refl, tt)
  owned_get i (Taking.LookAgain k t) o e h = (inl refl, tt)
  owned_get i (Taking.Release k p) o e h = (inl refl, tt)
  owned_get i (Taking.Unreserve k p x) o e h = (inl refl, tt)
  owned_get i (Taking.Try k p) o e h = (inl refl, tt)
  owned_get i (Taking.Write k f x) o e h = (inl refl, tt)
  owned_get i (Taking.Steal k x) o e h = (inl refl, tt)
  owned_get i (Taking.StealCount k x t y) o e h = (inl refl, tt)
  owned_get i (Taking.Child k p s c) o e h = (inl refl, tt)
  owned_get i (Taking.Word v p s c w) o e h = (inl refl, tt)
  owned_get i (Taking.GiveBack v p s c) o e h = (inl refl, tt)
  owned_get i (Taking.Last b) o e h = (inr (b, refl, e), (block_in_lem n z b h, tt))
  owned_get i (Taking.Fail k p) o e h = (inl refl, tt)
  owned_get i Taking.NoRoom o e h = (inl refl, tt)

  owned_put : (i : ℕ) (s : Giving) → Passes (giving_in (shaped n z) s) → AllIn n (owned_by (Record.Put i s))
  unfolding giving_in
  owned_put i (Giving.Clear b) h = (block_in_lem n z b h, tt)
  owned_put i (Giving.Raise v f) h = tt
  owned_put i (Giving.ToEntry b) h = tt
  owned_put i (Giving.ToTree b) h = tt

  -- what it began and stored agrees with its record
  agreed_good : (c : Cpu) → Agrees c → Proper (shaped n z) j c.latest → Good n c.begun (lost_of c)
  unfolding lost_by
  agreed_good c a = go c.latest a
    where
      go : (r : Record) → AgreesWith c.begun c.marks r → Proper (shaped n z) j r → Good n c.begun (lost_of c)
      go Record.Finished h p = subst (λ b. Good n b (lost_by b c.marks)) (sym h.0) (refl, tt)
      go (Record.Get i s) h p = subst (λ b. Good n b (lost_by b c.marks)) (sym h.1) (subst (Good n (getting h.0)) (sym h.3) (owned_get i s h.0 h.2 p.1))
      go (Record.Put i s) h p = subst (λ b. Good n b (lost_by b c.marks)) (sym h.1) (unlost h.0 c.marks, subst (AllIn n) (sym h.2) (owned_put i s p.1))
      go (Record.Create y) h p = absurd h
      go (Record.Open y) h p = absurd h

-- a block that a step was about to hand out
handed_good : (n : ℕ) (b : Begun) (a : Answer) → AllIn n (handed b a) → Good n b (handed b a ++ [])
handed_good n idle a h = (refl, tt)
handed_good n (getting o) a h = answer_elim (λ l. AllIn n l → Good n (getting o) (l ++ [])) a (λ f. block_at o (frame f) ∷ []) (λ r. []) [] (λ f e i. (inr (block_at o f, refl, order_at_lem o f), (i.0, tt))) (λ r e i. (inl refl, tt)) (λ e i. (inl refl, tt)) h
handed_good n (putting x) a h = (inl refl, tt)

-- ---- one event

-- the new lost blocks, each in the zone
record Losing (n : ℕ) (s : State) (e : Event) : Type 0 where
  pub by : ℕ → List Block
  pub new : (next s e).lost ≡ gathered (cpus_of s) by ++ s.lost
  pub good : (j : ℕ) → Good n (s.cpus j).begun (by j)

module _ (n : ℕ) (s : State) (h : Holds n s) where
  still_good : s.cpus ≡ still → (j : ℕ) → Good n (s.cpus j).begun (lost_of (s.cpus j))
  unfolding lost_by
  still_good e j = rw e (rest_good n)

  now_good : (j : ℕ) → Good n (s.cpus j).begun (lost_of (s.cpus j))
  now_good j = go s.phase h.phased
    where
      go : (p : Phase) → Phased n s p → Good n (s.cpus j).begun (lost_of (s.cpus j))
      go ready u = elim (dec_lt j (length s.zone.cpus)) [
        | yes l ↦ agreed_good n s.zone j (s.cpus j) (u.agrees j) (u.upper.proper j l)
        | no m ↦ subst (λ (c : Cpu). Good n c.begun (lost_of c)) (sym (u.beyond j (omega arith))) (rest_good n)
      ]
      go down d = still_good d.1 j
      go (opening r) o = still_good o.1 j

  -- every operation is cut off
  cut_losing : (e : Event) (c : ℕ → Cpu) → (next s e).lost ≡ lost_all (cpus_of s) c ++ s.lost → ((j : ℕ) → Good n (s.cpus j).begun (lost_of (c j))) → Losing n s e
  cut_losing e c q g = record { by = λ j. lost_of (c j); new = q ∙ ap (λ l. l ++ s.lost) (gathered_lost (cpus_of s) c); good = g }

  none_losing : (e : Event) → (next s e).lost ≡ s.lost → Losing n s e
  none_losing e q = record { by = λ j. []; new = q ∙ ap (λ l. l ++ s.lost) (sym (gathered_none (cpus_of s))); good = λ j. none_good n (s.cpus j).begun }

  -- a step's store with its mark
  module _ (j : ℕ) (c : Called s (step_of j)) where
    abbrev stored_cpu : Cpu
    stored_cpu = record { latest = (s.cpus j).latest; begun = (s.cpus j).begun; marks = (planned s (step_of j)).mark ∷ (s.cpus j).marks }

    step_good : Good n (s.cpus j).begun (lost_by (s.cpus j).begun ((planned s (step_of j)).mark ∷ (s.cpus j).marks))
    unfolding planned
    step_good = go (next_of a) refl
      where
        u : Up n s.zone s.cpus s.held s.lost
        u = in_phase n s h ready c.0

        l : j < length s.zone.cpus
        l = in_table n s.zone s.cpus s.held s.lost u j c.1

        a : Answer
        a = (step s.zone (s.cpus j).latest).answer

        m : Mark
        m = (step s.zone (s.cpus j).latest).mark

        f : Fine n s.zone s.cpus s.held s.lost u j l (s.cpus j).latest refl (step s.zone (s.cpus j).latest)
        f = (stepped n s.zone s.cpus s.held s.lost u j l c.1).fine

        go : (x : Next) → next_of a ≡ x → Good n (s.cpus j).begun (lost_by (s.cpus j).begun (m ∷ (s.cpus j).marks))
        go ends e = subst (Good n (s.cpus j).begun) (sym (f.lostly ∙ ap (λ x. handed (s.cpus j).begun a ++ owned_by (by_next x Record.Finished (λ r. r))) e)) (handed_good n (s.cpus j).begun a f.inside)
        go (goes_on r) e = agreed_good n s.zone j (record { latest = r; begun = (s.cpus j).begun; marks = m ∷ (s.cpus j).marks }) (subst (λ x. Agrees (by_next x resting (λ r. record { latest = r; begun = (s.cpus j).begun; marks = m ∷ (s.cpus j).marks }))) e f.agrees) (subst (λ x. Proper (shaped n s.zone) j (by_next x Record.Finished (λ r. r))) e f.proper)

    marked_good : (k : ℕ) → Good n (s.cpus k).begun (lost_of (upd s.cpus j stored_cpu k))
    marked_good k = elim (ℕ_discrete j k) [
      | yes e ↦ subst (λ i. Good n (s.cpus i).begun (lost_of (upd s.cpus j stored_cpu i))) e (subst (λ (x : Cpu). Good n (s.cpus j).begun (lost_of x)) (sym (upd_at s.cpus j stored_cpu j refl)) step_good)
      | no m ↦ subst (λ (x : Cpu). Good n (s.cpus k).begun (lost_of x)) (sym (upd_other s.cpus j stored_cpu k m)) (now_good k)
    ]

  -- calls
  next_lost : (y : Next) (x : State) (f : Record → State) → x.lost ≡ s.lost → ((r : Record) → (f r).lost ≡ s.lost) → (by_next y x f).lost ≡ s.lost
  next_lost ends x f p q = p
  next_lost (goes_on r) x f p q = q r

  many : (c : Call) → cpus_of (stored_by s c) ≡ cpus_of s
  many c = as_many s.zone (planned s c).store

  -- a close that is answered Done cuts off what is under way
  close_lost : ((next s (call close)).lost ≡ s.lost) ⊎ ((number (planned s close).answer ≡ 0) × ((next s (call close)).lost ≡ lost_all (cpus_of s) s.cpus ++ s.lost))
  unfolding next answered_by
  close_lost =
      let x : State = stored_by s close in
      let a : Answer = (planned s close).answer in
      answer_elim (λ (y : State). (y.lost ≡ s.lost) ⊎ ((number a ≡ 0) × (y.lost ≡ lost_all (cpus_of s) s.cpus ++ s.lost))) a (λ f. cut_off x x.zone) (λ r. x) x (λ f e. inr (ap number e, ap (λ k. lost_all k s.cpus ++ s.lost) (many close))) (λ r e. inl refl) (λ e. inl refl)

  pub call_lost : (c : Call) → ((next s (call c)).lost ≡ s.lost) ⊎ ((c ≡ close) × (number (planned s close).answer ≡ 0))
  unfolding next answered_by
  call_lost (get j o) = inl (next_lost (next_of (planned s (get j o)).answer) _ _ refl (λ r. refl))
  call_lost (put j i) = inl (next_lost (next_of (planned s (put j i)).answer) _ _ refl (λ r. refl))
  call_lost (step_of j) = inl (next_lost (next_of (planned s (step_of j)).answer) _ _ refl (λ r. refl))
  call_lost close = elim close_lost [ inl e ↦ inl e | inr e ↦ inr (refl, e.0) ]
  call_lost open_first = inl (next_lost (next_of (planned s open_first).answer) _ _ refl (λ r. refl))
  call_lost open_later = inl (answer_elim (λ (y : State). y.lost ≡ s.lost) (planned s open_later).answer (λ f. with_phase (stored_by s open_later) ready) (λ r. with_phase (stored_by s open_later) (opening r)) (stored_by s open_later) (λ f e. refl) (λ r e. refl) (λ e. refl))

  call_losing : (c : Call) → Losing n s (call c)
  call_losing c = elim (call_lost c) [
    | inl e ↦ none_losing (call c) e
    | inr e ↦ subst (λ x. Losing n s (call x)) (sym e.0) (elim close_lost [ inl q ↦ none_losing (call close) q | inr q ↦ cut_losing (call close) s.cpus q.1 now_good ])
  ]

  -- cuts
  inside_losing : (c : Call) (ts es : List ℕ) → Called s c → Losing n s (cut_in c ts es)
  unfolding next
  inside_losing (get j o) ts es a = cut_losing _ s.cpus (ap (λ k. lost_all k s.cpus ++ s.lost) (many (get j o))) now_good
  inside_losing (put j i) ts es a = cut_losing _ s.cpus (ap (λ k. lost_all k s.cpus ++ s.lost) (many (put j i))) now_good
  inside_losing (step_of j) ts es a = cut_losing _ (upd s.cpus j (stored_cpu j a)) (ap (λ k. lost_all k (upd s.cpus j (stored_cpu j a)) ++ s.lost) (many (step_of j))) (marked_good j a)
  inside_losing close ts es a = cut_losing _ s.cpus (ap (λ k. lost_all k s.cpus ++ s.lost) (many close)) now_good
  inside_losing open_first ts es a = cut_losing _ s.cpus (ap (λ k. lost_all k s.cpus ++ s.lost) (many open_first)) now_good
  inside_losing open_later ts es a = cut_losing _ s.cpus (ap (λ k. lost_all k s.cpus ++ s.lost) (many open_later)) now_good

  losing : (e : Event) → Admitted s e → Losing n s e
  unfolding next
  losing (call c) a = call_losing c
  losing (cut ts es) a = cut_losing (cut ts es) s.cpus refl now_good
  losing (cut_in c ts es) a = inside_losing c ts es a.0

  pub loses : (e : Event) → Admitted s e → Lost s e
  loses e a = let l = losing e a in record { by = l.by; new = l.new; each = λ j. (l.good j).0 }

  still_inside : AllIn n s.lost → (e : Event) → Admitted s e → AllIn n (next s e).lost
  still_inside i e a = let l = losing e a in subst (AllIn n) (sym l.new) (inside_append n (gathered (cpus_of s) l.by) s.lost (gathered_in n (cpus_of s) l.by (λ j. (l.good j).1)) i)

-- every lost block lies in the zone
pub lost_inside_lem : (n : ℕ) (s : State) → Reach n s → AllIn n s.lost
lost_inside_lem n s (start z f) = tt
lost_inside_lem n s (then {s = x} e r a) = still_inside n x (reached n x r) (lost_inside_lem n x r) e a
