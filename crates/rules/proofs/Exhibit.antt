-- The exhibited histories, by computation; and their events are admitted, by a test.
use mathlib.Core.Path.{◌≡◌, refl, sym, ap, ◌∙◌, subst}
use mathlib.Core.Bool.{Bool, true, false, ◌&&◌}
use mathlib.Core.List.{List, [], ◌∷◌, ◌++◌}
use Prim.Native.Nat.{ℕ}
use native.Mathlib.Omega.{arith}
use native.Mathlib.Decide.{dec_lt}
use lib.Dec.{eqb, leb, ltb}
use lib.ListN.{length}
use borrow.Author.Tests.{eqb-true, leb-true, ltb-true}
use Rattle.laws.specs.Tests.{every}
use Rattle.laws.specs.Sum.{upd}
use Rattle.laws.proofs.Tests.{true_false, and_both, both_and, every_at}
use Rattle.rules.specs.Types.{Record}
use Rattle.rules.specs.Numbers.{most_cpus, format1, trees_of}
use Rattle.rules.specs.Plan.{Mark}
use Rattle.rules.specs.Zone.{Zone, shape_of}
use Rattle.rules.specs.Fresh.{fresh, listed, Fitting}
use Rattle.rules.specs.Events.{Begun, idle, getting, putting, Cpu, resting, taken, unless_cleared, lost_by, lost_all, Phase, ready, down, opening, State, cpus_of, without, Call, get, put, step_of, close, open_first, open_later, planned, answered_by, Event, call, cut, cut_in, next, Idle, Called, Left, Admitted, started, Reach, start, then}
use Rattle.rules.specs.Promise.{AtRest}
use Rattle.rules.specs.Exhibit.{history, Shows, to_end, cut_after, CutBefore, CutLater, begins, Exhibited, Exhibit}
use Rattle.rules.proofs.Computed.{by_computation}
use Rattle.rules.proofs.Fresh.{runs}
use Rattle.rules.proofs.Histories.{in_phase, reached}
use Rattle.rules.proofs.Demand.{demand3}

-- ---- a test of the events that demand 3 admits

abbrev is_ready : Phase → Bool
is_ready ready = true
is_ready down = false
is_ready (opening r) = false

abbrev is_down : Phase → Bool
is_down ready = false
is_down down = true
is_down (opening r) = false

abbrev is_opening : Phase → Bool
is_opening ready = false
is_opening down = false
is_opening (opening r) = true

abbrev is_busy : Begun → Bool
is_busy idle = false
is_busy (getting o) = true
is_busy (putting b) = true

abbrev rests : Record → Begun → List Mark → Bool
rests Record.Finished idle [] = true
rests Record.Finished idle (m ∷ l) = false
rests Record.Finished (getting o) l = false
rests Record.Finished (putting b) l = false
rests (Record.Get j s) b l = false
rests (Record.Put j s) b l = false
rests (Record.Create s) b l = false
rests (Record.Open s) b l = false

abbrev idles : State → ℕ → Bool
idles s j = rests (s.cpus j).latest (s.cpus j).begun (s.cpus j).marks

abbrev called : State → Call → Bool
called s (get cpu o) = is_ready s.phase && idles s cpu
called s (put cpu i) = is_ready s.phase && (idles s cpu && ltb i (length s.held))
called s (step_of cpu) = is_ready s.phase && is_busy (s.cpus cpu).begun
called s close = is_ready s.phase
called s open_first = is_down s.phase
called s open_later = is_opening s.phase

abbrev left : State → List ℕ → List ℕ → Bool
left s ts cs = eqb (length ts) (trees_of (shape_of s.zone)) && (ltb 0 (length cs) && leb (length cs) most_cpus)

abbrev admitted : State → Event → Bool
admitted s (call c) = called s c
admitted s (cut ts cs) = left s ts cs
admitted s (cut_in c ts cs) = called s c && left s ts cs

unfoldable pub all_admitted_lem : List Event → State → Bool
all_admitted_lem [] s = true
all_admitted_lem (e ∷ l) s = admitted s e && all_admitted_lem l (next s e)

-- ---- what passes it is admitted

ready_is : (p : Phase) → is_ready p ≡ true → p ≡ ready
ready_is ready e = refl
ready_is down e = true_false (sym e)
ready_is (opening r) e = true_false (sym e)

down_is : (p : Phase) → is_down p ≡ true → p ≡ down
down_is ready e = true_false (sym e)
down_is down e = refl
down_is (opening r) e = true_false (sym e)

opening_is : (p : Phase) → is_opening p ≡ true → (r : Record) × (p ≡ opening r)
opening_is ready e = true_false (sym e)
opening_is down e = true_false (sym e)
opening_is (opening r) e = (r, refl)

idle_is : (q : Record) (b : Begun) (l : List Mark) → rests q b l ≡ true → ◌≡◌ {A = Cpu} (record { latest = q; begun = b; marks = l }) resting
idle_is Record.Finished idle [] e = refl
idle_is Record.Finished idle (m ∷ l) e = true_false (sym e)
idle_is Record.Finished (getting o) l e = true_false (sym e)
idle_is Record.Finished (putting b) l e = true_false (sym e)
idle_is (Record.Get j s) b l e = true_false (sym e)
idle_is (Record.Put j s) b l e = true_false (sym e)
idle_is (Record.Create s) b l e = true_false (sym e)
idle_is (Record.Open s) b l e = true_false (sym e)

idle_at : (s : State) (j : ℕ) → idles s j ≡ true → Idle s j
idle_at s j e = idle_is (s.cpus j).latest (s.cpus j).begun (s.cpus j).marks e

called_is : (s : State) (c : Call) → called s c ≡ true → Called s c
called_is s (get cpu o) e = let b = and_both _ _ e in (ready_is _ b.0, idle_at s cpu b.1)
called_is s (put cpu i) e =
    let b = and_both _ _ e in
    let d = and_both _ _ b.1 in
    (ready_is _ b.0, idle_at s cpu d.0, ltb-true i _ d.1)
called_is s (step_of cpu) e = let b = and_both _ _ e in (ready_is _ b.0, λ q. true_false (sym b.1 ∙ ap (λ (c : Cpu). is_busy c.begun) q))
called_is s close e = ready_is _ e
called_is s open_first e = down_is _ e
called_is s open_later e = opening_is _ e

left_is : (s : State) (ts cs : List ℕ) → left s ts cs ≡ true → Left s ts cs
left_is s ts cs e =
    let b = and_both _ _ e in
    let d = and_both _ _ b.1 in
    record { trees = eqb-true _ _ b.0; some = ltb-true _ _ d.0; most = leb-true _ _ d.1 }

admitted_is : (s : State) (e : Event) → admitted s e ≡ true → Admitted s e
admitted_is s (call c) t = called_is s c t
admitted_is s (cut ts cs) t = left_is s ts cs t
admitted_is s (cut_in c ts cs) t = let b = and_both _ _ t in (called_is s c b.0, left_is s ts cs b.1)

-- events that all pass lead from a reached state to a reached one
pub follows : (n : ℕ) (l : List Event) (s : State) → Reach n s → all_admitted_lem l s ≡ true → Reach n (history l s)
unfolding all_admitted_lem history
follows n [] s r e = r
follows n (x ∷ l) s r e = let b = and_both _ _ e in follows n l (next s x) (then x r (admitted_is s x b.0)) b.1

-- the CPUs of the table are idle, by a test; beyond it there is none
abbrev pub at_rest_lem : State → Bool
at_rest_lem s = is_ready s.phase && every (cpus_of s) (idles s)

pub at_rest : (n : ℕ) (s : State) → Reach n s → at_rest_lem s ≡ true → AtRest s
at_rest n s r e =
    let b = and_both (is_ready s.phase) (every (cpus_of s) (idles s)) e in
    let p : s.phase ≡ ready = ready_is s.phase b.0 in (
      p,
      λ j. elim (dec_lt j (cpus_of s)) [
        | yes l ↦ idle_at s j (every_at (cpus_of s) (idles s) b.1 j l)
        | no m ↦ (in_phase n s (reached n s r) ready p).beyond j (omega (arith, m))
      ],
    )

-- ---- one list of events after another

pub history_after : (a b : List Event) (s : State) → history (a ++ b) s ≡ history b (history a s)
unfolding history
history_after [] b s = refl
history_after (e ∷ a) b s = history_after a b (next s e)

pub admitted_after : (a b : List Event) (s : State) → all_admitted_lem a s ≡ true → all_admitted_lem b (history a s) ≡ true → all_admitted_lem (a ++ b) s ≡ true
unfolding all_admitted_lem history
admitted_after [] b s p q = q
admitted_after (e ∷ a) b s p q =
    let d = and_both (admitted s e) (all_admitted_lem a (next s e)) p in
    both_and (admitted s e) (all_admitted_lem (a ++ b) (next s e)) d.0 (admitted_after a b (next s e) d.1 q)

-- ---- from the fresh zone, and so from every zone that create leaves

abbrev pub first : ℕ → ℕ → State
first n c = started (fresh (record { format = format1; huge = n; cpus = c }))

-- every definition on the way of a history
unfoldable pub by_history : Unit {0}
unfolding by_computation history next answered_by planned lost_all lost_by taken unless_cleared without upd fresh listed all_admitted_lem
by_history = tt

module _ (n c : ℕ) where
  begins_first : (z : Zone) → Fitting n z → length z.cpus ≡ c → begins n z ≡ first n c
  begins_first z h e = ap started ((runs.create n z h).zone ∙ ap (λ k. fresh (record { format = format1; huge = n; cpus = k })) e)

  pub reach_first : (z : Zone) × Fitting n z × (length z.cpus ≡ c) → Reach n (first n c)
  reach_first (z, h, e) = subst (Reach n) (begins_first z h e) (start z h)

  pub exhibited : (l : List Event) (S : State → Type 0) → (z : Zone) × Fitting n z × (length z.cpus ≡ c) → S (first n c) → all_admitted_lem l (first n c) ≡ true → Exhibited n c l S
  exhibited l S t x y = record {
    tables = t;
    shows = λ z h e. subst S (sym (begins_first z h e)) x;
    reached = λ z h e. follows n l (begins n z) (start z h) (ap (all_admitted_lem l) (begins_first z h e) ∙ y);
  }

-- ---- one huge frame and two CPUs

shown : Shows (first 1 2)
unfolding by_history
shown = record {
  steals = refl;
  stolen = record { phase = refl; held = refl; lost = refl };
  lost = record { phase = refl; held = refl; lost = refl };
  in_open = record { phase = refl; held = refl; lost = refl };
  opened = record { phase = refl; held = refl; lost = refl };
  given = record { phase = refl; held = refl; lost = refl };
  closed = record { phase = refl; held = refl; lost = refl };
  ended = record { phase = refl; held = refl; lost = refl };
  rests = (refl, λ j. refl);
}

cut_before_lem : CutBefore (first 1 2)
unfolding by_history
cut_before_lem = record {
  before = record { words = refl; children = refl };
  fell = record { words = refl; children = refl };
  nothing = record { phase = refl; held = refl; lost = refl };
  again = record { words = refl; children = refl };
}

cut_later_lem : CutLater (first 1 2)
unfolding by_history
cut_later_lem = record {
  set = record { words = refl; children = refl };
  one = record { phase = refl; held = refl; lost = refl };
  gone = record { words = refl; children = refl };
}

one_huge : (z : Zone) × Fitting 1 z × (length z.cpus ≡ 2)
one_huge = demand3.starts 1 2 (omega arith) (omega arith) (omega arith) (omega arith)

pub exhibit : Exhibit
unfolding by_history
exhibit = record {
  steal = exhibited 1 2 to_end Shows one_huge shown refl;
  cut_before = exhibited 1 2 (cut_after 2) CutBefore one_huge cut_before_lem refl;
  cut_later = exhibited 1 2 (cut_after 3) CutLater one_huge cut_later_lem refl;
}
