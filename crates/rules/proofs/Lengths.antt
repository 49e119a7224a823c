-- Inside a history: what a CPU has made of its get or put, and what is left of it, are fewer steps than the bound.
use mathlib.Core.Path.{◌≡◌, refl, sym, ap, ◌∙◌, subst}
use mathlib.Core.Logic.{inl, inr}
use mathlib.Core.List.{List, [], ◌∷◌, ◌++◌}
use Prim.Native.Nat.{ℕ, suc, ◌+◌, ◌*◌, ◌/◌, ◌<◌}
use native.Mathlib.Omega.{arith}
use native.Mathlib.Decide.{ℕ_discrete}
use lib.ListN.{length}
use Rattle.laws.specs.Tests.{Passes}
use Rattle.laws.specs.Sum.{upd}
use Rattle.laws.proofs.Sum.{upd_at, upd_other, upd_twice}
use Rattle.rules.specs.Types.{Block, Record, Answer}
use Rattle.rules.specs.Numbers.{Shape, trees_of}
use Rattle.rules.specs.Answers.{number, Next, ends, goes_on, next_of, by_next}
use Rattle.rules.specs.Zone.{Zone, shape_of, stored}
use Rattle.rules.specs.Plan.{Mark, Plan}
use Rattle.rules.specs.Ranges.{step_range}
use Rattle.rules.specs.Begin.{order_of, begin_get, begin_put}
use Rattle.rules.specs.Step.{step, after, search_steps, most_get, most_put}
use Rattle.rules.specs.Open.{close_zone}
use Rattle.rules.specs.Bounds.{left}
use Rattle.rules.specs.Events.{getting, putting, Cpu, resting, ready, down, opening, State, without, held_at, get, put, step_of, close, open_first, open_later, planned, stored_by, handed, with_cpu, with_phase, cut_off, answered_by, Event, call, cut, cut_in, next, Admitted, Reach, start, then}
use Rattle.rules.specs.Promise.{most_steps}
use Rattle.rules.proofs.Guards.{guarded_elim}
use Rattle.rules.proofs.Bounds.{step_falls, get_begun, put_begun, after_shape}
use Rattle.rules.proofs.Invariant.{Up}
use Rattle.rules.proofs.Phases.{still}
use Rattle.rules.proofs.Ends.{Closes, closes}
use Rattle.rules.proofs.Histories.{Holds, in_phase, answer_elim, reached}

-- the steps made and the steps left
abbrev pub Soon : Shape → Cpu → Type 0
Soon g c = length c.marks + left g c.latest < most_steps g.huge g.cpus c.begun

pub rest_soon : (g : Shape) → Soon g resting
unfolding left
rest_soon g = omega arith

most_is : (z : Zone) → most_get (shape_of z) ≡ 330 * (3 * (((shape_of z).huge + 31) / 32) + length z.cpus + 33)
unfolding search_steps trees_of
most_is z = refl

-- one CPU changes
one_soon : (g : Shape) (cs : ℕ → Cpu) (j : ℕ) (c : Cpu) → ((k : ℕ) → Soon g (cs k)) → Soon g c → (k : ℕ) → Soon g (upd cs j c k)
one_soon g cs j c h q k = elim (ℕ_discrete j k) [
  | yes e ↦ subst (Soon g) (sym (upd_at cs j c k e)) q
  | no m ↦ subst (Soon g) (sym (upd_other cs j c k m)) (h k)
]

-- an answer that goes on has fewer steps left than m
abbrev Less : Shape → ℕ → Next → Type 0
Less g m x = by_next x (Unit {0}) (λ r. Passes (step_range g r) × (left g r < m))

module _ (n : ℕ) (s : State) (h : Holds n s) where
  abbrev g : Shape
  g = shape_of s.zone

  abbrev All : State → Type 0
  All x = (k : ℕ) → Soon (shape_of x.zone) (x.cpus k)

  -- beginnings store nothing
  get_shape : (j o : ℕ) → shape_of (after s.zone (begin_get s.zone j o)) ≡ g
  unfolding begin_get stored
  get_shape j o = guarded_elim (λ (p : Plan). shape_of (after s.zone p) ≡ g) _ _ (refl, (refl, (refl, (refl, (refl, (refl, tt)))))) (λ m. refl)

  put_shape : (p : Plan) (j i : ℕ) → planned s (put j i) ≡ p → shape_of (after s.zone p) ≡ g
  unfolding planned begin_put stored
  put_shape p j i e = subst (λ (p : Plan). shape_of (after s.zone p) ≡ g) e (guarded_elim (λ (p : Plan). shape_of (after s.zone p) ≡ g) _ _ (refl, (refl, (refl, (refl, (refl, (refl, (refl, (refl, tt)))))))) (λ m. refl))

  module _ (all : All s) where
    get_soon : (j o : ℕ) → All (next s (call (get j o)))
    unfolding next planned answered_by
    get_soon j o = go (next_of (begin_get s.zone j o).answer) (get_begun s.zone j o)
      where
        x : State
        x = stored_by s (get j o)

        same : (k : ℕ) → Soon (shape_of x.zone) (s.cpus k)
        same k = subst (λ g. Soon g (s.cpus k)) (sym (get_shape j o)) (all k)

        go : (y : Next) → Less g (most_get g) y → All (by_next y x (λ r. with_cpu x j (record { latest = r; begun = getting (order_of o); marks = [] }) s.held))
        go ends q = same
        go (goes_on r) q = one_soon _ s.cpus j _ same (subst (λ g. Soon g (record { latest = r; begun = getting (order_of o); marks = [] })) (sym (get_shape j o)) (omega (arith, q.1, most_is s.zone)))

    put_soon : (j i : ℕ) → All (next s (call (put j i)))
    unfolding next planned answered_by
    put_soon j i = go (next_of (planned s (put j i)).answer) (put_begun s.zone j _ _)
      where
        x : State
        x = stored_by s (put j i)

        same : (k : ℕ) → Soon (shape_of x.zone) (s.cpus k)
        same k = subst (λ g. Soon g (s.cpus k)) (sym (put_shape _ j i refl)) (all k)

        go : (y : Next) → Less g most_put y → All (by_next y x (λ r. with_cpu x j (record { latest = r; begun = putting (held_at s i); marks = [] }) (without s.held i)))
        go ends q = same
        go (goes_on r) q = one_soon _ s.cpus j _ same (subst (λ g. Soon g (record { latest = r; begun = putting (held_at s i); marks = [] })) (sym (put_shape _ j i refl)) (omega (arith, q.1)))

    step_soon : (j : ℕ) → All (next s (call (step_of j)))
    unfolding next planned answered_by
    step_soon j = rw (upd_at s.cpus j c j refl) (go (next_of p.answer) (step_falls s.zone (s.cpus j).latest) (handed (s.cpus j).begun p.answer))
      where
        p : Plan
        p = step s.zone (s.cpus j).latest

        c : Cpu
        c = record { latest = (s.cpus j).latest; begun = (s.cpus j).begun; marks = p.mark ∷ (s.cpus j).marks }

        x : State
        x = stored_by s (step_of j)

        G : Shape
        G = shape_of (after s.zone p)

        same : (k : ℕ) → Soon G (s.cpus k)
        same k = subst (λ g. Soon g (s.cpus k)) (sym (after_shape s.zone (s.cpus j).latest)) (all k)

        twice : (d : Cpu) → Soon G d → (k : ℕ) → Soon G (upd (upd s.cpus j c) j d k)
        twice d q k = subst (λ (f : ℕ → Cpu). Soon G (f k)) (sym (upd_twice s.cpus j c d)) (one_soon G s.cpus j d same q k)

        go : (y : Next) → Less g (left g (s.cpus j).latest) y → (hs : List Block) → All (by_next y (with_cpu x j resting (hs ++ s.held)) (λ r. with_cpu x j (record { latest = r; begun = c.begun; marks = c.marks }) s.held))
        go ends q hs = twice resting (rest_soon G)
        go (goes_on r) q hs = twice (record { latest = r; begun = c.begun; marks = c.marks }) (subst (λ g. Soon g (record { latest = r; begun = c.begun; marks = c.marks })) (sym (after_shape s.zone (s.cpus j).latest)) (omega (arith, q.1, all j)))

    close_soon : s.phase ≡ ready → All (next s (call close))
    unfolding next planned answered_by stored
    close_soon e = go (closes n s.zone s.cpus s.held s.lost u)
      where
        u : Up n s.zone s.cpus s.held s.lost
        u = in_phase n s h ready e

        x : State
        x = stored_by s close

        go : Closes n s.zone s.cpus s.held s.lost u (close_zone s.zone) → All (answered_by x close (close_zone s.zone).answer)
        go (inl q) = rw q.0 (λ k. rest_soon _)
        go (inr q) = answer_elim All (close_zone s.zone).answer (λ f. cut_off x x.zone) (λ r. x) x (λ f r k. rest_soon _) (λ r p. let m : number (close_zone s.zone).answer ≡ 1 = ap number p in absurd (omega (arith, q.0))) (λ p. rw q.1 all)

  -- outside an open zone nothing is under way
  still_soon : (x : State) → x.cpus ≡ still → All x
  still_soon x e k = rw e (rest_soon _)

  first_soon : s.phase ≡ down → All (next s (call open_first))
  unfolding next answered_by
  first_soon e = go (next_of (planned s open_first).answer)
    where
      x : State
      x = stored_by s open_first

      go : (y : Next) → All (by_next y x (λ r. with_phase x (opening r)))
      go ends = still_soon x (in_phase n s h down e).1
      go (goes_on r) = still_soon (with_phase x (opening r)) (in_phase n s h down e).1

  later_soon : (r : Record) → s.phase ≡ opening r → All (next s (call open_later))
  unfolding next answered_by
  later_soon r e =
      let x : State = stored_by s open_later in
      let q : s.cpus ≡ still = (in_phase n s h (opening r) e).1 in
      answer_elim All (planned s open_later).answer (λ f. with_phase x ready) (λ r. with_phase x (opening r)) x (λ f p. still_soon (with_phase x ready) q) (λ r p. still_soon (with_phase x (opening r)) q) (λ p. still_soon x q)

  pub event_soon : All s → (e : Event) → Admitted s e → All (next s e)
  unfolding next
  event_soon all (call (get j o)) a = get_soon all j o
  event_soon all (call (put j i)) a = put_soon all j i
  event_soon all (call (step_of j)) a = step_soon all j
  event_soon all (call close) a = close_soon all a
  event_soon all (call open_first) a = first_soon a
  event_soon all (call open_later) a = later_soon a.0 a.1
  event_soon all (cut ts es) a = λ k. rest_soon _
  event_soon all (cut_in c ts es) a = λ k. rest_soon _

all_soon : (n : ℕ) (s : State) → Reach n s → (j : ℕ) → Soon (shape_of s.zone) (s.cpus j)
all_soon n s (start z f) = λ j. rest_soon _
all_soon n s (then {s = x} e r a) = event_soon n x (reached n x r) (all_soon n x r) e a

pub soon : (n : ℕ) (s : State) → Reach n s → (j : ℕ) → length (s.cpus j).marks < most_steps (shape_of s.zone).huge (length s.zone.cpus) (s.cpus j).begun
soon n s r j = omega (arith, all_soon n s r j)

pub left_soon : (n : ℕ) (s : State) → Reach n s → (j : ℕ) → left (shape_of s.zone) (s.cpus j).latest < most_steps (shape_of s.zone).huge (length s.zone.cpus) (s.cpus j).begun
left_soon n s r j = omega (arith, all_soon n s r j)

-- a step that goes on leaves one mark more
pub step_counts : (s : State) (j : ℕ) → number (planned s (step_of j)).answer ≡ 1 → length ((next s (call (step_of j))).cpus j).marks ≡ suc (length (s.cpus j).marks)
unfolding next answered_by
step_counts s j =
    let x : State = stored_by s (step_of j) in
    let a : Answer = (planned s (step_of j)).answer in
    let m : Mark = (planned s (step_of j)).mark in
    let c : Cpu = record { latest = (s.cpus j).latest; begun = (s.cpus j).begun; marks = m ∷ (s.cpus j).marks } in
    let goes : Record → State = λ r. with_cpu x j (record { latest = r; begun = (x.cpus j).begun; marks = (x.cpus j).marks }) s.held in
    answer_elim (λ y. number a ≡ 1 → length ((by_next y (with_cpu x j resting (handed (x.cpus j).begun a ++ s.held)) goes).cpus j).marks ≡ suc (length (s.cpus j).marks)) a (λ f. ends) goes_on ends
    (λ f e q. let k : number a ≡ 0 = ap number e in absurd (omega arith))
    (λ r e q. ap (λ (y : Cpu). length y.marks) (upd_at x.cpus j _ j refl) ∙ ap (λ (y : Cpu). length y.marks) (upd_at s.cpus j c j refl))
    (λ h q. absurd (omega arith))
