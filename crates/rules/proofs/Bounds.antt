-- The step bounds, by the measure that falls.
use Rattle.std.specs.Prelude.{Option}
use mathlib.Core.Path.{◌≡◌, refl, ap, subst}
use mathlib.Core.Bool.{false, not}
use Prim.Native.Nat.{ℕ, zero, suc, ◌+◌, ◌*◌, ◌/◌, ◌%◌, ◌≤◌, ◌<◌}
use native.Mathlib.Omega.{arith}
use lib.Dec.{eqb, leb}
use lib.ListN.{get_or, length-set}
use borrow.Author.Tests.{eqb-true, leb-false, not-false}
use Rattle.laws.specs.Tests.{passes, Passes}
use Rattle.laws.proofs.Tests.{pick_elim, true_false, all_passed}
use Rattle.rules.specs.Types.{Frame, Order, Header, Record, Answer}
use Rattle.rules.specs.Numbers.{child_frames, Shape, format1, most_huge, trees_of}
use Rattle.rules.specs.Answers.{Next, ends, goes_on, next_of, by_next}
use Rattle.rules.specs.Entries.{field, header_layout, header_checks, marker_of, running, clean, header_says}
use Rattle.rules.specs.Zone.{Zone, header_of, header_huge, shape_of, Store, stored}
use Rattle.rules.specs.Plan.{Plan, carried}
use Rattle.rules.specs.Checks.{not_open, is_malformed}
use Rattle.rules.specs.Ranges.{step_range, taking_in, giving_in, block_in}
use Rattle.rules.specs.Blocks.{size, block_at}
use Rattle.rules.specs.Begin.{order_of, begin_get, begin_put}
use Rattle.rules.specs.Step.{act, step, ran, follow, after, most_get, most_put, search_steps}
use Rattle.rules.specs.Bounds.{Falls, Ends, left, taking_left, giving_left, own_rank, among, Bounds}
use Rattle.rules.proofs.Guards.{NoRefusal, guarded_elim, not_refused, answers, stores}
use Rattle.rules.proofs.Falls.{take_falls, give_falls}

-- a header that is not malformed has a size
pub header_sized : (x : ℕ) → is_malformed (header_says x) ≡ false → (0 < header_huge (header_says x)) × (header_huge (header_says x) ≤ most_huge)
unfolding header_says is_malformed header_huge
header_sized x =
    let n : ℕ = field header_layout 3 x in
    let Q : Option Header → Type 0 = λ h. is_malformed h ≡ false → (0 < header_huge h) × (header_huge h ≤ most_huge) in
    pick_elim Q (passes (header_checks x))
    (λ b.
    let p = all_passed (header_checks x) b in
    let k : (0 < n) × (n ≤ most_huge) = (p.1.1.0, omega (arith, p.1.1.1.0)) in
    pick_elim Q (eqb (marker_of x) running) (λ c e. k) (λ c. pick_elim Q (eqb (marker_of x) clean) (λ d e. k) (λ d e. true_false e)))
    (λ b e. true_false e)

module _ (z : Zone) where
  -- past the refusals that every call on an open zone makes
  pub open_sized : NoRefusal (not_open z) → (0 < (shape_of z).huge) × ((shape_of z).huge ≤ most_huge)
  unfolding header_of
  open_sized n = header_sized (get_or z.header 0 0) n.1.0

  act_falls : 0 < (shape_of z).huge → (r : Record) → Passes (step_range (shape_of z) r) → Falls (shape_of z) (left (shape_of z) r) (carried (shape_of z) z (act (shape_of z) r)).answer
  unfolding act step_range left
  act_falls n+ Record.Finished h = absurd (omega (arith, h.0))
  act_falls n+ (Record.Get cpu s) h = answers (shape_of z) z (Falls (shape_of z) (taking_left (shape_of z) s)) tt _ (take_falls (shape_of z) (omega arith) n+ cpu h.0 s h.1)
  act_falls n+ (Record.Put cpu s) h = answers (shape_of z) z (Falls (shape_of z) (giving_left (shape_of z) s)) tt _ (give_falls (shape_of z) (omega arith) n+ cpu h.0 s h.1)
  act_falls n+ (Record.Create s) h = absurd (omega (arith, h.0))
  act_falls n+ (Record.Open s) h = absurd (omega (arith, h.0))

  pub step_falls : (r : Record) → Falls (shape_of z) (left (shape_of z) r) (step z r).answer
  unfolding step
  step_falls r = guarded_elim (λ p. Falls (shape_of z) (left (shape_of z) r) p.answer) _ _ (tt, (tt, (tt, (tt, (tt, tt))))) (λ n. act_falls (open_sized (n.0, (n.1.0, (n.1.1.0, (n.1.1.1.0, tt))))).0 r (not_refused (step_range (shape_of z) r) n.1.1.1.1.0))

  pub get_begun : (cpu o : ℕ) → Falls (shape_of z) (most_get (shape_of z)) (begin_get z cpu o).answer
  unfolding begin_get step_range taking_in left taking_left own_rank search_steps
  get_begun cpu o = guarded_elim (λ p. Falls (shape_of z) (most_get (shape_of z)) p.answer) _ _ (tt, (tt, (tt, (tt, (tt, (tt, tt)))))) (λ n.
      let e : leb (shape_of z).cpus cpu ≡ false = search in
      ((leb-false _ _ e, tt), omega (arith, leb-false (shape_of z).cpus cpu e)))

  block_in_lem : (k : Order) (f : Frame) → f.0 < (shape_of z).huge * 512 → f.0 % size k ≡ 0 → Passes (block_in (shape_of z) (block_at k f))
  block_in_lem (Order.Run v) f h e = (h, (e, tt))
  block_in_lem Order.Nine f h e = (omega arith, tt)

  pub put_begun : (cpu : ℕ) (f : Frame) (o : ℕ) → Falls (shape_of z) most_put (begin_put z cpu f o).answer
  unfolding begin_put step_range giving_in left giving_left
  put_begun cpu f o = guarded_elim (λ p. Falls (shape_of z) most_put p.answer) _ _ (tt, (tt, (tt, (tt, (tt, (tt, (tt, (tt, tt)))))))) (λ n.
      let e : leb (shape_of z).cpus cpu ≡ false = search in
      let h : leb ((shape_of z).huge * child_frames) f.0 ≡ false = search in
      let a : not (eqb (f.0 % size (order_of o)) 0) ≡ false = search in
      ((leb-false _ _ e, block_in_lem (order_of o) f (leb-false _ _ h) (eqb-true _ _ (not-false _ a))), omega arith))

-- ---- a sequence of steps

falls_less : (g : Shape) (m k : ℕ) (x : Next) → m ≤ k → by_next x (Unit {0}) (λ r. Passes (step_range g r) × (left g r < m)) → by_next x (Unit {0}) (λ r. Passes (step_range g r) × (left g r < k))
falls_less g m k ends h p = tt
falls_less g m k (goes_on r) h p = (p.0, omega (arith, p.1))

falls_next : (g : Shape) (z : Zone) → shape_of z ≡ g → (m : ℕ) (a : Answer) (x : Next) → next_of a ≡ x → by_next x (Unit {0}) (λ r. Passes (step_range g r) × (left g r < suc m)) → Falls g m (by_next x a (λ r. (step z r).answer))
falls_next g z q m a ends e p = rw e tt
falls_next g z q m a (goes_on r) e p = falls_less g (left g r) m (next_of (step z r).answer) (omega (arith, p.1)) (rw q at (step_falls z r))

falls_among : (g : Shape) (zs : ℕ → Zone) → ((i : ℕ) → shape_of (zs i) ≡ g) → (k m : ℕ) (a : Answer) → Falls g (k + m) a → Falls g m (among zs k a)
unfolding among
falls_among g zs q zero m a h = falls_less g (0 + m) m (next_of a) (omega arith) h
falls_among g zs q (suc k) m a h = falls_next g (zs k) (q k) m (among zs k a) (next_of (among zs k a)) refl (falls_among g zs q k (suc m) a (falls_less g (suc k + m) (k + suc m) (next_of a) (omega arith) h))

falls_end : (g : Shape) (x : Next) → by_next x (Unit {0}) (λ r. Passes (step_range g r) × (left g r < 0)) → by_next x (Unit {0}) (λ r. ⊥)
falls_end g ends p = tt
falls_end g (goes_on r) p = omega (arith, p.1)

among_ends : (g : Shape) (zs : ℕ → Zone) → ((i : ℕ) → shape_of (zs i) ≡ g) → (k : ℕ) (a : Answer) → Falls g k a → Ends (among zs k a)
among_ends g zs q k a h = falls_end g (next_of (among zs k a)) (falls_among g zs q k 0 a (falls_less g k (k + 0) (next_of a) (omega arith) h))

-- a run, whose tables change by its own steps alone: none of them stores the header
abbrev SameShape : Zone → Store → Type 0
SameShape z s = shape_of (stored format1 z s) ≡ shape_of z

pub after_shape : (z : Zone) (r : Record) → shape_of (after z (step z r)) ≡ shape_of z
unfolding step stored header_of
after_shape z r = guarded_elim (λ (p : Plan). SameShape z p.store) _ _ (refl, (refl, (refl, (refl, (refl, tt))))) (λ n. stores (shape_of z) z (SameShape z) refl (act (shape_of z) r)
    (λ j e. ap (λ k. record { format = format1; huge = (shape_of z).huge; cpus = k }) (length-set z.cpus j _)) (λ i r k. refl) (λ i v. refl) (λ i v. refl))

follow_ends : (fuel k : ℕ) (a : Answer) (z : Zone) → Falls (shape_of z) fuel a → Ends (follow step fuel k a z).answer
unfolding follow
follow_ends zero k a z h = falls_end (shape_of z) (next_of a) h
follow_ends (suc fuel) k a z h = go (next_of a) refl h (λ r. follow_ends fuel (suc k) (step z r).answer (after z (step z r)))
  where
    go : (x : Next) → next_of a ≡ x → by_next x (Unit {0}) (λ r. Passes (step_range (shape_of z) r) × (left (shape_of z) r < suc fuel))
        → ((r : Record) → Falls (shape_of (after z (step z r))) fuel (step z r).answer → Ends (follow step fuel (suc k) (step z r).answer (after z (step z r))).answer)
        → Ends (by_next x (ran a k z) (λ r. follow step fuel (suc k) (step z r).answer (after z (step z r)))).answer
    go ends e p ih = rw e tt
    go (goes_on r) e p ih = ih r (rw (after_shape z r) (falls_less (shape_of z) (left (shape_of z) r) fuel (next_of (step z r).answer) (omega (arith, p.1)) (step_falls z r)))

-- a run that stands at a record ends before its measure
pub run_ends : (fuel : ℕ) (z : Zone) (r : Record) → left (shape_of z) r < fuel → Ends (follow step fuel 0 (Answer.UnderWay r) z).answer
unfolding follow
run_ends zero z r h = absurd (omega arith)
run_ends (suc m) z r h = follow_ends m 1 (step z r).answer (after z (step z r)) (rw (after_shape z r) (falls_less (shape_of z) (left (shape_of z) r) m (next_of (step z r).answer) (omega arith) (step_falls z r)))

most_get_lem : (n c : ℕ) → most_get (record { format = format1; huge = n; cpus = c }) ≡ 330 * (3 * ((n + 31) / 32) + c + 33)
unfolding search_steps trees_of
most_get_lem n c = refl

pub bounds : Bounds
bounds = record {
  falls = step_falls;
  get = λ n c zs q z e cpu o. subst (λ m. Ends (among zs m (begin_get z cpu o).answer)) (most_get_lem n c) (among_ends _ zs q (most_get _) (begin_get z cpu o).answer (subst (λ h. Falls h (most_get h) (begin_get z cpu o).answer) e (get_begun z cpu o)));
  put = λ n c zs q z e cpu f o. among_ends _ zs q 4 (begin_put z cpu f o).answer (subst (λ h. Falls h most_put (begin_put z cpu f o).answer) e (put_begun z cpu f o));
  get_most = most_get_lem;
  put_most = refl;
  get_run = λ z cpu o. follow_ends (most_get (shape_of z)) 0 (begin_get z cpu o).answer z (get_begun z cpu o);
  put_run = λ z cpu f o. follow_ends most_put 0 (begin_put z cpu f o).answer z (put_begun z cpu f o);
}
