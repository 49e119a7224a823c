-- Demand 3: each field of the promise, from the invariant.
use mathlib.Core.Path.{◌≡◌, refl, sym, ap, ◌∙◌, subst}
use mathlib.Core.Logic.{◌⊎◌, inl, inr}
use mathlib.Core.Bool.{true, false, not}
use mathlib.Core.List.{List, [], ◌∷◌}
use Prim.Native.Nat.{ℕ, ◌+◌, ◌*◌, ◌/◌, ◌%◌, ◌≤◌, ◌<◌}
use native.Mathlib.Omega.{arith}
use native.Mathlib.Decide.{dec_lt}
use lib.Dec.{leb}
use lib.ListN.{length, get_or, replicate}
use borrow.Author.Tests.{eq-eqb, lt-leb}
use Rattle.laws.specs.Sum.{sum_l}
use Rattle.laws.proofs.Tests.{pick_elim}
use Rattle.rules.specs.Types.{Run, Order, Block, Record}
use Rattle.rules.specs.Numbers.{child_frames, child_words, format1, Shape, trees_of}
use Rattle.rules.specs.Conversions.{frame}
use Rattle.rules.specs.Blocks.{size, first_of}
use Rattle.rules.specs.Answers.{number}
use Rattle.rules.specs.Zone.{Zone, header_of, header_huge, shaped, shape_of}
use Rattle.rules.specs.Plan.{Plan, Refusal, guarded}
use Rattle.rules.specs.Begin.{order_number, order_of, bad_cpu, bad_order, bad_frame, misaligned, begin_get, begin_put}
use Rattle.rules.specs.Step.{after}
use Rattle.rules.specs.Open.{open_step, settled, close_sound, close_zone}
use Rattle.rules.specs.Fresh.{Fitting}
use Rattle.rules.specs.Events.{lost_by, lost_of, Phase, ready, down, opening, State, cpus_of, held_at, get, put, step_of, close, open_first, open_later, order_of_block, planned, answered_by, call, next, Called, Reach}
use Rattle.rules.specs.Promise.{covers, Inside, AtRest, owned_by, most, most_steps, Names, Promise, Demand3}
use Rattle.rules.proofs.Guards.{guarded_elim}
use Rattle.rules.proofs.Ways.{guarded_none}
use Rattle.rules.proofs.Own.{owned_once, owned_survived}
use Rattle.rules.proofs.Shares.{base_of, whole_of}
use Rattle.rules.proofs.Sizes.{order_again}
use Rattle.rules.proofs.Invariant.{BlockIn, AllIn, Up}
use Rattle.rules.proofs.Readings.{shape_is, open_skips}
use Rattle.rules.proofs.Phases.{lost_told, still, down_huge}
use Rattle.rules.proofs.Turns.{Goes, first_goes, later_goes, op_kept, in_table, stepped, op_huge}
use Rattle.rules.proofs.Ends.{length_replicate}
use Rattle.rules.proofs.Histories.{Phased, Holds, made, in_phase, at_still, inside_at, reached}
use Rattle.rules.proofs.Lengths.{soon, step_counts}
use Rattle.rules.proofs.Losses.{call_lost, loses, lost_inside_lem}
use Rattle.rules.proofs.Rest.{covered_is, block_ends, block_some, covered_out, two_of, rest_taken, rest_trees, rest_reserved, rest_children, rest_sound, rest_settled}

module _ (n : ℕ) (s : State) (h : Holds n s) where
  -- ---- one owner a frame

  once : (f : ℕ) → f < child_frames * n → sum_l (base_of f) s.held + sum_l (whole_of (f / child_frames)) s.held ≤ 1
  once f l = go s.phase h.phased
    where
      go : (p : Phase) → Phased n s p → sum_l (base_of f) s.held + sum_l (whole_of (f / child_frames)) s.held ≤ 1
      go ready u = omega (arith, owned_once n s.zone.children s.zone.words _ _ (owned_survived n s.zone.children s.zone.words _ _ _ u.lower) f l)
      go down d = omega (arith, owned_once n s.zone.children s.zone.words _ _ d.0.kept f l)
      go (opening r) o = omega (arith, owned_once n s.zone.children s.zone.words _ _ (op_kept n s.zone r s.held s.lost o.0) f l)

  apart : (i j f : ℕ) → i < j → j < length s.held → covers (held_at s i) f + covers (held_at s j) f ≤ 1
  apart i j f a b =
      let t = two_of (λ b. covers b f) s.held i j (Block.Run Run.One (frame 0)) a b in
      elim (dec_lt f (child_frames * n)) [
        | yes l ↦ omega (arith, t, covered_is s.held f, once f l)
        | no m ↦ omega (arith, t, covered_out n s.held f h.inside (omega arith))
      ]

  -- the header keeps n in every phase
  huge_kept : header_huge (header_of s.zone) ≡ n
  huge_kept = go s.phase h.phased
    where
      go : (p : Phase) → Phased n s p → header_huge (header_of s.zone) ≡ n
      go ready u = ap (λ (g : Shape). g.huge) (shape_is n s.zone s.cpus s.held s.lost u)
      go down d = down_huge n s.zone s.held s.lost d.0
      go (opening r) o = op_huge n s.zone r s.held s.lost o.0

  inside : (l : List Block) → AllIn n l → (i : ℕ) → i < length l → Inside n (get_or l i (Block.Run Run.One (frame 0)))
  inside l a i m = block_ends n (get_or l i (Block.Run Run.One (frame 0))) (inside_at n l i m a)

  -- ---- at rest

  module _ (r : AtRest s) where
    up : Up n s.zone s.cpus s.held s.lost
    up = in_phase n s h ready r.0

    shape : shape_of s.zone ≡ shaped n s.zone
    shape = shape_is n s.zone s.cpus s.held s.lost up

    close_done : number (planned s close).answer ≡ 0
    unfolding planned close_zone close_sound
    close_done =
        let k : close_sound s.zone ≡ true = rw shape (rest_sound n s.zone s.cpus s.held s.lost up r.1) in
        let m : settled (shape_of s.zone) s.zone ≡ true = rw shape (rest_settled n s.zone s.cpus s.held s.lost up r.1) in
        ap (λ (p : Plan). number p.answer) (open_skips n s.zone s.cpus s.held s.lost up _ _ ∙ guarded_none _ _ (ap not k, (ap not m, tt)))

  -- ---- answers

  step_fine : (j : ℕ) → Called s (step_of j) → (number (planned s (step_of j)).answer ≤ most (s.cpus j).begun) × Names (s.cpus j).begun (planned s (step_of j)).answer
  unfolding planned
  step_fine j (e, b) =
      let u : Up n s.zone s.cpus s.held s.lost = in_phase n s h ready e in
      let k = stepped n s.zone s.cpus s.held s.lost u j (in_table n s.zone s.cpus s.held s.lost u j b) b in
      (k.fine.small, k.fine.names)

  get_small : (j o : ℕ) → Called s (get j o) → (number (planned s (get j o)).answer ≡ 1) ⊎ ((number (planned s (get j o)).answer ≡ 7) ⊎ (number (planned s (get j o)).answer ≡ 3))
  unfolding planned begin_get
  get_small j o (e, i) =
      let Q : Plan → Type 0 = λ (p : Plan). (number p.answer ≡ 1) ⊎ ((number p.answer ≡ 7) ⊎ (number p.answer ≡ 3)) in
      subst Q (sym (open_skips n s.zone s.cpus s.held s.lost (in_phase n s h ready e) (bad_cpu s.zone j ∷ (bad_order o ∷ [])) _)) (guarded_elim Q (bad_cpu s.zone j ∷ (bad_order o ∷ [])) _ (inr (inl refl), (inr (inr refl), tt)) (λ m. inl refl))

  -- a held block passes every check of a put but the CPU's
  aligned : (b : Block) → BlockIn n b → (first_of b).0 % size (order_of (order_number (order_of_block b))) ≡ 0
  aligned (Block.Run v f) i = rw (order_again (Order.Run v)).1 i.1
  aligned (Block.Whole x) i = rw (order_again Order.Nine).1 (omega arith)

  put_small : (j i : ℕ) → Called s (put j i) → (number (planned s (put j i)).answer ≡ 1) ⊎ ((number (planned s (put j i)).answer ≡ 7) × ((next s (call (put j i))).held ≡ s.held))
  unfolding next planned answered_by begin_put guarded
  put_small j i (e, q, m) =
      let u : Up n s.zone s.cpus s.held s.lost = in_phase n s h ready e in
      let b : Block = held_at s i in
      let k : ℕ = order_number (order_of_block b) in
      let l : List Refusal = bad_order k ∷ (bad_frame s.zone (first_of b) ∷ (misaligned k (first_of b) ∷ [])) in
      let Q : Plan → Type 0 = λ (p : Plan). (number p.answer ≡ 1) ⊎ ((number p.answer ≡ 7) × ((answered_by (made (after s.zone p) s.cpus s.phase s.held s.lost) (put j i) p.answer).held ≡ s.held)) in
      let far : leb ((shape_of s.zone).huge * child_frames) (first_of b).0 ≡ false = lt-leb ((shape_of s.zone).huge * child_frames) (first_of b).0 (rw (ap (λ (g : Shape). g.huge) (shape_is n s.zone s.cpus s.held s.lost u)) (omega (arith, block_some b, block_ends n b (inside_at n s.held i m h.inside)))) in
      subst Q (sym (open_skips n s.zone s.cpus s.held s.lost u (bad_cpu s.zone j ∷ l) _)) (pick_elim Q (bad_cpu s.zone j).test (λ c. inr (refl, refl)) (λ c.
      subst Q (sym (guarded_none l _ (ap not (order_again (order_of_block b)).0, (far, (ap not (eq-eqb _ _ (aligned b (inside_at n s.held i m h.inside))), tt))))) (inl refl)))

  first_small : Called s open_first → number (planned s open_first).answer ≡ 1
  unfolding planned
  first_small e = ap number (first_goes n s.zone s.held s.lost (in_phase n s h down e).0).1

  later : (r : Record) → s.phase ≡ opening r → Goes n (after s.zone (open_step s.zone r)) (open_step s.zone r).answer s.held s.lost
  later r e = later_goes n s.zone r s.held s.lost (in_phase n s h (opening r) e).0

  later_small : Called s open_later → number (planned s open_later).answer ≤ 1
  unfolding planned
  later_small (r, e) = rw e (go (later r e))
    where
      go : Goes n (after s.zone (open_step s.zone r)) (open_step s.zone r).answer s.held s.lost → number (open_step s.zone r).answer ≤ 1
      go (inl q) = rw q.1 (omega arith)
      go (inr q) = rw q.0 (omega arith)

  later_rests : Called s open_later → number (planned s open_later).answer ≡ 0 → AtRest (next s (call open_later))
  unfolding next planned answered_by
  later_rests (r, e) = at_still n s h (opening r) e (in_phase n s h (opening r) e).1 (λ x. number (planned x open_later).answer ≡ 0 → AtRest (next x (call open_later))) (go (later r e))
    where
      go : Goes n (after s.zone (open_step s.zone r)) (open_step s.zone r).answer s.held s.lost → number (open_step s.zone r).answer ≡ 0 → AtRest (next (made s.zone still (opening r) s.held s.lost) (call open_later))
      go (inl q) k = let m : number (open_step s.zone r).answer ≡ 1 = ap number q.1 in absurd (omega arith)
      go (inr q) k = rw q.0 (refl, λ j. refl)

  -- ---- lost blocks

  told : (j : ℕ) → lost_of (s.cpus j) ≡ owned_by (s.cpus j).latest
  unfolding lost_by
  told j = go s.phase h.phased
    where
      go : (p : Phase) → Phased n s p → lost_of (s.cpus j) ≡ owned_by (s.cpus j).latest
      go ready u = lost_told (s.cpus j) (u.agrees j)
      go down d = rw d.1 refl
      go (opening r) o = rw o.1 refl

-- ---- a zone to start from

starts : (n c : ℕ) → 0 < n → n ≤ 65536 → 0 < c → c ≤ 64 → (z : Zone) × Fitting n z × (length z.cpus ≡ c)
unfolding trees_of
starts n c a b d e =
    let z : Zone = record { header = 0 ∷ []; words = replicate (child_words * n) 0; children = replicate n 0; trees = replicate (trees_of (record { format = format1; huge = n; cpus = c })) 0; cpus = replicate c 0 } in
    (z, record { size = (a, (omega arith, tt)); header = (refl, tt); tables = (length_replicate (child_words * n) 0, (length_replicate n 0, (length_replicate (trees_of (shaped n z)) 0, (rw (length_replicate c 0) d, (rw (length_replicate c 0) (omega arith), tt))))) }, length_replicate c 0)

promised : (n : ℕ) (s : State) → Reach n s → Holds n s → Promise n s
promised n s w h = record {
  size = huge_kept n s h;
  header = λ e. (in_phase n s h ready e).header;
  apart = apart n s h;
  inside = inside n s h s.held h.inside;
  lost_inside = inside n s h s.lost (lost_inside_lem n s w);
  names = λ j c. (step_fine n s h j c).1;
  taken = λ r. rest_taken n s.zone s.cpus s.held s.lost (up n s h r) r.1;
  opened = later_rests n s h;
  trees = λ r. rw (huge_kept n s h) (rest_trees n s.zone s.cpus s.held s.lost (up n s h r) r.1);
  children = λ r. rw (huge_kept n s h) (rest_children n s.zone s.cpus s.held s.lost (up n s h r) r.1);
  reserved = λ r. rw (huge_kept n s h) (rest_reserved n s.zone s.cpus s.held s.lost (up n s h r) r.1);
  steps = λ j c. (step_fine n s h j c).0;
  gets = get_small n s h;
  puts = put_small n s h;
  open_first = first_small n s h;
  open_later = later_small n s h;
  counts = λ j c. step_counts s j;
  soon = λ j. subst (λ k. length (s.cpus j).marks < most_steps k (cpus_of s) (s.cpus j).begun) (huge_kept n s h) (soon n s w j);
  closes = close_done n s h;
  loses = loses n s h;
  keeps = λ c a. call_lost n s h c;
  told = told n s h;
}

pub demand3 : Demand3
demand3 = record {
  starts = starts;
  only = λ n z f. (f.size.0, omega (arith, f.size.1.0), f.tables.1.1.1.0, omega (arith, f.tables.1.1.1.1.0));
  holds = λ n s r. promised n s r (reached n s r);
}
