-- How an open zone begins and ends: the zone that create made keeps the invariant, and a close answered Done leads to a closed zone's.
use mathlib.Core.Path.{◌≡◌, refl, sym, ap, ◌∙◌}
use mathlib.Core.Logic.{◌⊎◌, inl, inr}
use mathlib.Core.Bool.{true, false}
use mathlib.Core.List.{List, [], ◌++◌}
use Prim.Native.Nat.{ℕ, zero, suc, ◌+◌, ◌*◌, ◌/◌, ◌≤◌, ◌<◌}
use native.Mathlib.Omega.{arith}
use native.Mathlib.Nat.{le_of_suc-le-suc}
use lib.ListN.{length, get_or, replicate}
use borrow.Author.Tests.{eqb-true, not-false}
use Rattle.laws.specs.Sum.{sum_to, sum_l}
use Rattle.laws.specs.Words.{zeros}
use Rattle.laws.proofs.Tests.{pick_elim, pick_yes, pick_no, and_both, every_at}
use Rattle.laws.proofs.Sum.{sum_const}
use Rattle.rules.specs.Types.{Block}
use Rattle.rules.specs.Numbers.{child_frames, child_words, word_bits, format1, Shape, trees_of, children_of, capacity}
use Rattle.rules.specs.Answers.{number}
use Rattle.rules.specs.Entries.{header_word, clean, tree_word}
use Rattle.rules.specs.Lower.{fresh_word, fresh_child, well_formed, is_flagged, count_in, zero_bits}
use Rattle.rules.specs.Zone.{Zone, shaped, shape_of, Store, stored}
use Rattle.rules.specs.Plan.{Plan, says}
use Rattle.rules.specs.Create.{done, create_steps}
use Rattle.rules.specs.Open.{child_settled, settled, close_zone}
use Rattle.rules.specs.Fresh.{fresh, Fitting, creates}
use Rattle.rules.specs.Events.{Cpu, lost_all}
use Rattle.rules.proofs.Guards.{guarded_elim}
use Rattle.rules.proofs.Layouts.{count_again}
use Rattle.rules.proofs.Shapes.{child_in_lem}
use Rattle.rules.proofs.Fields.{counts_entry, empty_bit}
use Rattle.rules.proofs.Created.{set_only, length_listed, get_or_listed}
use Rattle.rules.proofs.Fresh.{child_at_lem, runs}
use Rattle.rules.proofs.Own.{free_of}
use Rattle.rules.proofs.Invariant.{free_tree, Up}
use Rattle.rules.proofs.Readings.{shape_is}
use Rattle.rules.proofs.Phases.{Kept, Counted, Down, cut_kept, zeros_at_lem, still, up_still}

-- ---- create

pub length_replicate : (n v : ℕ) → length (replicate n v) ≡ n
length_replicate zero v = refl
length_replicate (suc n) v = ap suc (length_replicate n v)

get_or_replicate : (n v i : ℕ) → i < n → get_or (replicate n v) i 0 ≡ v
get_or_replicate zero v i h = absurd (omega arith)
get_or_replicate (suc n) v zero h = refl
get_or_replicate (suc n) v (suc i) h = get_or_replicate n v i (le_of_suc-le-suc h)

-- a word with no bit set, and an entry that counts every frame
fresh_word_lem : zeros word_bits fresh_word ≡ word_bits
unfolding zeros sum_to fresh_word
fresh_word_lem = refl

fresh_child_lem : (well_formed fresh_child ≡ true) × (is_flagged fresh_child ≡ false) × (count_in fresh_child ≡ child_frames)
unfolding fresh_child
fresh_child_lem = counts_entry _ child_frames (count_again child_frames (omega arith))

module _ (n : ℕ) (z : Zone) (fit : Fitting n z) where
  abbrev made : Zone
  made = fresh (shaped n z)

  -- every field is empty, every entry counts all of it
  fresh_zeros : (c : ℕ) → c < n → zero_bits made.words c ≡ child_frames
  unfolding zero_bits fresh
  fresh_zeros c h = sum_const child_words word_bits _ (λ i l. ap (zeros word_bits) (get_or_replicate (child_words * n) fresh_word (child_words * c + i) (omega arith)) ∙ fresh_word_lem)

  fresh_entry : (c : ℕ) → c < n → get_or made.children c 0 ≡ fresh_child
  unfolding fresh
  fresh_entry c h = get_or_replicate n fresh_child c h

  fresh_free : (c : ℕ) → c < n → free_of made.children made.words c ≡ child_frames
  unfolding free_of
  fresh_free c h = pick_no _ _ _ (ap is_flagged (fresh_entry c h) ∙ fresh_child_lem.1) ∙ fresh_zeros c h

  fresh_kept : Kept n made [] []
  unfolding fresh sum_l
  fresh_kept = record {
    children = length_replicate n fresh_child;
    words = length_replicate (child_words * n) fresh_word;
    formed = λ c h. ap well_formed (fresh_entry c h) ∙ fresh_child_lem.0;
    empty = λ c h e. fresh_zeros c h;
    bits = λ f h. empty_bit made.words f (fresh_zeros (f / child_frames) (omega arith));
    flags = λ c h. pick_no _ _ _ (ap is_flagged (fresh_entry c h) ∙ fresh_child_lem.1);
  }

  fresh_tree : (t : ℕ) → free_tree (shaped n z) made.children made.words t ≡ capacity (shaped n z) t
  unfolding free_tree
  fresh_tree t = omega (arith, sum_const (children_of (shaped n z) t) child_frames _ (λ c l. fresh_free _ (child_in_lem (shaped n z) (omega arith) t c l)))

  fresh_up : Up n made still [] []
  unfolding fresh trees_of children_of free_tree
  fresh_up = up_still n made [] [] fit.size.0 (omega (arith, fit.size.1.0)) refl (rw (length_replicate (length z.cpus) 0) fit.tables.1.1.1.0) (rw (length_replicate (length z.cpus) 0) (omega (arith, fit.tables.1.1.1.1.0))) fresh_kept
      (λ c h. ap count_in (fresh_entry c h) ∙ fresh_child_lem.2 ∙ sym (fresh_free c h))
      (length_listed (trees_of (shaped n z)) _)
      (λ t h. get_or_listed (trees_of (shaped n z)) (λ t. tree_word 0 (capacity (shaped n z) t)) t h ∙ ap (tree_word 0) (sym (fresh_tree t)))
      (λ j h. get_or_replicate (length z.cpus) 0 j (rw (length_replicate (length z.cpus) 0) at h))

pub created_up : (n : ℕ) (z : Zone) → Fitting n z → Up n (creates n z (create_steps (shaped n z))).zone still [] []
created_up n z fit = rw (runs.create n z fit).zone (fresh_up n z fit)

-- ---- close

module _ (n : ℕ) (z : Zone) (cs : ℕ → Cpu) (held lost : List Block) (u : Up n z cs held lost) where
  abbrev g : Shape
  g = shaped n z

  -- in a settled zone every count is true
  counted : settled g z ≡ true → Counted n z
  unfolding settled child_settled free_of
  counted e c h =
      let s = rw (child_at_lem g (omega arith) z c h, zeros_at_lem g (omega arith) z c h) at (every_at n _ (and_both _ _ e).0 c h) in
      pick_elim (λ k. count_in (get_or z.children c 0) ≡ k) (is_flagged (get_or z.children c 0)) (λ b. omega (arith, u.lower.counts c h, pick_yes (is_flagged (get_or z.children c 0)) 0 (zero_bits z.words c) b)) (λ b. eqb-true _ _ (sym (pick_no _ _ _ b) ∙ s))

  -- a close is answered Done and its counts are true, or it is refused
  abbrev pub Closes : Plan → Type 0
  Closes p = ((p ≡ says (Store.header (header_word clean n)) done) × Counted n z) ⊎ ((2 ≤ number p.answer) × (p.store ≡ Store.nothing))

  pub closes : Closes (close_zone z)
  unfolding close_zone
  closes = guarded_elim Closes _ _ (inr (omega arith, refl), (inr (omega arith, refl), (inr (omega arith, refl), (inr (omega arith, refl), (inr (omega arith, refl), (inr (omega arith, refl), tt))))))
      (λ m. inl (ap (λ (x : Shape). says (Store.header (header_word clean x.huge)) done) (shape_is n z cs held lost u), counted (rw (shape_is n z cs held lost u) at (not-false (settled (shape_of z) z) m.1.1.1.1.1.0))))

  pub close_down : Counted n z → Down n (stored format1 z (Store.header (header_word clean n))) held (lost_all (length z.cpus) cs ++ lost)
  unfolding stored
  close_down e = record {
    some = u.some;
    small = u.small;
    header = inr (set_only z.header (header_word clean n) (ap length u.header), e);
    trees = u.upper.trees;
    some_cpu = u.some_cpu;
    few_cpus_lem = u.few_cpus_lem;
    kept = cut_kept n z cs held lost u;
  }
