-- One child entry by what it says; one child's field of words: its zero bits by frame, and a run of one word's bits set.
use Rattle.std.specs.Prelude.{Option, Some, None}
use mathlib.Core.Path.{◌≡◌, refl, sym, ap, ap₂, ◌∙◌}
use mathlib.Core.Logic.{◌≢◌}
use mathlib.Core.Bool.{true, false}
use mathlib.Core.List.{List}
use Prim.Native.Nat.{ℕ, ◌+◌, ◌-◌, ◌*◌, ◌/◌, ◌%◌, ◌^◌, ◌≤◌, ◌<◌}
use native.Mathlib.Omega.{arith}
use native.Mathlib.Decide.{ℕ_discrete}
use lib.Dec.{eqb}
use lib.ListN.{length, get_or, set}
use lib.Seq.{get_or-set_same, get_or-set_other}
use Rattle.laws.specs.Tests.{pick}
use Rattle.laws.specs.Sum.{sum_to, run, at}
use Rattle.laws.specs.Words.{bit, bits, ones, zeros}
use Rattle.laws.proofs.Tests.{true_false}
use Rattle.laws.proofs.Sum.{run_shift, run_apart, placed, here, elsewhere, sum_ext, sum_point, sum_bound, sum_full, sum_groups}
use Rattle.laws.proofs.Words.{zeros_le, zeros_set, zeros_clear, set_bits, clear_bits}
use Rattle.rules.specs.Types.{ChildEntry}
use Rattle.rules.specs.Numbers.{child_frames, child_words, word_bits}
use Rattle.laws.specs.Fields.{width, split}
use Rattle.rules.specs.Entries.{field}
use Rattle.rules.specs.Lower.{child_layout, child_says, count_word, by_child, well_formed, is_flagged, count_in, recount, zero_bits}
use Rattle.rules.proofs.Layouts.{count_again, ChildView, child_view}

-- ---- an entry

pub counts_entry : (x k : ℕ) → child_says x ≡ Some (ChildEntry.Counts k) → (well_formed x ≡ true) × (is_flagged x ≡ false) × (count_in x ≡ k)
unfolding well_formed is_flagged count_in by_child
counts_entry x k e = rw e (refl, refl, refl)

pub flagged_entry : (x : ℕ) → child_says x ≡ Some ChildEntry.Flagged → (well_formed x ≡ true) × (is_flagged x ≡ true) × (count_in x ≡ 0)
unfolding well_formed is_flagged count_in by_child
flagged_entry x e = rw e (refl, refl, refl)

pub count_fits : (x k : ℕ) → child_says x ≡ Some (ChildEntry.Counts k) → k ≤ child_frames
count_fits x k = go (child_says x) (child_view x)
  where
    go : (e : Option ChildEntry) → ChildView x e → e ≡ Some (ChildEntry.Counts k) → k ≤ child_frames
    go None (ChildView.broken q) e = let z : ◌≡◌ {A = ℕ} 0 1 = cc in absurd (omega arith)
    go (Some (ChildEntry.Counts i)) (ChildView.counts p) e = let q : i ≡ k = cc in omega (arith, p.1.1.0)
    go (Some ChildEntry.Flagged) (ChildView.flagged p) e = let z : ◌≡◌ {A = ℕ} 0 1 = cc in absurd (omega arith)

-- an entry counts a child's frames at most
pub count_few : (x : ℕ) → count_in x ≤ child_frames
unfolding count_in by_child
count_few x = go (child_says x) refl
  where
    go : (e : Option ChildEntry) → child_says x ≡ e → by_child e 0 (λ k. k) 0 ≤ child_frames
    go None e = omega arith
    go (Some (ChildEntry.Counts k)) e = count_fits x k e
    go (Some ChildEntry.Flagged) e = omega arith

-- a well-formed entry says one of two things
pub data Says (x : ℕ) : Type 0 where
  counts : (k : ℕ) → child_says x ≡ Some (ChildEntry.Counts k) → Says x
  flagged : child_says x ≡ Some ChildEntry.Flagged → Says x

pub says : (x : ℕ) → well_formed x ≡ true → Says x
unfolding well_formed by_child
says x = go (child_says x) refl
  where
    go : (e : Option ChildEntry) → child_says x ≡ e → by_child e false (λ k. true) true ≡ true → Says x
    go None q h = true_false (sym h)
    go (Some (ChildEntry.Counts k)) q h = counts k q
    go (Some ChildEntry.Flagged) q h = flagged q

-- the flag alone, the first of the entry's 16 bits
flag_field : (x : ℕ) → field child_layout 0 x ≡ x / 2 ^ 15 % 2
unfolding field split width
flag_field x = refl

pub flag_bit : (x : ℕ) → well_formed x ≡ true → eqb (x / 2 ^ 15 % 2) 1 ≡ is_flagged x
unfolding well_formed is_flagged by_child
flag_bit x = go (child_says x) (child_view x)
  where
    go : (e : Option ChildEntry) → ChildView x e → by_child e false (λ k. true) true ≡ true → eqb (x / 2 ^ 15 % 2) 1 ≡ by_child e false (λ k. false) true
    go None (ChildView.broken q) h = true_false (sym h)
    go (Some (ChildEntry.Counts i)) (ChildView.counts p) h = ap (λ y. eqb y 1) (sym (flag_field x) ∙ p.0)
    go (Some ChildEntry.Flagged) (ChildView.flagged p) h = ap (λ y. eqb y 1) (sym (flag_field x) ∙ p.0)

-- a recount keeps the flag; without a flag the count is the new one
pub recounted : (z x : ℕ) → z ≤ child_frames → well_formed x ≡ true → (well_formed (recount z x) ≡ true) × (is_flagged (recount z x) ≡ is_flagged x) × (count_in (recount z x) ≡ pick (is_flagged x) 0 z)
unfolding recount by_child pick
recounted z x l h = elim (says x h) [
  | counts k e ↦ let q : recount z x ≡ count_word z = rw e refl in rw (q, (counts_entry x k e).1) (counts_entry (count_word z) z (count_again z l))
  | flagged e ↦ let q : recount z x ≡ x = rw e refl in let f = flagged_entry x e in rw (q, f.1) (f.0, refl, f.2)
]

-- ---- a child's field

pub zero_bits_lem : (ws : List ℕ) (c : ℕ) → zero_bits ws c ≤ child_frames
unfolding zero_bits
zero_bits_lem ws c = sum_bound child_words word_bits _ (λ i h. zeros_le word_bits _)

-- its zero bits, frame by frame
pub zero_frames : (ws : List ℕ) (c : ℕ) → zero_bits ws c ≡ sum_to child_frames (λ i. 1 - bit ((child_frames * c + i) % word_bits) (get_or ws ((child_frames * c + i) / word_bits) 0))
unfolding zero_bits zeros
zero_frames ws c =
    let g : ℕ → ℕ = λ i. 1 - bit ((child_frames * c + i) % word_bits) (get_or ws ((child_frames * c + i) / word_bits) 0) in
    sum_ext child_words _ _ (λ i h. sum_ext word_bits _ _ (λ j k.
    let m : (child_frames * c + (i * word_bits + j)) % word_bits ≡ j = omega arith in
    let d : (child_frames * c + (i * word_bits + j)) / word_bits ≡ child_words * c + i = omega arith in
    rw (m, d) refl)) ∙ sym (sum_groups child_words word_bits g)

-- an empty field has no bit set
pub empty_bit : (ws : List ℕ) (f : ℕ) → zero_bits ws (f / child_frames) ≡ child_frames → bit (f % word_bits) (get_or ws (f / word_bits) 0) ≡ 0
empty_bit ws f e =
    let r = sum_full child_frames _ (λ i h. omega arith) (sym (zero_frames ws (f / child_frames)) ∙ e) (f % child_frames) (omega arith) in
    let q : child_frames * (f / child_frames) + f % child_frames ≡ f = omega arith in
    let m : 1 - bit (f % word_bits) (get_or ws (f / word_bits) 0) ≡ 1 = rw q at r in
    omega arith

-- ---- words ws' are ws with the s bits from b on of word p set
pub record BitsSet (p s b : ℕ) (ws ws' : List ℕ) : Type 0 where
  pub others : (q : ℕ) → p ≢ q → get_or ws' q 0 ≡ get_or ws q 0
  pub bits : (j : ℕ) → bit j (get_or ws' p 0) ≡ bit j (get_or ws p 0) + run s b j
  pub zeros : zeros word_bits (get_or ws' p 0) + s ≡ zeros word_bits (get_or ws p 0)

module _ (ws : List ℕ) (p s b : ℕ) (h : p < length ws) (l : b + s ≤ word_bits) where
  pub bits_set : bits s b (get_or ws p 0) ≡ 0 → BitsSet p s b ws (set ws p (get_or ws p 0 + ones s b))
  bits_set e =
      let w : ℕ = get_or ws p 0 in
      record {
        others = λ q n. get_or-set_other ws p q (w + ones s b) 0 (λ e. n (sym e));
        bits = λ j. rw (get_or-set_same ws p (w + ones s b) 0 h) (set_bits s b w j e);
        zeros = rw (get_or-set_same ws p (w + ones s b) 0 h) (zeros_set word_bits s b w e l);
      }

  pub bits_clear : bits s b (get_or ws p 0) ≡ 2 ^ s - 1 → BitsSet p s b (set ws p (get_or ws p 0 - ones s b)) ws
  bits_clear e =
      let w : ℕ = get_or ws p 0 in
      record {
        others = λ q n. sym (get_or-set_other ws p q (w - ones s b) 0 (λ e. n (sym e)));
        bits = λ j. rw (get_or-set_same ws p (w - ones s b) 0 h) (sym (clear_bits s b w j e));
        zeros = rw (get_or-set_same ws p (w - ones s b) 0 h) (sym (zeros_clear word_bits s b w e l));
      }

module _ (c i s b : ℕ) (ws ws' : List ℕ) (h : i < child_words) (l : b + s ≤ word_bits) (r : BitsSet (child_words * c + i) s b ws ws') where
  -- the frames whose bits are set
  pub frames_set : (f : ℕ) → bit (f % word_bits) (get_or ws' (f / word_bits) 0) ≡ bit (f % word_bits) (get_or ws (f / word_bits) 0) + run s (c * child_frames + i * word_bits + b) f
  frames_set f =
      let p : ℕ = child_words * c + i in
      let q : ℕ = f / word_bits in
      let j : ℕ = f % word_bits in
      let e : run s (c * child_frames + i * word_bits + b) f ≡ run s (p * word_bits + b) (q * word_bits + j) = ap₂ (run s) (omega arith) (omega arith) in
      elim (ℕ_discrete p q) [
        | yes m ↦ rw (e, ← m, run_shift (p * word_bits) s b j) (r.bits j)
        | no m ↦ rw (e, r.others q m, run_apart word_bits s p q b j l (omega arith) m) (omega arith)
      ]

  -- the zero bits that the fields lose
  pub zeros_lost : (x : ℕ) → zero_bits ws' x + at c s x ≡ zero_bits ws x
  unfolding zero_bits
  zeros_lost x =
      let z : List ℕ → ℕ → ℕ → ℕ = λ v y j. zeros word_bits (get_or v (child_words * y + j) 0) in
      let same : (y j : ℕ) → child_words * c + i ≢ child_words * y + j → z ws' y j ≡ z ws y j = λ y j n. ap (zeros word_bits) (r.others (child_words * y + j) n) in
      elim (placed c s x) [
        | here e q ↦ rw (q, ← e) (omega (arith, sum_point child_words i (z ws c) (z ws' c) h (λ j k n. same c j (omega arith)), r.zeros))
        | elsewhere n q ↦ rw q (omega (arith, sum_ext child_words (z ws' x) (z ws x) (λ j k. same x j (omega arith))))
      ]
