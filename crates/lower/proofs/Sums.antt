-- The sums that the code makes over a slice: the zero bits of a child's field, and the counts of a part.
use Rattle.std.specs.Prelude.{sum_by, slice_range}
use Rattle.std.proofs.lemmas.List.Sums.{sum_by_more}
use mathlib.Core.Path.{◌≡◌, refl, ◌∙◌}
use mathlib.Core.List.{List}
use Prim.Native.Nat.{ℕ, zero, suc, ◌+◌, ◌-◌, ◌*◌, ◌≤◌, ◌<◌}
use native.Mathlib.Nat.{zero-add}
use native.Mathlib.Numerals.{add-one}
use native.Mathlib.Omega.{arith}
use lib.ListN.{length, get_or, take, drop, length-drop}
use lib.Seq.{get_or-drop, take-length}
use Rattle.laws.specs.Sum.{sum_to}
use Rattle.laws.specs.Words.{zeros}
use Rattle.laws.proofs.Sum.{sum_bound}
use Rattle.rules.specs.Numbers.{child_frames, child_words, word_bits}
use Rattle.rules.specs.Lower.{zero_bits, count_in, part_sum}
use Rattle.rules.proofs.Fields.{count_few}
use Rattle.lower.specs.Steps.{fields_in}

-- k numbers of a list from a on, added up
sum_taken : (f : ℕ → ℕ) (l : List ℕ) (a k : ℕ) → a + k ≤ length l → sum_by f (take k (drop a l)) ≡ sum_to k (λ i. f (get_or l (a + i) 0))
unfolding sum_to
sum_taken f l a zero h = refl
sum_taken f l a (suc k) h =
    let e = sum_by_more f (drop a l) k 0 (omega (arith, length-drop a l)) in
    rw add-one at e ∙ rw (sum_taken f l a k (omega arith), get_or-drop a l k 0) refl

module _ (ws : List ℕ) (c : ℕ) (h : c < fields_in ws) where
  pub field_zeros : sum_by (zeros 64) (slice_range ws (child_words * c) (child_words * (c + 1))) ≡ zero_bits ws c
  unfolding zero_bits
  field_zeros =
      let e : child_words * (c + 1) - child_words * c ≡ child_words = omega arith in
      rw e (sum_taken (zeros word_bits) ws (child_words * c) child_words (omega arith))

pub part_counts : (cs : List ℕ) → sum_by count_in cs ≡ part_sum cs (length cs)
unfolding part_sum
part_counts cs = rw take-length at (simp zero-add at (sum_taken count_in cs 0 (length cs) (omega arith)))

pub part_few : (cs : List ℕ) → part_sum cs (length cs) ≤ length cs * child_frames
unfolding part_sum
part_few cs = sum_bound (length cs) child_frames (λ c. count_in (get_or cs c 0)) (λ i l. count_few (get_or cs i 0))
