-- One word: what the code's masks and counts make of it is what the rules say. Stated over the run's size.
use Rattle.std.specs.Prelude.{Some, None, Ok, Err}
use mathlib.Core.Path.{◌≡◌, refl, sym, ap, ◌∙◌}
use mathlib.Core.Logic.{◌≢◌}
use Prim.Native.Nat.{ℕ, suc, ◌+◌, ◌-◌, ◌*◌, ◌/◌, ◌%◌, ◌^◌, ◌≤◌, ◌<◌}
use native.Mathlib.Decide.{ℕ_discrete}
use native.Mathlib.Nat.{add-zero, zero-mul, one-mul, mul-suc, zero-mod, mul-div-le, div-add-mod, mul-le-mul_left, mul-lt-mul_of_pos_left, le_of_mul-le-mul_left, lt_of_mul-lt-mul_left}
use native.Mathlib.Omega.{arith}
use lib.Pow.{high, ones_lt, ones_split}
use lib.Bits.{bit_and, bit_or, and_mask}
use lib.Count.{count_trailing_zeros}
use borrow.Author.Tests.{ne_eqb}
use Rattle.laws.specs.Words.{ones, bits, lowest}
use Rattle.laws.proofs.Tests.{pick_no}
use Rattle.laws.proofs.Words.{bits_free, lowest_le, lowest_free, lowest_below, ones_shl, and_ones, bits_and, or_ones, and_not, and_not_ones, trailing_lowest}
use Rattle.rules.specs.Numbers.{word_bits}
use Rattle.rules.specs.Blocks.{exponent, run_size}
use Rattle.rules.specs.Lower.{told, changed, take_run, clear_run}
use Rattle.rules.proofs.Lower.{take_run_lem, take_none, clear_run_lem}
use Rattle.rules.proofs.Sizes.{not_below, run_some, run_ends, word_of_lem}
use Rattle.lower.specs.Types.{Run, Fault}

-- ---- a run's size, its ones, and where it begins

pub run_within : (v : Run) → run_size v ≤ word_bits
run_within v = omega (arith, run_ends v 0 (omega arith) (zero-mod (run_size v)))

pub ones_low : (s : ℕ) → s ≤ word_bits → (2 ^ word_bits - 1) / 2 ^ (word_bits - s) ≡ 2 ^ s - 1
ones_low s h =
    let k : ℕ = word_bits - s in
    let e : s + k ≡ word_bits = omega arith in
    ap (λ n. (2 ^ n - 1) / 2 ^ k) (sym e) ∙ rw (ones_split s k) (high (2 ^ s - 1) k (ones_lt k))

-- the first bit of the run that holds bit n
run_of : (v : Run) (n : ℕ) → n < 2 ^ 32 → bit_and n ((2 ^ 32 - 1) - (run_size v - 1)) ≡ run_size v * (n / run_size v)
unfolding run_size
run_of v n h =
    let e = and_not 32 n (run_size v - 1) h (omega (arith, run_within v)) in
    omega (arith, e, and_mask n (exponent v), div-add-mod n (run_size v))

-- ---- a word searched run by run: b is a run's first bit, or the word's end, and no run below it is free

pub record Passed (s w b : ℕ) : Type 0 where
  pub at : ℕ
  pub first : b ≡ s * at
  pub within : at ≤ word_bits / s
  pub none : (i : ℕ) → i < at → bits s (s * i) w ≢ 0

-- ---- word w, and a run of s bits; o has as many ones, the lowest

module _ (v : Run) (w : ℕ) (fits : w < 2 ^ word_bits) {s o : ℕ} (is : s ≡ run_size v) (low : o ≡ 2 ^ s - 1) where
  abbrev mask : ℕ → ℕ
  mask b = (o * 2 ^ b) % 2 ^ word_bits

  some : 0 < s
  some = rw is (run_some v)

  whole : s * (word_bits / s) ≡ word_bits
  whole = rw is (word_of_lem v)

  mask_is : (b : ℕ) → b + s ≤ word_bits → mask b ≡ ones s b
  mask_is b h = rw low (ones_shl word_bits s b h)

  -- ---- cleared, where every bit is set

  pub run_cleared : (b : ℕ) → b + run_size v ≤ word_bits → bit_and w (mask b) ≡ mask b → clear_run (run_size v) b w ≡ changed (Ok tt) (bit_and w ((2 ^ word_bits - 1) - mask b))
  run_cleared b l e =
      let h : b + s ≤ word_bits = rw is l in
      let z : bits s b w ≡ 2 ^ s - 1 = bits_and s b w (2 ^ s - 1) (rw (mask_is b h) at e) in
      rw (mask_is b h, ← is) (clear_run_lem s b w z ∙ ap (changed (Ok tt)) (sym (and_not_ones word_bits s b w fits h z)))

  pub run_kept : (b : ℕ) → b + run_size v ≤ word_bits → bit_and w (mask b) ≢ mask b → clear_run (run_size v) b w ≡ told (Err Fault.NotTaken)
  unfolding clear_run
  run_kept b l n =
      let h : b + s ≤ word_bits = rw is l in
      rw (← is) (pick_no _ _ _ (ne_eqb (bits s b w) (2 ^ s - 1) (λ e. n (rw (mask_is b h, and_ones s b w, e) refl))))

  -- ---- searched: the first that is free, from the run of the lowest zero bit on

  abbrev low_bit : ℕ
  low_bit = count_trailing_zeros word_bits ((2 ^ word_bits - 1) - w)

  low_is : low_bit ≡ lowest 1 word_bits w
  low_is = trailing_lowest word_bits w fits

  pub passed_start : Passed s w (bit_and low_bit ((2 ^ 32 - 1) - (s - 1)))
  passed_start =
      let l : low_bit ≤ word_bits = rw low_is (lowest_le 1 word_bits w) in
      record {
        at = low_bit / s;
        first = rw is (run_of v low_bit (omega arith));
        within = le_of_mul-le-mul_left {m = low_bit / s} {n = word_bits / s} (omega (arith, whole, mul-div-le low_bit s)) some;
        none = λ i h e.
            let k : s * i < low_bit = omega (arith, mul-lt-mul_of_pos_left h some, mul-div-le low_bit s) in
            lowest_below 1 word_bits w (s * i) (rw low_is at k) (rw (one-mul (s * i)) (rw (add-zero (s * i)) at (bits_free s (s * i) w 0 e some)));
      }

  module _ {b : ℕ} (p : Passed s w b) where
    passed_le : p.at ≤ lowest s (word_bits / s) w
    passed_le = not_below (λ l. p.none _ l (lowest_free s (word_bits / s) w (omega (arith, p.within))))

    pub passed_all : word_bits ≤ b → told None ≡ take_run (run_size v) w
    passed_all h =
        let l : word_bits / s ≤ p.at = le_of_mul-le-mul_left {m = word_bits / s} {n = p.at} (omega (arith, whole, p.first)) some in
        rw (← is) (sym (take_none s w (omega (arith, passed_le))))

    module _ (h : b < word_bits) where
      passed_room : p.at < word_bits / s
      passed_room = lt_of_mul-lt-mul_left s (omega (arith, whole, p.first))

      passed_ends : b + s ≤ word_bits
      passed_ends = omega (arith, whole, p.first, mul-suc s p.at, mul-le-mul_left {m = suc p.at} {n = word_bits / s} s passed_room)

      pub passed_found : bit_and w (mask b) ≡ 0 → changed (Some b) (bit_or w (mask b)) ≡ take_run (run_size v) w
      passed_found e =
          let z : bits s b w ≡ 0 = bits_and s b w 0 (rw (mask_is b passed_ends) at e ∙ sym (zero-mul (2 ^ b))) in
          let f : bits s (s * p.at) w ≡ 0 = rw (← p.first) z in
          let q : p.at ≡ lowest s (word_bits / s) w = omega (arith, passed_le, not_below (λ l. lowest_below s (word_bits / s) w p.at l f)) in
          rw (mask_is b passed_ends, or_ones s b w z, p.first, ← is, q) (sym (take_run_lem s w (rw q at passed_room)))

      pub passed_more : bit_and w (mask b) ≢ 0 → Passed s w (b + s)
      passed_more n = record {
        at = suc p.at;
        first = omega (arith, p.first, mul-suc s p.at);
        within = passed_room;
        none = λ i l e. elim (ℕ_discrete i p.at) [
          | yes q ↦ n (rw (mask_is b passed_ends, and_ones s b w, p.first) (rw (← q, e) (zero-mul (2 ^ (s * i)))))
          | no q ↦ p.none i (omega arith) e
        ];
      }
