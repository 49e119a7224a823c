-- A packed word's outer fields in code: no mask at the top, no shift at the bottom.
use mathlib.Core.Path.{◌≡◌, sym, ap, ◌∙◌}
use Prim.Native.Nat.{ℕ, ◌+◌, ◌-◌, ◌/◌, ◌%◌, ◌^◌, ◌<◌}
use native.Mathlib.Nat.{div-one}
use lib.Bits.{bit_and, and_mask}
use lib.Pow.{shr_mod}

pub top_field : (x k w : ℕ) → x < 2 ^ (w + k) → x / 2 ^ k ≡ x / 2 ^ k % 2 ^ w
top_field x k w h = sym (shr_mod w k h)

pub low_field : (x w : ℕ) → bit_and x (2 ^ w - 1) ≡ x / 2 ^ 0 % 2 ^ w
low_field x w = and_mask x w ∙ ap (λ y. y % 2 ^ w) (sym (div-one x))
