-- The two words in code: split by shifts and masks, joined again.
use mathlib.Core.Path.{◌≡◌, ◌∙◌}
use mathlib.Core.List.{[], ◌∷◌}
use Prim.Native.Nat.{ℕ, ◌-◌, ◌*◌, ◌/◌, ◌%◌, ◌^◌, ◌<◌}
use native.Mathlib.Omega.{arith}
use lib.Bits.{bit_and, bit_or}
use Rattle.laws.specs.Fields.{width, split, join}
use Rattle.laws.proofs.Fields.{masked, joined, shifted}
use Rattle.rules.specs.Entries.{field}
use Rattle.records.specs.Layout.{first_layout, second_layout}
use Rattle.records.specs.Encoding.{Joins}
use Rattle.records.specs.Decoding.{head_of, tail_of}

-- `x >> k & 0xff`
abbrev byte : ℕ → ℕ → ℕ
byte x k = bit_and (x / 2 ^ k) (2 ^ 8 - 1)

pub first_split : (x : ℕ) → x < 2 ^ 64
    → record { stage = x / 2 ^ 56; cpu = byte x 48; order = byte x 40; kind = byte x 32; start = byte x 24; child = byte x 16; word = byte x 8 } ≡ head_of x
unfolding field split width
first_split x h =
    let a : x / 2 ^ 56 % 2 ^ 8 ≡ x / 2 ^ 56 = omega arith in
    rw (a, masked x 48 8, masked x 40 8, masked x 32 8, masked x 24 8, masked x 16 8, masked x 8 8)

pub second_split : (x : ℕ) → x < 2 ^ 64 → record { tree = x / 2 ^ 48; base = bit_and (x / 2 ^ 32) (2 ^ 16 - 1); hand = bit_and (x / 2 ^ 16) (2 ^ 16 - 1); from = byte x 8 } ≡ tail_of x
unfolding field split width
second_split x h =
    let a : x / 2 ^ 48 % 2 ^ 16 ≡ x / 2 ^ 48 = omega arith in
    rw (a, masked x 32 16, masked x 16 16, masked x 8 8)

-- `v << k` at 64 bits
abbrev at : ℕ → ℕ → ℕ
at v k = (v * 2 ^ k) % 2 ^ 64

pub first_join : (s u o k a c w : ℕ) → s < 2 ^ 8 → u < 2 ^ 8 → o < 2 ^ 8 → k < 2 ^ 8 → a < 2 ^ 8 → c < 2 ^ 8 → w < 2 ^ 8
    → Joins first_layout (s ∷ u ∷ o ∷ k ∷ a ∷ c ∷ w ∷ 0 ∷ []) (bit_or (bit_or (bit_or (bit_or (bit_or (bit_or (at s 56) (at u 48)) (at o 40)) (at k 32)) (at a 24)) (at c 16)) (at w 8))
unfolding join width
first_join s u o k a c w p₁ p₂ p₃ p₄ p₅ p₆ p₇ =
    let q₁ = shifted 64 s 56 (omega arith) in
    let q₂ = joined 56 q₁ (shifted 64 u 48 (omega arith)) (omega arith) (omega arith) in
    let q₃ = joined 48 q₂ (shifted 64 o 40 (omega arith)) (omega arith) (omega arith) in
    let q₄ = joined 40 q₃ (shifted 64 k 32 (omega arith)) (omega arith) (omega arith) in
    let q₅ = joined 32 q₄ (shifted 64 a 24 (omega arith)) (omega arith) (omega arith) in
    let q₆ = joined 24 q₅ (shifted 64 c 16 (omega arith)) (omega arith) (omega arith) in
    let q₇ = joined 16 q₆ (shifted 64 w 8 (omega arith)) (omega arith) (omega arith) in
    record { word = q₇ ∙ omega arith; fit = (p₁, (p₂, (p₃, (p₄, (p₅, (p₆, (p₇, (omega arith, tt)))))))) }

pub second_join : (t b h j : ℕ) → t < 2 ^ 16 → b < 2 ^ 16 → h < 2 ^ 16 → j < 2 ^ 8 → Joins second_layout (t ∷ b ∷ h ∷ j ∷ 0 ∷ []) (bit_or (bit_or (bit_or (at t 48) (at b 32)) (at h 16)) (at j 8))
unfolding join width
second_join t b h j p₁ p₂ p₃ p₄ =
    let q₁ = shifted 64 t 48 (omega arith) in
    let q₂ = joined 48 q₁ (shifted 64 b 32 (omega arith)) (omega arith) (omega arith) in
    let q₃ = joined 32 q₂ (shifted 64 h 16 (omega arith)) (omega arith) (omega arith) in
    let q₄ = joined 16 q₃ (shifted 64 j 8 (omega arith)) (omega arith) (omega arith) in
    record { word = q₄ ∙ omega arith; fit = (p₁, (p₂, (p₃, (p₄, (omega arith, tt))))) }
