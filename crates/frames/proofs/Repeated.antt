-- A number read digit by digit keeps its zeros and its value's digits.
use mathlib.Core.Path.{◌≡◌, refl, sym, ap, ap₂, subst, ◌∙◌}
use mathlib.Core.List.{List, [], ◌∷◌, ◌++◌, append_assoc, append-nil}
use Prim.Native.Nat.{ℕ, zero, suc, ◌+◌, ◌*◌, ◌-◌, ◌/◌, ◌%◌, ◌^◌, ◌≤◌, ◌<◌, min}
use native.Mathlib.Omega.{arith}
use native.Mathlib.Nat.{pow-suc}
use native.Mathlib.Decide.{ℕ_discrete}
use borrow.Author.Tests.{eq-eqb, ne_eqb, lt-ltb}
use lib.ListN.{length, replicate, length-append}
use Rattle.io.specs.Digits.{last_digits, hex_digit_ascii, IsDigitCount}
use Rattle.laws.proofs.Tests.{pick_yes, pick_no}
use Rattle.requests.specs.Lines.{most, no_digits, zeros_after, value_after, number_after}
use Rattle.requests.specs.Pieces.{number_of, Digits, written}
use Rattle.requests.specs.declared.Number.{Number}
use Rattle.frames.specs.Repeated.{Spells, Repeated}

-- a digit as it is written
abbrev byte : ℕ → List ℕ
byte d = (48 + d) ∷ []

one_more_zero : (z : ℕ) → replicate z 48 ++ byte 0 ≡ replicate (suc z) 48
one_more_zero zero = refl
one_more_zero (suc z) = ap (λ (l : List ℕ). 48 ∷ l) (one_more_zero z)

digit_glyph : (d : ℕ) → d < 10 → hex_digit_ascii d ≡ 48 + d
digit_glyph d h = rw (lt-ltb d 10 h) refl

-- ---- a digit more on the right of a value's digits

spelled : (v d k : ℕ) → d < 10 → last_digits 10 k v ++ byte d ≡ last_digits 10 (suc k) (10 * v + d)
spelled v d k h =
    let q : (10 * v + d) / 10 ≡ v = omega arith in
    let m : (10 * v + d) % 10 ≡ d = omega arith in
    ap₂ (λ x y. last_digits 10 k x ++ (y ∷ [])) (sym q) (sym (ap hex_digit_ascii m ∙ digit_glyph d h))

one_digit : (d : ℕ) → d < 10 → byte d ≡ last_digits 10 1 d
one_digit d h = let u : 10 * 0 + d ≡ d = omega arith in spelled 0 d 0 h ∙ ap (last_digits 10 1) u

upper : (v d k : ℕ) → d < 10 → v < 10 ^ k → 10 * v + d < 10 ^ suc k
upper v d k h l = let e : 10 ^ suc k ≡ 10 ^ k * 10 = pow-suc 10 k in omega arith

lower : (v d j : ℕ) → 10 ^ (suc (suc j) - 1) ≤ v → 10 ^ (suc (suc (suc j)) - 1) ≤ 10 * v + d
lower v d j h =
    let a : suc (suc j) - 1 ≡ suc j = omega arith in
    let b : suc (suc (suc j)) - 1 ≡ suc (suc j) = omega arith in
    let l : 10 ^ suc j ≤ v = subst (λ i. 10 ^ i ≤ v) a h in
    let e : 10 ^ suc (suc j) ≡ 10 ^ suc j * 10 = pow-suc 10 (suc j) in
    let g : 10 ^ suc (suc j) ≤ 10 * v + d = omega arith in
    subst (λ i. 10 ^ i ≤ 10 * v + d) (sym b) g

few : (v d k : ℕ) → d < 10 → 0 < v → IsDigitCount 10 1 v k → IsDigitCount 10 1 (10 * v + d) (suc k)
few v d zero h p f = absurd (omega (arith, f.0))
few v d (suc zero) h p f = (omega arith, upper v d 1 h f.1, λ l. omega arith)
few v d (suc (suc j)) h p f = (omega arith, upper v d (suc (suc j)) h f.1, λ l. lower v d j (f.2 (omega arith)))

-- ---- a digit more of a number, whose text so far is p

record Kept (p : List ℕ) (n : Number) : Type 0 where
  zeros : n.zeros ≤ length p
  none : n.value ≡ 0 → p ≡ replicate n.zeros 48
  some : 0 < n.value → n.value < most → Spells n p

value_is : (n : Number) (d : ℕ) → value_after n d ≡ min (10 * n.value + d) most
unfolding value_after
value_is n d = refl

module _ (n : Number) (d : ℕ) where
  zero_counted : n.value ≡ 0 → d ≡ 0 → n.zeros < most → zeros_after n d ≡ suc n.zeros
  unfolding zeros_after
  zero_counted e f l = pick_yes _ _ _ (eq-eqb n.value 0 e) ∙ pick_yes _ _ _ (eq-eqb d 0 f) ∙ omega arith

  zeros_at_first : n.value ≡ 0 → (d ≡ 0 → ⊥) → zeros_after n d ≡ n.zeros
  unfolding zeros_after
  zeros_at_first e f = pick_yes _ _ _ (eq-eqb n.value 0 e) ∙ pick_no _ _ _ (ne_eqb d 0 f)

  zeros_later : (n.value ≡ 0 → ⊥) → zeros_after n d ≡ n.zeros
  unfolding zeros_after
  zeros_later e = pick_no _ _ _ (ne_eqb n.value 0 e)

module _ (p : List ℕ) (n : Number) (d : ℕ) (h : d < 10) (l : length p < most) (k : Kept p n) where
  longer : length (p ++ byte d) ≡ length p + 1
  longer = length-append p (byte d)

  first_zeros : n.value ≡ 0 → d ≡ 0 → Kept (p ++ byte d) (number_after n d)
  first_zeros e f = record {
    zeros = omega (arith, z, longer, k.zeros);
    none = λ q. ap₂ (λ t x. t ++ byte x) (k.none e) f ∙ one_more_zero n.zeros ∙ ap (λ i. replicate i 48) (sym z);
    some = λ a b. absurd (omega (arith, value_is n d, a));
  }
    where
      z : zeros_after n d ≡ suc n.zeros
      z = zero_counted n d e f (omega (arith, k.zeros))

  first_digit : n.value ≡ 0 → (d ≡ 0 → ⊥) → Kept (p ++ byte d) (number_after n d)
  first_digit e f = record {
    zeros = omega (arith, z, longer, k.zeros);
    none = λ q. absurd (omega (arith, value_is n d, q));
    some = λ a b. record {
      places = 1;
      fewest = subst (λ x. IsDigitCount 10 1 x 1) (sym w) (omega arith, omega arith, λ c. absurd (omega arith));
      same = ap (λ t. t ++ byte d) (k.none e) ∙ ap₂ (λ i t. replicate i 48 ++ t) (sym z) (one_digit d h ∙ ap (last_digits 10 1) (sym w));
    };
  }
    where
      z : zeros_after n d ≡ n.zeros
      z = zeros_at_first n d e f

      w : value_after n d ≡ d
      w = omega (arith, value_is n d)

  later_digit : (n.value ≡ 0 → ⊥) → Kept (p ++ byte d) (number_after n d)
  later_digit e = record {
    zeros = omega (arith, z, longer, k.zeros);
    none = λ q. absurd (e (omega (arith, value_is n d, q)));
    some = λ a b. after (omega (arith, value_is n d, b)) (k.some (positive n.value e) (omega (arith, value_is n d, b)));
  }
    where
      z : zeros_after n d ≡ n.zeros
      z = zeros_later n d e

      positive : (v : ℕ) → (v ≡ 0 → ⊥) → 0 < v
      positive zero g = absurd (g refl)
      positive (suc v) g = omega arith

      after : value_after n d ≡ 10 * n.value + d → Spells n p → Spells (number_after n d) (p ++ byte d)
      after w s = record {
        places = suc s.places;
        fewest = subst (λ x. IsDigitCount 10 1 x (suc s.places)) (sym w) (few n.value d s.places h (positive n.value e) s.fewest);
        same = ap (λ t. t ++ byte d) s.same ∙ append_assoc (replicate n.zeros 48) (last_digits 10 s.places n.value) (byte d) ∙ ap₂ (λ i t. replicate i 48 ++ t) (sym z) (spelled n.value d s.places h ∙ ap (last_digits 10 (suc s.places)) (sym w));
      }

  one_more : Kept (p ++ byte d) (number_after n d)
  one_more = elim (ℕ_discrete n.value 0) [
    | yes e ↦ elim (ℕ_discrete d 0) [
      | yes f ↦ first_zeros e f
      | no f ↦ first_digit e f
    ]
    | no e ↦ later_digit e
  ]

all_more : (l p : List ℕ) (n : Number) → Digits l → length p + length l < most → Kept p n → Kept (p ++ written l) (number_of n l)
unfolding number_of Digits
all_more [] p n g m k = rw (append-nil p) k
all_more (d ∷ l) p n g m k =
    let e : length (p ++ byte d) ≡ length p + 1 = length-append p (byte d) in
    subst (λ t. Kept t (number_of (number_after n d) l)) (append_assoc p (byte d) (written l)) (all_more l (p ++ byte d) (number_after n d) g.1 (omega arith) (one_more p n d g.0 (omega arith) k))

pub repeated : Repeated
repeated = record {
  number = λ l g m a b. (all_more l [] no_digits g (omega arith) (record { zeros = omega arith; none = λ q. refl; some = λ x y. absurd (omega arith) })).some a b;
}
