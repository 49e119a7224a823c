-- A child entry in code: split by shifts and masks, joined again, and what it says by its fields.
use Rattle.std.specs.Prelude.{Option, Some, None}
use mathlib.Core.Path.{◌≡◌, refl, sym, ap, ◌∙◌}
use mathlib.Core.Logic.{◌≢◌}
use mathlib.Core.List.{List, [], ◌∷◌}
use Prim.Native.Nat.{ℕ, suc, ◌-◌, ◌*◌, ◌/◌, ◌%◌, ◌^◌, ◌≤◌, ◌<◌}
use native.Mathlib.Omega.{arith}
use native.Mathlib.Nat.{div-one}
use lib.Bits.{bit_and, bit_or, and_mask}
use Rattle.laws.specs.Tests.{pick, Check, ◌is◌, ◌below◌, passes, Passes}
use Rattle.laws.specs.Fields.{width, split, join}
use Rattle.laws.proofs.Tests.{pick_yes, pick_no, passes_of, fails_of}
use Rattle.laws.proofs.Fields.{masked, joined, shifted}
use Rattle.rules.specs.Numbers.{child_frames}
use Rattle.rules.specs.Entries.{field}
use Rattle.rules.specs.Lower.{child_layout, child_says}
use Rattle.lower.specs.Types.{Fields, ChildEntry}
use Rattle.lower.specs.Steps.{fields_of}

pub child_split : (x : ℕ) → x < 2 ^ 16 → record { a = x / 2 ^ 15; zero = bit_and (x / 2 ^ 10) (2 ^ 5 - 1); count = bit_and x (2 ^ 10 - 1) } ≡ fields_of x
unfolding field split width
child_split x h =
    let a : x / 2 ^ 15 ≡ x / 2 ^ 15 % 2 ^ 1 = omega arith in
    let b : x % 2 ^ 10 ≡ x / 2 ^ 0 % 2 ^ 10 = ap (λ y. y % 2 ^ 10) (sym (div-one x)) in
    ap (λ y. record { a = y; zero = bit_and (x / 2 ^ 10) (2 ^ 5 - 1); count = bit_and x (2 ^ 10 - 1) }) a
    ∙ (ap (λ y. record { a = x / 2 ^ 15 % 2 ^ 1; zero = y; count = bit_and x (2 ^ 10 - 1) }) (masked x 10 5)
    ∙ ap (λ y. record { a = x / 2 ^ 15 % 2 ^ 1; zero = x / 2 ^ 10 % 2 ^ 5; count = y }) (and_mask x 10 ∙ b))

pub child_join : (a k : ℕ) → a < 2 → k < 2 ^ 10 → bit_or ((a * 2 ^ 15) % 2 ^ 16) k ≡ join child_layout (a ∷ 0 ∷ k ∷ [])
unfolding join width
child_join a k h l = joined 10 (shifted 16 a 15 (omega arith)) refl (omega arith) l ∙ omega arith

-- ---- what the fields say

module _ (f : Fields) where
  abbrev counts : List Check
  counts = f.a is 0 ∷ f.zero is 0 ∷ f.count below suc child_frames ∷ []

  abbrev flags : List Check
  flags = f.a is 1 ∷ f.zero is 0 ∷ f.count is 0 ∷ []

  -- the entry of split fields
  abbrev pub said_by : Option ChildEntry
  said_by = pick (passes counts) (Some (ChildEntry.Counts f.count)) (pick (passes flags) (Some ChildEntry.Flagged) None)

flag_small : (x : ℕ) → (fields_of x).a < 2
unfolding field split width
flag_small x = omega arith

-- a is a bit
pub flag_one : (x : ℕ) (f : Fields) → f ≡ fields_of x → f.a ≢ 0 → f.a ≡ 1
flag_one x f e n = let q : f.a ≡ (fields_of x).a = ap (λ (f : Fields). f.a) e in omega (arith, flag_small x)

pub says_fields : (x : ℕ) → said_by (fields_of x) ≡ child_says x
unfolding child_says
says_fields x = refl

module _ (f : Fields) where
  pub says_counts : f.zero ≡ 0 → f.a ≡ 0 → f.count ≤ child_frames → Some (ChildEntry.Counts f.count) ≡ said_by f
  says_counts z a k = sym (pick_yes _ _ _ (passes_of (counts f) (a, (z, (omega arith, tt)))))

  pub says_flagged : f.zero ≡ 0 → f.a ≡ 1 → f.count ≡ 0 → Some ChildEntry.Flagged ≡ said_by f
  says_flagged z a k = sym (pick_no _ _ _ (fails_of (counts f) (λ p. omega (arith, p.0))) ∙ pick_yes _ _ _ (passes_of (flags f) (a, (z, (k, tt)))))

  pub says_damaged : (Passes (counts f) → ⊥) → (Passes (flags f) → ⊥) → None ≡ said_by f
  says_damaged p q = sym (pick_no _ _ _ (fails_of (counts f) p) ∙ pick_no _ _ _ (fails_of (flags f) q))
