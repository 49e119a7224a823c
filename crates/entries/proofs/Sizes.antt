-- A zone's size in code: its trees, a tree's children and capacity, and the lengths of the tables.
use mathlib.Core.Path.{◌≡◌, refl, sym}
use mathlib.Core.Logic.{◌≢◌}
use mathlib.Core.Bool.{Bool, true, false}
use Prim.Native.Nat.{ℕ, ◌+◌, ◌*◌, ◌/◌, ◌%◌, ◌≤◌, ◌<◌}
use native.Mathlib.Omega.{arith}
use lib.Dec.{leb}
use borrow.Author.Tests.{leb-true, leb-false}
use Rattle.laws.specs.Tests.{passes}
use Rattle.laws.proofs.Tests.{passes_of, fails_of}
use Rattle.rules.specs.Numbers.{child_words, most_cpus, trees_of, children_of, capacity}
use Rattle.rules.proofs.Shapes.{kids_most}
use Rattle.entries.specs.Types.{Size}
use Rattle.entries.specs.Sizes.{huge_of, shape_of, lengths_of}

module _ (m : Size) where
  pub trees_code : m.0 / 32 + 1 ≡ trees_of (shape_of m)
  unfolding trees_of
  trees_code = omega arith

  -- a tree below the last, the last, and one past it
  pub children_full : (t : ℕ) → t < m.0 / 32 → 32 ≡ children_of (shape_of m) t
  unfolding children_of
  children_full t h = omega arith

  pub children_last : (t : ℕ) → t ≡ m.0 / 32 → m.0 % 32 + 1 ≡ children_of (shape_of m) t
  unfolding children_of
  children_last t h = omega arith

  pub children_none : (t : ℕ) → m.0 / 32 ≤ t → t ≢ m.0 / 32 → 0 ≡ children_of (shape_of m) t
  unfolding children_of
  children_none t h n = omega arith

  pub capacity_most : (t : ℕ) → capacity (shape_of m) t ≤ 16384
  capacity_most t = omega (arith, kids_most (shape_of m) (omega arith) t)

-- the last of the lengths decides where the others are right
pub lengths_last : (m : Size) (w c t p : ℕ) → w ≡ child_words * huge_of m → c ≡ huge_of m → t ≡ trees_of (shape_of m) → p ≢ 0 → leb p most_cpus ≡ passes (lengths_of m w c t p)
lengths_last m w c t p a b d e = go (leb p most_cpus) refl
  where
    go : (x : Bool) → leb p most_cpus ≡ x → x ≡ passes (lengths_of m w c t p)
    go true q = sym (passes_of (lengths_of m w c t p) (a, (b, (d, (omega arith, (omega (arith, leb-true p most_cpus q), tt))))))
    go false q = sym (fails_of (lengths_of m w c t p) (λ h. omega (arith, leb-false p most_cpus q, h.1.1.1.1.0)))
