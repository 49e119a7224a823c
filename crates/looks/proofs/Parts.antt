-- A tree's part of the children, lent: its sum, and whether its entries are well-formed.
use mathlib.Core.Path.{◌≡◌, sym, ap, ◌∙◌}
use mathlib.Core.Bool.{Bool, false}
use mathlib.Core.List.{List}
use Prim.Native.Nat.{ℕ, ◌+◌, ◌-◌, ◌*◌, ◌≤◌, ◌<◌}
use native.Mathlib.Omega.{arith}
use lib.ListN.{length, get_or}
use borrow.Author.Tests.{le-leb, lt-leb}
use borrow.Rule.Slice.PartMut.{mid_of}
use Rattle.std.specs.Prelude.{Result}
use Rattle.std.specs.Result.{result_unwrap_or}
use Rattle.laws.specs.Tests.{every}
use Rattle.laws.specs.Parts.{part}
use Rattle.laws.proofs.Tests.{pick_yes, pick_no}
use Rattle.laws.proofs.Parts.{part_length}
use Rattle.rules.specs.Numbers.{most_huge, per_tree, children_of}
use Rattle.rules.specs.Lower.{well_formed, part_sum}
use Rattle.rules.specs.Open.{child_count, opening_sound}
use Rattle.lower.specs.Steps.{sum_in}
use Rattle.entries.specs.Sizes as Sizes
use Rattle.places.specs.Shapes.{shape_of}
use Rattle.places.proofs.Ranges.{children_same}
use Rattle.looks.specs.Types.{Tree, Fault, Shape}
use Rattle.looks.specs.Entries.{child_count_in}
use Rattle.looks.specs.Looks.{children_formed_in, part_formed_in}
use Rattle.looks.proofs.Loops.{lacks, has}

module _ (s : Shape) (t : Tree) (cs : List ℕ) {n : ℕ} (e : n ≡ children_of (Sizes.shape_of s.size) t.0) where
  abbrev a : ℕ
  a = t.0 * per_tree (shape_of s)

  abbrev k : ℕ
  k = children_of (shape_of s) t.0

  kids : n ≡ k
  kids = e ∙ children_same s t.0

  few : k ≤ per_tree (shape_of s)
  unfolding children_of
  few = omega arith

  pub not_counted : length cs < a + n → 0 ≡ child_count_in s t cs
  unfolding child_count_in
  not_counted h = sym (pick_no _ _ _ (lt-leb (a + k) (length cs) (omega (arith, kids))))

  pub counted : a + n ≤ length cs → {x : Result ℕ Fault} → x ≡ sum_in (mid_of a (a + n - a) cs) → result_unwrap_or x 0 ≡ child_count_in s t cs
  unfolding child_count_in child_count sum_in
  counted h q =
      let m : a + n - a ≡ k = omega (arith, kids) in
      let l : length (part a k cs) ≡ k = part_length a k cs (omega (arith, kids)) in
      ap (λ (x : Result ℕ Fault). result_unwrap_or x 0) ((rw m at q) ∙ pick_yes _ _ _ (le-leb (length (part a k cs)) most_huge (omega (arith, l, few))))
      ∙ (ap (part_sum (part a k cs)) l
      ∙ sym (pick_yes _ _ _ (le-leb (a + k) (length cs) (omega (arith, kids)))))

  pub not_formed : length cs < a + n → false ≡ part_formed_in s t cs
  unfolding part_formed_in
  not_formed h = lacks (ap (λ i. a + i) kids) _ h

  pub formed : a + n ≤ length cs → {r : Bool} → r ≡ children_formed_in (mid_of a (a + n - a) cs) → r ≡ part_formed_in s t cs
  unfolding part_formed_in opening_sound children_formed_in
  formed h q =
      let m : a + n - a ≡ k = omega (arith, kids) in
      has (ap (λ i. a + i) kids) h ((rw m at q) ∙ ap (λ i. every i (λ c. well_formed (get_or (part a k cs) c 0))) (part_length a k cs (omega (arith, kids))))
