-- The looks at tables that fit a zone are the rules' own.
use mathlib.Core.Path.{◌≡◌, refl, sym, ap, ap₂}
use mathlib.Core.Bool.{true}
use mathlib.Core.List.{List}
use Prim.Native.Nat.{ℕ, ◌/◌, ◌≤◌, ◌<◌}
use native.Mathlib.Omega.{arith}
use lib.Dec.{eqb}
use lib.ListN.{length, get_or}
use Rattle.laws.specs.Tests.{pick, every}
use Rattle.rules.specs.Numbers.{child_frames, child_words, Shape as Rules, trees_of}
use Rattle.rules.specs.Conversions.{huge, tree}
use Rattle.rules.specs.Lower.{well_formed, is_flagged, count_in, zero_bits, empty_field}
use Rattle.rules.specs.Zone.{Zone}
use Rattle.rules.specs.Open.{child_at, zeros_at, children_formed, flags_empty, trees_formed, cpus_formed, child_settled, tree_count, cpu_count, child_count, tree_settled}
use Rattle.rules.proofs.Fresh.{child_at_lem}
use Rattle.rules.proofs.Phases.{zeros_at_lem}
use Rattle.places.specs.Shapes.{shape_of}
use Rattle.places.proofs.Ranges.{trees_same}
use Rattle.calls.specs.Results.{zone, Fits}
use Rattle.looks.specs.Types.{Shape}
use Rattle.looks.specs.Looks.{children_formed_in, flags_empty_in, children_settled_in, trees_formed_in, cpus_formed_in, trees_settled_in}
use Rattle.looks.proofs.Loops.{has, every_same}

module _ (s : Shape) (h w c t p : List ℕ) (f : Fits s w c t p) where
  abbrev g : Rules
  g = shape_of s

  abbrev z : Zone
  z = zone h w c t p

  all_children : length c ≡ g.huge
  all_children = f.lengths.1.0

  all_fields : length c ≤ length w / child_words
  all_fields = omega (arith, f.lengths.0, f.lengths.1.0)

  child_same : (i : ℕ) → i < length c → get_or c i 0 ≡ child_at g z (huge i)
  child_same i l = sym (child_at_lem g (omega arith) z i (omega (arith, all_children)))

  zeros_same : (i : ℕ) → i < length c → zero_bits w i ≡ zeros_at g z (huge i)
  zeros_same i l = sym (zeros_at_lem g (omega arith) z i (omega (arith, all_children)))

  pub zone_formed : children_formed_in c ≡ children_formed g z
  unfolding children_formed_in children_formed
  zone_formed = every_same all_children (λ i l. ap well_formed (child_same i l))

  pub zone_flags : flags_empty_in c w ≡ flags_empty g z
  unfolding flags_empty_in flags_empty empty_field
  zone_flags = sym (has refl all_fields (sym (every_same all_children (λ i l. ap₂ (λ x k. pick (is_flagged x) (eqb k child_frames) true) (child_same i l) (zeros_same i l)))))

  pub zone_counts : children_settled_in c w ≡ every g.huge (λ i. child_settled g z (huge i))
  unfolding children_settled_in child_settled
  zone_counts = sym (has refl all_fields (sym (every_same all_children (λ i l. ap₂ (λ x k. pick (is_flagged x) true (eqb (count_in x) k)) (child_same i l) (zeros_same i l)))))

  pub zone_trees : trees_formed_in s t ≡ trees_formed g z
  unfolding trees_formed_in trees_formed
  zone_trees = sym (has {n = trees_of g} {b = length t} refl (omega (arith, f.lengths.1.1.0, trees_same s)) refl)

  pub zone_cpus : cpus_formed_in s p ≡ cpus_formed g z
  unfolding cpus_formed_in cpus_formed
  zone_cpus = sym (has {n = s.cpus} {b = length p} refl (omega (arith, f.cpus)) refl)

  pub zone_sums : trees_settled_in s c t p ≡ every (trees_of g) (λ i. tree_settled g z (tree i))
  unfolding trees_settled_in tree_settled tree_count cpu_count child_count
  zone_sums = sym (has {n = g.huge} {b = length c} refl (omega (arith, all_children)) (has {n = trees_of g} {b = length t} refl (omega (arith, f.lengths.1.1.0, trees_same s)) (has {n = s.cpus} {b = length p} refl (omega (arith, f.cpus)) refl)))
