use mathlib.Core.Path.{refl, ◌∙◌}
use Prim.Native.Nat.{◌+◌, ◌-◌}
use native.Mathlib.Omega.{arith}
use borrow.Author.Rules.{rules}
use Rattle.std.proofs.lemmas.Iterator.{YieldsList-from_range, YieldsList-from_map}
use Rattle.std.proofs.lemmas.Iterator.Adapters.{fits_from_length, at_most_from_yields_List, total_from_yields_List}
use Rattle.looks.specs.Entries.{cpu_count_in}
use Rattle.looks.proofs.Loops.{so_many, folded}
use Rattle.looks.proofs.held_of.Goals as goal

-- 255 CPUs at most
pub sum-requires-clause-fits : goal.sum-requires-clause-fits
sum-requires-clause-fits c =
    let n = c.args.shape.cpus in
    fits_from_length _ _ 255 4294967296 (at_most_from_yields_List (YieldsList-from_range 0 n (n - 0) c.map.ensures.source refl) (omega (arith, so_many n))) c.map.ensures.closure (omega arith) (λ x r q k. search rules)

pub returns : goal.returns
returns c =
    let n = c.args.shape.cpus in
    total_from_yields_List (λ a x. a + x) 0 c.sum.result c.sum.ensures.ran
    (YieldsList-from_map _ (λ j. cpu_count_in c.args.shape c.args.tree j c.args.cpus.now) (YieldsList-from_range 0 n n c.map.ensures.source (omega arith)) c.map.ensures.closure (λ x r q k. search rules))
    ∙ folded (λ j. cpu_count_in c.args.shape c.args.tree j c.args.cpus.now) n
