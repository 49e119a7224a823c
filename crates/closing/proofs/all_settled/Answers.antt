use mathlib.Core.Path.{◌∙◌}
use mathlib.Core.List.{[]}
use Rattle.rules.specs.Open.{settled}
use Rattle.looks.proofs.Loops.{first_fails, first_passes}
use Rattle.looks.proofs.Zones.{zone_counts, zone_sums}
use Rattle.closing.proofs.all_settled.Goals as goal

pub returns-then-not-children_settled : goal.returns-then-not-children_settled
unfolding settled
returns-then-not-children_settled c = first_fails _ _ (c.children_settled.ensures ∙ zone_counts _ [] _ _ _ _ c.requires) c.if-not-children_settled.true

pub returns : goal.returns
unfolding settled
returns c = first_passes _ _ (c.children_settled.ensures ∙ zone_counts _ [] _ _ _ _ c.requires) c.if-not-children_settled.false (c.trees_settled.ensures ∙ zone_sums _ [] _ _ _ _ c.requires)
