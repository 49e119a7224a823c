use mathlib.Core.Path.{◌∙◌}
use mathlib.Core.List.{[]}
use Rattle.looks.proofs.Loops.{first_fails, first_passes}
use Rattle.looks.proofs.Zones.{zone_formed, zone_flags, zone_trees, zone_cpus}
use Rattle.closing.proofs.sound.Goals as goal

pub returns-then-not-children_formed : goal.returns-then-not-children_formed
returns-then-not-children_formed c = first_fails _ _ (c.children_formed.ensures ∙ zone_formed _ [] _ _ _ _ c.requires) c.if-not-children_formed.true

pub returns-then-not-flags_empty : goal.returns-then-not-flags_empty
returns-then-not-flags_empty c = first_passes _ _ (c.children_formed.ensures ∙ zone_formed _ [] _ _ _ _ c.requires) c.if-not-children_formed.false (first_fails _ _ (c.flags_empty.ensures ∙ zone_flags _ [] _ _ _ _ c.requires) c.if-not-flags_empty.true)

pub returns-then-not-trees_formed : goal.returns-then-not-trees_formed
returns-then-not-trees_formed c = first_passes _ _ (c.children_formed.ensures ∙ zone_formed _ [] _ _ _ _ c.requires) c.if-not-children_formed.false (first_passes _ _ (c.flags_empty.ensures ∙ zone_flags _ [] _ _ _ _ c.requires) c.if-not-flags_empty.false (first_fails _ _ (c.trees_formed.ensures ∙ zone_trees _ [] _ _ _ _ c.requires) c.if-not-trees_formed.true))

pub returns : goal.returns
returns c = first_passes _ _ (c.children_formed.ensures ∙ zone_formed _ [] _ _ _ _ c.requires) c.if-not-children_formed.false (first_passes _ _ (c.flags_empty.ensures ∙ zone_flags _ [] _ _ _ _ c.requires) c.if-not-flags_empty.false (first_passes _ _ (c.trees_formed.ensures ∙ zone_trees _ [] _ _ _ _ c.requires) c.if-not-trees_formed.false (c.cpus_formed.ensures ∙ zone_cpus _ [] _ _ _ _ c.requires)))
