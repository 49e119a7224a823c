use mathlib.Core.Path.{refl, ap, ◌∙◌}
use Rattle.rules.specs.Give.{clear, give}
use Rattle.upper.specs.Types.{Giving}
use Rattle.upper.proofs.Arms.{put_cpu, put_tree, put_child, put_word}
use Rattle.upper.proofs.put_step.Goals as goal

pub returns-in-Run : goal.returns-in-Run
unfolding give clear
returns-in-Run c = put_word _ _ c.requires (c.in-Clear.is ∙ ap Giving.Clear c.in-Run.is) refl c.clear.ensures

pub returns-in-Whole : goal.returns-in-Whole
unfolding give clear
returns-in-Whole c = put_child _ _ c.requires (c.in-Clear.is ∙ ap Giving.Clear c.in-Whole.is) refl c.clear_whole.ensures

pub returns-in-Raise : goal.returns-in-Raise
unfolding give
returns-in-Raise c = put_child _ _ c.requires c.in-Raise.is refl c.raise.ensures

pub returns-in-ToEntry : goal.returns-in-ToEntry
unfolding give
returns-in-ToEntry c = put_cpu _ _ c.requires c.in-ToEntry.is refl c.to_entry.ensures

pub returns-in-ToTree : goal.returns-in-ToTree
unfolding give
returns-in-ToTree c = put_tree _ _ c.requires c.in-ToTree.is refl c.to_tree.ensures
