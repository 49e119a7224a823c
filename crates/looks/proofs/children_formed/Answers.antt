use mathlib.Core.Path.{refl, ◌∙◌}
use borrow.Author.Rules.{rules}
use Rattle.looks.specs.Entries.{formed_in}
use Rattle.looks.specs.Looks.{children_formed_in}
use Rattle.looks.proofs.Loops.{every_ran, every_same}
use Rattle.looks.proofs.Entries.{formed_same}
use Rattle.looks.proofs.children_formed.Goals as goal

pub returns : goal.returns
unfolding children_formed_in
returns c = every_ran _ (formed_in c.args.children.now) c.all.ensures.ran refl (λ x b q k. search rules) ∙ every_same refl (λ i l. formed_same _ _ l)
