use mathlib.Core.Path.{refl, ◌∙◌}
use native.Mathlib.Omega.{arith}
use borrow.Author.Rules.{rules}
use Rattle.looks.specs.Entries.{settled_in}
use Rattle.looks.specs.Looks.{children_settled_in}
use Rattle.looks.proofs.Loops.{every_ran, lacks, has, every_same}
use Rattle.looks.proofs.Entries.{settled_same}
use Rattle.looks.proofs.children_settled.Goals as goal

pub returns-then-words-children : goal.returns-then-words-children
unfolding children_settled_in
returns-then-words-children c = lacks refl _ c.if-words-children.true

pub returns : goal.returns
unfolding children_settled_in
returns c = has refl c.if-words-children.false (every_ran _ (settled_in c.args.children.now c.args.words.now) c.all.ensures.ran refl (λ x b q k. search rules) ∙ every_same refl (λ i l. settled_same _ _ l _ (omega arith)))
