use mathlib.Core.Path.{refl, ◌∙◌}
use native.Mathlib.Omega.{arith}
use borrow.Author.Rules.{rules}
use Rattle.looks.specs.Entries.{flag_in}
use Rattle.looks.specs.Looks.{flags_empty_in}
use Rattle.looks.proofs.Loops.{every_ran, lacks, has, every_same}
use Rattle.looks.proofs.Entries.{flag_same}
use Rattle.looks.proofs.flags_empty.Goals as goal

pub returns-then-words-children : goal.returns-then-words-children
unfolding flags_empty_in
returns-then-words-children c = lacks refl _ c.if-words-children.true

pub returns : goal.returns
unfolding flags_empty_in
returns c = has refl c.if-words-children.false (every_ran _ (flag_in c.args.children.now c.args.words.now) c.all.ensures.ran refl (λ x b q k. search rules) ∙ every_same refl (λ i l. flag_same _ _ l _ (omega arith)))
