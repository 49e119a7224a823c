use mathlib.Core.Path.{refl, ◌∙◌}
use native.Mathlib.Omega.{arith}
use borrow.Author.Rules.{rules}
use Rattle.rules.specs.Open.{cpus_formed}
use Rattle.looks.specs.Entries.{cpu_formed_in}
use Rattle.looks.specs.Looks.{cpus_formed_in}
use Rattle.looks.proofs.Loops.{every_ran, lacks, has, every_same}
use Rattle.looks.proofs.Entries.{cpu_formed_same}
use Rattle.looks.proofs.cpus_formed.Goals as goal

pub returns-then-cpus-shape : goal.returns-then-cpus-shape
unfolding cpus_formed_in
returns-then-cpus-shape c = lacks refl _ c.if-cpus-shape.true

pub returns : goal.returns
unfolding cpus_formed_in cpus_formed
returns c = has refl c.if-cpus-shape.false (every_ran _ (λ j. cpu_formed_in c.args.shape j c.args.cpus.now) c.all.ensures.ran refl (λ x b q k. search rules) ∙ every_same refl (λ j l. cpu_formed_same _ _ _ (omega arith)))
