use mathlib.Core.Path.{sym}
use native.Mathlib.Omega.{arith}
use Rattle.laws.proofs.Tests.{fails_of}
use Rattle.entries.proofs.Sizes.{lengths_last}
use Rattle.entries.proofs.Size.lengths_fit.Goals as goal

pub returns-then-words-huge : goal.returns-then-words-huge
returns-then-words-huge c = sym (fails_of _ (λ p. c.if-words-huge.true (omega (arith, p.0))))

pub returns-then-children-huge : goal.returns-then-children-huge
returns-then-children-huge c = sym (fails_of _ (λ p. c.if-children-huge.true (omega (arith, p.1.0))))

pub returns-then-trees : goal.returns-then-trees
returns-then-trees c = sym (fails_of _ (λ p. c.if-trees.true (omega (arith, p.1.1.0))))

pub returns-then-cpus-eq0 : goal.returns-then-cpus-eq0
returns-then-cpus-eq0 c = sym (fails_of _ (λ p. omega (arith, c.if-cpus-eq0.true, p.1.1.1.0)))

pub returns : goal.returns
returns c = lengths_last _ _ _ _ _ (omega arith) (omega arith) (omega arith) c.if-cpus-eq0.false
