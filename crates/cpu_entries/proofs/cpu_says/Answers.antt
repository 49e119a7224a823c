use native.Mathlib.Omega.{arith}
use Rattle.cpu_entries.proofs.Cpus.{says_absent, says_damaged, says_holds}
use Rattle.cpu_entries.proofs.cpu_says.Goals as goal

pub returns-then-word-eq0 : goal.returns-then-word-eq0
returns-then-word-eq0 c = says_absent _ _ c.if-word-eq0.true

pub returns-then-f-eq0 : goal.returns-then-f-eq0
returns-then-f-eq0 c = says_damaged _ _ _ c.split_cpu-f.ensures c.if-word-eq0.false (λ p. omega (arith, c.if-f-eq0.true, p.0))

pub returns-then-f-ne0 : goal.returns-then-f-ne0
returns-then-f-ne0 c = says_damaged _ _ _ c.split_cpu-f.ensures c.if-word-eq0.false (λ p. c.if-f-ne0.true p.1.0)

pub returns-then-children_of-f : goal.returns-then-children_of-f
returns-then-children_of-f c = says_damaged _ _ _ c.split_cpu-f.ensures c.if-word-eq0.false (λ p. omega (arith, c.if-children_of-f.true, c.children_of.ensures, p.1.1.1.0))

pub returns-then-capacity_of-f : goal.returns-then-capacity_of-f
returns-then-capacity_of-f c = says_damaged _ _ _ c.split_cpu-f.ensures c.if-word-eq0.false (λ p. omega (arith, c.if-capacity_of-f.true, c.capacity_of.ensures, p.1.1.1.1.0))

pub returns : goal.returns
returns c = says_holds _ _ _ c.split_cpu-f.ensures c.if-word-eq0.false c.if-f-eq0.false c.if-f-ne0.false (omega (arith, c.if-children_of-f.false, c.children_of.ensures)) (omega (arith, c.if-capacity_of-f.false, c.capacity_of.ensures))
