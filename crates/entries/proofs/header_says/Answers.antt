use native.Mathlib.Omega.{arith}
use Rattle.entries.proofs.Headers.{says_broken, says_unmarked, says_running, says_clean}
use Rattle.entries.proofs.header_says.Goals as goal

pub returns-then-h-ne-IDENTIFIER : goal.returns-then-h-ne-IDENTIFIER
returns-then-h-ne-IDENTIFIER c = says_broken _ c.split_header-h.ensures (λ p. c.if-h-ne-IDENTIFIER.true p.0)

pub returns-then-h-ne-FORMAT : goal.returns-then-h-ne-FORMAT
returns-then-h-ne-FORMAT c = says_broken _ c.split_header-h.ensures (λ p. c.if-h-ne-FORMAT.true p.1.0)

pub returns-then-h-eq0 : goal.returns-then-h-eq0
returns-then-h-eq0 c = says_broken _ c.split_header-h.ensures (λ p. omega (arith, c.if-h-eq0.true, p.1.1.0))

pub returns-then-h-gt-MOST_HUGE : goal.returns-then-h-gt-MOST_HUGE
returns-then-h-gt-MOST_HUGE c = says_broken _ c.split_header-h.ensures (λ p. omega (arith, c.if-h-gt-MOST_HUGE.true, p.1.1.1.0))

pub returns-then-h-ne0 : goal.returns-then-h-ne0
returns-then-h-ne0 c = says_broken _ c.split_header-h.ensures (λ p. c.if-h-ne0.true p.1.1.1.1.0)

pub returns-then-h-eq-RUNNING : goal.returns-then-h-eq-RUNNING
returns-then-h-eq-RUNNING c = says_running _ c.split_header-h.ensures c.if-h-ne-IDENTIFIER.false c.if-h-ne-FORMAT.false c.if-h-eq0.false c.if-h-gt-MOST_HUGE.false c.if-h-ne0.false c.if-h-eq-RUNNING.true c.sized.ensures

pub returns-then-h-eq-CLEAN : goal.returns-then-h-eq-CLEAN
returns-then-h-eq-CLEAN c = says_clean _ c.split_header-h.ensures c.if-h-ne-IDENTIFIER.false c.if-h-ne-FORMAT.false c.if-h-eq0.false c.if-h-gt-MOST_HUGE.false c.if-h-ne0.false c.if-h-eq-RUNNING.false c.if-h-eq-CLEAN.true c.sized-then-h-eq-CLEAN.ensures

pub returns : goal.returns
returns c = says_unmarked _ c.split_header-h.ensures c.if-h-eq-RUNNING.false c.if-h-eq-CLEAN.false
