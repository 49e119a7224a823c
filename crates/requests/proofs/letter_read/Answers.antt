use mathlib.Core.Path.{sym}
use borrow.Author.Tests.{eq-eqb, ne_eqb}
use Rattle.laws.proofs.Tests.{pick_yes, pick_no}
use Rattle.requests.specs.Lines.{letter_read}
use Rattle.requests.proofs.letter_read.Goals as goal

pub returns-then-byte-ne-SPACE : goal.returns-then-byte-ne-SPACE
unfolding letter_read
returns-then-byte-ne-SPACE c = sym (pick_no _ _ _ (ne_eqb _ _ c.if-byte-ne-SPACE.true))

pub returns : goal.returns
unfolding letter_read
returns c = sym (pick_yes _ _ _ (eq-eqb _ _ c.if-byte-ne-SPACE.false))
