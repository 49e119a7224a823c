use Rattle.std.specs.Prelude.{Ok}
use mathlib.Core.Path.{sym, ap, ◌∙◌}
use borrow.Author.Tests.{lt-ltb, le-ltb}
use Rattle.laws.proofs.Tests.{pick_yes, pick_no}
use Rattle.lower.specs.Steps.{zeros_in}
use Rattle.lower.proofs.zero_bits.Goals as goal

pub returns-then-words-child : goal.returns-then-words-child
unfolding zeros_in
returns-then-words-child c = sym (pick_no _ _ _ (le-ltb _ _ c.if-words-child.true))

pub returns : goal.returns
unfolding zeros_in
returns c = ap Ok c.zeros_at.ensures ∙ sym (pick_yes _ _ _ (lt-ltb _ _ c.if-words-child.false))
