use Rattle.std.specs.Prelude.{Ok}
use mathlib.Core.Path.{sym, ap, ◌∙◌}
use borrow.Author.Tests.{lt-ltb, le-ltb}
use Rattle.laws.specs.Tables.{wrapped}
use Rattle.laws.proofs.Tests.{pick_yes, pick_no}
use Rattle.lower.specs.Steps.{take_run_in}
use Rattle.lower.proofs.take_run.Goals as goal

pub returns-then-words-child : goal.returns-then-words-child
unfolding take_run_in
returns-then-words-child c = sym (pick_no _ _ _ (le-ltb _ _ c.if-words-child.true))

pub returns-then-word-ge-CHILD_WORDS : goal.returns-then-word-ge-CHILD_WORDS
unfolding take_run_in
returns-then-word-ge-CHILD_WORDS c = sym (pick_yes _ _ _ (lt-ltb _ _ c.if-words-child.false) ∙ pick_no _ _ _ (le-ltb _ _ c.if-word-ge-CHILD_WORDS.true))

pub returns : goal.returns
unfolding take_run_in
returns c = ap (wrapped Ok) c.take_at.ensures ∙ sym (pick_yes _ _ _ (lt-ltb _ _ c.if-words-child.false) ∙ pick_yes _ _ _ (lt-ltb _ _ c.if-word-ge-CHILD_WORDS.false))
