use mathlib.Core.Path.{refl}
use Rattle.lower.proofs.Tables.{step_changed, step_out, step_in_lem}
use Rattle.rules.specs.Lower.{fresh_word}
use Rattle.lower.proofs.store_fresh_word.Goals as goal

pub returns-then-words-at : goal.returns-then-words-at
returns-then-words-at c = step_out _ _ _ _ _ c.if-words-at.true

pub returns : goal.returns
unfolding fresh_word
returns c = step_in_lem _ _ _ _ _ c.if-words-at.false (step_changed _ _ _ refl)
