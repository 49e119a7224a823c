use mathlib.Core.Path.{◌∙◌}
use Rattle.places.specs.Shapes.{shape_of}
use Rattle.word_stages.proofs.Rules.{full_next, full_last}
use Rattle.word_stages.proofs.word_answer.Goals as goal

pub returns-in-Ok-None : goal.returns-in-Ok-None
returns-in-Ok-None c =
    let none = rw c.in-Ok-None.is at c.in-Ok-None.field-0-is in
    rw (c.in-Ok-None.is, none) (c.get-in-Ok-None.ensures ∙ full_next (shape_of c.args.shape) _ _ _ _ _ _ c.if-word-lt-LAST_WORD.true)

pub returns-in-Ok-None-2 : goal.returns-in-Ok-None-2
returns-in-Ok-None-2 c =
    let none = rw c.in-Ok-None.is at c.in-Ok-None.field-0-is in
    rw (c.in-Ok-None.is, none) (c.get-in-Ok-None-2.ensures ∙ full_last (shape_of c.args.shape) _ _ _ _ _ _ c.if-word-lt-LAST_WORD.false)
