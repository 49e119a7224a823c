use mathlib.Core.Path.{refl, sym, ap, ◌∙◌}
use borrow.Author.Rules.{rules}
use Rattle.calls.specs.Results.{went_to}
use Rattle.opening.specs.Types.{Record}
use Rattle.opening.proofs.Recounts.{of_record}
use Rattle.opening.proofs.way.Goals as goal

pub recount_on-requires : goal.recount_on-requires
recount_on-requires c = (sym c.check.ensures ∙ c.in-Ok.is, search rules)

pub returns-then-first-huge_frames : goal.returns-then-first-huge_frames
returns-then-first-huge_frames c = of_record _ _ (c.in-Open-Children.is ∙ ap Record.Open (rw c.in-Open-Children.is at c.in-Open-Children.field-0-is)) c.recount_on.ensures

pub returns-else-first-huge_frames : goal.returns-else-first-huge_frames
unfolding went_to
returns-else-first-huge_frames c = refl

pub returns-in_default-check : goal.returns-in_default-check
unfolding went_to
returns-in_default-check c = refl

pub returns : goal.returns
unfolding went_to
returns c = refl

pub returns-2 : goal.returns-2
unfolding went_to
returns-2 c = refl
