use Rattle.rules.specs.Open.{open_step}
use mathlib.Core.Path.{◌∙◌}
use Rattle.capi.proofs.Calls.{followed_not, followed_so, lent}
use Rattle.capi.proofs.lovarntek_open_run.Goals as goal

pub returns-then-rec-ne-RECORD : goal.returns-then-rec-ne-RECORD
returns-then-rec-ne-RECORD c = followed_not _ _ _ _ c.if-rec-ne-RECORD.true c.no_record.ensures c.told_run.ensures

pub returns : goal.returns
returns c = followed_so _ _ _ _ c.if-rec-ne-RECORD.false (c.run-ended.ensures ∙ lent open_step _ _ c.decode-given.ensures) c.told_run-2.ensures
