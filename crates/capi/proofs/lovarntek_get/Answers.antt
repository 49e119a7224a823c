use Rattle.capi.proofs.Calls.{made_not, made_so}
use Rattle.capi.proofs.lovarntek_get.Goals as goal

pub returns-then-rec-ne-RECORD : goal.returns-then-rec-ne-RECORD
returns-then-rec-ne-RECORD c = made_not _ _ _ _ c.if-rec-ne-RECORD.true c.no_record.ensures c.from.ensures

pub returns : goal.returns
returns c = made_so _ _ _ _ c.if-rec-ne-RECORD.false c.begin_get-answer.ensures c.hand_back.ensures c.from-2.ensures
