use Rattle.capi.proofs.Calls.{laid_down_lem, left_alone}
use Rattle.capi.proofs.lay.Goals as goal

pub returns-then-rec-eq-RECORD : goal.returns-then-rec-eq-RECORD
returns-then-rec-eq-RECORD c = laid_down_lem _ _ c.if-rec-eq-RECORD.true c.encode-words.ensures.0

pub returns-else-rec-eq-RECORD : goal.returns-else-rec-eq-RECORD
returns-else-rec-eq-RECORD c = left_alone _ _ c.if-rec-eq-RECORD.false
