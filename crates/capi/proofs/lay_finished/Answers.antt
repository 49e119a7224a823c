use Rattle.capi.proofs.Calls.{laid_finished, left_alone}
use Rattle.capi.proofs.lay_finished.Goals as goal

pub returns-then-rec-eq-RECORD : goal.returns-then-rec-eq-RECORD
returns-then-rec-eq-RECORD c = laid_finished _ c.if-rec-eq-RECORD.true

pub returns-else-rec-eq-RECORD : goal.returns-else-rec-eq-RECORD
returns-else-rec-eq-RECORD c = left_alone _ _ c.if-rec-eq-RECORD.false
