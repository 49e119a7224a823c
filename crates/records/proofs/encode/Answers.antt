use Rattle.records.specs.Types.{Record}
use Rattle.records.specs.Encoding.{fields_of}
use Rattle.records.proofs.Inverse.{encoded}
use Rattle.records.proofs.encode.Goals as goal

pub returns-in-Finished : goal.returns-in-Finished
unfolding fields_of
returns-in-Finished c = rw c.in-Finished.is (encoded Record.Finished c.held.ensures)

pub returns-in-Get : goal.returns-in-Get
returns-in-Get c = rw c.in-Get.is (encoded _ c.encode_taking.ensures)

pub returns-in-Put : goal.returns-in-Put
returns-in-Put c = rw c.in-Put.is (encoded _ c.encode_giving.ensures)

pub returns-in-Create : goal.returns-in-Create
returns-in-Create c = rw c.in-Create.is (encoded _ c.encode_creating.ensures)

pub returns-in-Open : goal.returns-in-Open
returns-in-Open c = rw c.in-Open.is (encoded _ c.encode_opening.ensures)
