use mathlib.Core.Path.{refl}
use native.Mathlib.Omega.{arith}
use Rattle.records.specs.Types.{Record}
use Rattle.records.specs.Encoding.{fields_of}
use Rattle.records.proofs.Returns.{read_finished, read_get, read_put, read_create, read_open, encodes_read}
use Rattle.records.proofs.again.Goals as goal

pub returns-in-0 : goal.returns-in-0
unfolding fields_of
returns-in-0 c = encodes_read _ Record.Finished c.held.ensures (read_finished _ _ c.split_first-head.ensures c.in-0.is)

pub returns-in-1-to-17 : goal.returns-in-1-to-17
returns-in-1-to-17 c = encodes_read _ _ c.again_taking.ensures (read_get _ _ c.split_first-head.ensures (omega arith) (omega arith) refl)

pub returns-in-18-to-21 : goal.returns-in-18-to-21
returns-in-18-to-21 c = encodes_read _ _ c.again_giving.ensures (read_put _ _ c.split_first-head.ensures (omega arith) (omega arith) refl)

pub returns-in-22-to-26 : goal.returns-in-22-to-26
returns-in-22-to-26 c = encodes_read _ _ c.encode_creating.ensures (read_create _ _ c.split_first-head.ensures (omega arith) (omega arith) c.creating_at.ensures)

pub returns-in_default : goal.returns-in_default
returns-in_default c = encodes_read _ _ c.encode_opening.ensures (read_open _ _ c.split_first-head.ensures (omega arith) c.opening_at.ensures)
