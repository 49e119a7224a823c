use native.Mathlib.Omega.{arith}
use Rattle.records.proofs.Returns.{read_finished, read_get, read_put, read_create, read_open}
use Rattle.records.proofs.read.Goals as goal

pub returns-in-0 : goal.returns-in-0
returns-in-0 c = read_finished _ _ c.split_first-head.ensures c.in-0.is

pub returns-in-1-to-17 : goal.returns-in-1-to-17
returns-in-1-to-17 c = read_get _ _ c.split_first-head.ensures (omega arith) (omega arith) c.taking_at.ensures

pub returns-in-18-to-21 : goal.returns-in-18-to-21
returns-in-18-to-21 c = read_put _ _ c.split_first-head.ensures (omega arith) (omega arith) c.giving_at.ensures

pub returns-in-22-to-26 : goal.returns-in-22-to-26
returns-in-22-to-26 c = read_create _ _ c.split_first-head.ensures (omega arith) (omega arith) c.creating_at.ensures

pub returns-in_default : goal.returns-in_default
returns-in_default c = read_open _ _ c.split_first-head.ensures (omega arith) c.opening_at.ensures
