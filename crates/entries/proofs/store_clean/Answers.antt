use native.Mathlib.Omega.{arith}
use Rattle.entries.proofs.Turns.{stored_out, stored_in_lem}
use Rattle.entries.proofs.store_clean.Goals as goal

pub returns-then-header-eq0 : goal.returns-then-header-eq0
returns-then-header-eq0 c = stored_out 0 _ _ (omega arith)

pub returns : goal.returns
returns c = stored_in_lem 0 _ _ (omega arith) c.join_header.ensures
