use native.Mathlib.Omega.{arith}
use Rattle.requests.proofs.Scans.{digit_is, digit_below, digit_above}
use Rattle.requests.proofs.digit_of.Goals as goal

pub returns-in-48-to-57 : goal.returns-in-48-to-57
returns-in-48-to-57 c = digit_is _ (omega arith) (omega arith)

pub returns-in_default : goal.returns-in_default
returns-in_default c = digit_below _ (omega arith)

pub returns-in_default-2 : goal.returns-in_default-2
returns-in_default-2 c = digit_above _ (omega arith)
