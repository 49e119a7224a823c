use mathlib.Core.Path.{sym, ◌∙◌}
use Rattle.std.proofs.lemmas.Result.{err_from_is_err_and}
use Rattle.requests.proofs.Scans.{scan_out, scan_byte, scan_goes, scan_whole}
use Rattle.requests.proofs.scan.Goals as goal

pub returns-in_err-next : goal.returns-in_err-next
returns-in_err-next c = let p = err_from_is_err_and c.from_residual.result c.from_residual.ensures.1 in rw p.1 (scan_byte _ _ _ c.loop-at-test.true (sym c.in_err-next.was ∙ c.byte_read.ensures) ∙ c.loop-at.invariant)

pub returns-in-Whole : goal.returns-in-Whole
returns-in-Whole c = scan_whole _ _ _ c.loop-at-test.true (sym c.in_ok-next.was ∙ c.byte_read.ensures) c.in-Whole.is ∙ c.loop-at.invariant

pub loop-at-preserved : goal.loop-at-preserved
loop-at-preserved c = scan_goes _ _ _ c.loop-at-test.true (sym c.in_ok-next.was ∙ c.byte_read.ensures) c.in-GoesOn.is ∙ c.loop-at.invariant

pub returns : goal.returns
returns c = scan_out _ _ _ c.loop-at-test.false ∙ c.loop-at.invariant
