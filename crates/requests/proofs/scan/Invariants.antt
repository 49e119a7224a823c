use mathlib.Core.Path.{◌≡◌}
use lib.ListN.{drop}
use Rattle.requests.specs.Pieces.{scanned}
use Rattle.requests.proofs.scan.Given as goal

abbrev pub invariant-loop-at : goal.invariant-loop-at
invariant-loop-at l = scanned (drop l.at l.text) l.at l.so_far ≡ scanned (drop l.from l.text) l.from l.initial.so_far
