use mathlib.Core.Path.{refl, sym, ap}
use Prim.Native.Nat.{◌+◌}
use Rattle.upper.proofs.Runs.{still_open}
use Rattle.put_runs.proofs.Steps.{to_entry_step, fault_refused, run_stands, run_stays, run_ends, run_follows}
use borrow.Author.Rules.{rules}
use Rattle.put_runs.proofs.entry_on.Goals as goal

pub returns-then-fuel-steps : goal.returns-then-fuel-steps
returns-then-fuel-steps c = run_stands _ _ _ c.requires.1

pub tree_on-requires : goal.tree_on-requires
tree_on-requires c = (still_open c.requires.0 refl refl refl (search rules), ap (λ n. n + 1) c.requires.1, c.requires.2)

pub returns-in-Ok-true : goal.returns-in-Ok-true
returns-in-Ok-true c = run_ends c.if-fuel-steps.false c.args.block (to_entry_step c.requires.0 c.requires.2.there c.frames.ensures c.add_own.ensures (rw (c.in-Ok-true.is, c.in-Ok-true.field-0-test) refl)) (ap (λ n. n + 1) (sym c.requires.1))

pub returns-in-Ok-false : goal.returns-in-Ok-false
returns-in-Ok-false c = run_follows c.if-fuel-steps.false (to_entry_step c.requires.0 c.requires.2.there c.frames.ensures c.add_own.ensures (rw (c.in-Ok-false.is, c.in-Ok-false.field-0-test) refl)) c.tree_on.ensures

pub returns-in-Err : goal.returns-in-Err
returns-in-Err c = run_stays _ _ (to_entry_step c.requires.0 c.requires.2.there c.frames.ensures c.add_own.ensures (rw c.in-Err.is refl)) (fault_refused c.in-Err.field-0) c.requires.1
