use mathlib.Core.Path.{refl, sym, ◌∙◌}
use native.Mathlib.Omega.{arith}
use Rattle.calls.specs.Results.{went_to}
use Rattle.upper.proofs.Runs.{still_open}
use borrow.Author.Rules.{rules}
use Rattle.put_runs.proofs.block_on.Goals as goal

pub returns-then-fuel-eq0 : goal.returns-then-fuel-eq0
unfolding went_to
returns-then-fuel-eq0 c = refl

pub cleared_on-at-requires : goal.cleared_on-at-requires
cleared_on-at-requires c = (c.requires, omega (arith, c.if-fuel-eq0.false), sym c.block_at.ensures ∙ c.in-Some.is)

pub entry_on-requires : goal.entry_on-requires
entry_on-requires c = (still_open c.requires (search rules) (search rules) refl refl, c.steps_to_entry.ensures, record { child = _; there = sym c.block_at.ensures ∙ c.in-Some.is })

pub returns-in-ToEntry : goal.returns-in-ToEntry
unfolding went_to
returns-in-ToEntry c = (rw c.steps_to_entry.ensures at c.entry_on.ensures) ∙ (rw c.in-ToEntry.is at c.cleared_on-at.ensures)

pub returns-in_default : goal.returns-in_default
unfolding went_to
returns-in_default c = refl
