use mathlib.Core.Path.{refl, ap, ◌∙◌}
use Rattle.std.specs.Prelude.{Ok}
use Rattle.calls.specs.Results.{went_to}
use Rattle.upper.proofs.Runs.{still_open}
use Rattle.get_runs.proofs.Steps.{search_in_lem, own_claimed, own_goes, own_stands}
use borrow.Author.Rules.{rules}
use Rattle.get_runs.proofs.own_on.Goals as goal

pub returns-then-fuel-eq0 : goal.returns-then-fuel-eq0
unfolding went_to
returns-then-fuel-eq0 c = simp c.stands.ensures refl

pub child_on-left-requires : goal.child_on-left-requires
child_on-left-requires c = (still_open c.requires refl refl refl (search rules), search_in_lem _ _ _ _ _ _ c.search_in.ensures c.if-search_in.true)

pub last_on-requires : goal.last_on-requires
last_on-requires c = (still_open c.requires (search (rules, c.child_on-left.auto)) (search (rules, c.child_on-left.auto)) refl (search (rules, c.claim_own.auto)), c.in-Last.is)

pub shape_of-cpus-in-Last : goal.shape_of-cpus-in-Last
shape_of-cpus-in-Last c = search (rules, c.claim_own.auto, c.last_on.auto)

pub returns-in-Last : goal.returns-in-Last
unfolding went_to
returns-in-Last c = own_claimed _ _ _ _ c.requires _ c.if-fuel-eq0.false c.frames.ensures c.claim_own.ensures (c.in-Ok-Claimed.is ∙ ap Ok c.in-Ok-Claimed.field-0-is) (c.last_on.ensures ∙ (rw c.in-Last.is at c.child_on-left.ensures))

pub returns-then-search_in : goal.returns-then-search_in
returns-then-search_in c = own_claimed _ _ _ _ c.requires _ c.if-fuel-eq0.false c.frames.ensures c.claim_own.ensures (c.in-Ok-Claimed.is ∙ ap Ok c.in-Ok-Claimed.field-0-is) c.child_on-left.ensures

pub returns-in-Ok-Absent : goal.returns-in-Ok-Absent
returns-in-Ok-Absent c = simp c.stands-in-Ok-Absent.ensures (own_goes _ _ _ _ c.requires _ c.if-fuel-eq0.false c.frames.ensures c.claim_own.ensures (c.in-Ok-Absent.is ∙ ap Ok c.in-Ok-Absent.field-0-is) refl)

pub returns-else-search_in : goal.returns-else-search_in
returns-else-search_in c = simp c.stands-in-Ok-Claimed.ensures (own_goes _ _ _ _ c.requires _ c.if-fuel-eq0.false c.frames.ensures c.claim_own.ensures (c.in-Ok-Claimed.is ∙ ap Ok c.in-Ok-Claimed.field-0-is) refl)

pub returns-in-Ok-Short : goal.returns-in-Ok-Short
returns-in-Ok-Short c = simp c.stands-in-Ok-Short.ensures (own_goes _ _ _ _ c.requires _ c.if-fuel-eq0.false c.frames.ensures c.claim_own.ensures (c.in-Ok-Short.is ∙ ap Ok c.in-Ok-Short.field-0-is) refl)

pub returns-in-Err : goal.returns-in-Err
returns-in-Err c = simp c.stands-in-Err.ensures (own_stands _ _ _ _ c.requires _ c.if-fuel-eq0.false c.frames.ensures c.claim_own.ensures c.in-Err.is)
