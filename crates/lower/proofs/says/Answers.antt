use Rattle.std.specs.Prelude.{Option}
use mathlib.Core.Path.{◌≡◌, ap, ◌∙◌}
use Prim.Native.Nat.{ℕ}
use native.Mathlib.Omega.{arith}
use Rattle.rules.specs.Lower.{child_says}
use Rattle.lower.specs.Types.{Fields, ChildEntry}
use Rattle.lower.specs.Steps.{fields_of}
use Rattle.lower.proofs.Entries.{said_by, says_fields, says_counts, says_flagged, says_damaged, flag_one}
use Rattle.lower.proofs.says.Goals as goal

-- what is shown of the split entry is shown of the entry
whole : {v : Option ChildEntry} {f : Fields} (x : ℕ) → f ≡ fields_of x → v ≡ said_by f → v ≡ child_says x
whole x e p = p ∙ ap said_by e ∙ says_fields x

pub returns-then-e-ne0 : goal.returns-then-e-ne0
returns-then-e-ne0 c = whole c.args.entry c.split_child-e.ensures (says_damaged c.split_child-e.result (λ p. c.if-e-ne0.true p.1.0) (λ p. c.if-e-ne0.true p.1.0))

pub returns-then-e-le-CHILD_FRAMES : goal.returns-then-e-le-CHILD_FRAMES
returns-then-e-le-CHILD_FRAMES c = whole c.args.entry c.split_child-e.ensures (says_counts c.split_child-e.result c.if-e-ne0.false c.if-e-eq0.true c.if-e-le-CHILD_FRAMES.true)

pub returns-then-e-eq0 : goal.returns-then-e-eq0
returns-then-e-eq0 c = whole c.args.entry c.split_child-e.ensures (says_damaged c.split_child-e.result (λ p. omega (arith, c.if-e-le-CHILD_FRAMES.false, p.1.1.0)) (λ p. omega (arith, c.if-e-eq0.true, p.0)))

pub returns-then-e-eq0-2 : goal.returns-then-e-eq0-2
returns-then-e-eq0-2 c = whole c.args.entry c.split_child-e.ensures (says_flagged c.split_child-e.result c.if-e-ne0.false (flag_one c.args.entry c.split_child-e.result c.split_child-e.ensures c.if-e-eq0.false) c.if-e-eq0-2.true)

pub returns : goal.returns
returns c = whole c.args.entry c.split_child-e.ensures (says_damaged c.split_child-e.result (λ p. c.if-e-eq0.false p.0) (λ p. c.if-e-eq0-2.false p.1.1.0))
