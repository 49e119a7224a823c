use mathlib.Core.Path.{sym, ◌∙◌}
use native.Mathlib.Omega.{arith}
use Rattle.std.proofs.lemmas.Grind.{common_steps}
use Rattle.calls.proofs.Opened.{few_cpus}
use Rattle.creating.proofs.Checked.{size_wrong, header_wrong, lengths_right, lengths_wrong}
use Rattle.creating.proofs.creatable.Goals as goal

pub returns-then-not-contains : goal.returns-then-not-contains
returns-then-not-contains c = size_wrong _ _ _ _ _ _ (λ a l. grind (arith, common_steps))

pub returns-then-header-ne1 : goal.returns-then-header-ne1
returns-then-header-ne1 c = header_wrong _ _ _ _ _ _ (grind (arith, common_steps)) (grind (arith, common_steps)) c.if-header-ne1.true

pub overflow_cast-result : goal.overflow_cast-result
overflow_cast-result c = omega (arith, few_cpus _ c.args.words c.args.children c.args.trees c.args.cpus (sym c.lengths_fit.ensures ∙ c.if-lengths_fit.true))

pub returns-then-lengths_fit : goal.returns-then-lengths_fit
returns-then-lengths_fit c = lengths_right _ _ _ _ _ _ (grind (arith, common_steps)) (grind (arith, common_steps)) c.if-header-ne1.false (sym c.lengths_fit.ensures ∙ c.if-lengths_fit.true)

pub returns : goal.returns
returns c = lengths_wrong _ _ _ _ _ _ (grind (arith, common_steps)) (grind (arith, common_steps)) c.if-header-ne1.false (sym c.lengths_fit.ensures ∙ c.if-lengths_fit.false)
