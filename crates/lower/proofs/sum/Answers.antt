use Rattle.std.specs.Prelude.{Ok}
use mathlib.Core.Path.{◌≡◌, sym, ap, ◌∙◌}
use Rattle.std.proofs.Common.{rules, arith, ◌^◌, ◌<◌, sum_by}
use borrow.Author.Tests.{le-leb, lt-leb}
use Rattle.laws.proofs.Tests.{pick_yes, pick_no}
use Rattle.rules.specs.Lower.{count_in}
use Rattle.lower.specs.Steps.{sum_in}
use Rattle.lower.proofs.Sums.{part_counts, part_few}
use Rattle.lower.proofs.sum.Goals as goal

pub returns-then-children-gt-MOST_CHILDREN : goal.returns-then-children-gt-MOST_CHILDREN
unfolding sum_in
returns-then-children-gt-MOST_CHILDREN c = sym (pick_no _ _ _ (lt-leb _ _ c.if-children-gt-MOST_CHILDREN.true))

pub sum-requires-clause-fits : goal.sum-requires-clause-fits
sum-requires-clause-fits c =
    let h : sum_by count_in c.args.children.now < 2 ^ 32 = omega (arith, part_counts c.args.children.now, part_few c.args.children.now) in
    search rules

pub returns : goal.returns
unfolding sum_in
returns c =
    let e : c.sum.result ≡ sum_by count_in c.args.children.now = search rules in
    ap Ok (e ∙ part_counts _) ∙ sym (pick_yes _ _ _ (le-leb _ _ c.if-children-gt-MOST_CHILDREN.false))
