use mathlib.Core.Path.{◌≡◌, ◌∙◌}
use Rattle.std.proofs.Common.{rules, arith, ◌*◌, ◌+◌, ◌^◌, ◌<◌, sum_by, slice_range}
use Rattle.laws.specs.Words.{zeros}
use Rattle.rules.proofs.Fields.{zero_bits_lem}
use Rattle.lower.proofs.Sums.{field_zeros}
use Rattle.lower.proofs.zeros_at.Goals as goal

pub sum-zeros-requires-clause-fits : goal.sum-zeros-requires-clause-fits
sum-zeros-requires-clause-fits c =
    let h : sum_by (zeros 64) (slice_range c.args.words.now (8 * c.args.child) (8 * (c.args.child + 1))) < 2 ^ 32 = omega (arith, field_zeros _ _ c.requires, zero_bits_lem c.args.words.now c.args.child) in
    search rules

pub overflow_cast-result : goal.overflow_cast-result
overflow_cast-result c =
    let e : c.sum-zeros.result ≡ sum_by (zeros 64) (slice_range c.args.words.now (8 * c.args.child) (8 * (c.args.child + 1))) = search rules in
    omega (arith, field_zeros _ _ c.requires, zero_bits_lem c.args.words.now c.args.child)

pub returns : goal.returns
returns c =
    let e : c.sum-zeros.result ≡ sum_by (zeros 64) (slice_range c.args.words.now (8 * c.args.child) (8 * (c.args.child + 1))) = search rules in
    e ∙ field_zeros _ _ c.requires
