use mathlib.Core.Path.{sym, ◌∙◌}
use Prim.Native.Nat.{◌+◌, ◌*◌, ◌^◌, ◌≤◌, ◌<◌}
use lib.ListN.{get_or}
use Rattle.std.proofs.Common.{rules}
use native.Mathlib.Omega.{arith}
use borrow.Author.Tests.{lt-ltb, le-ltb, lt-leb, le-leb}
use Rattle.laws.proofs.Tests.{pick_yes, pick_no}
use Rattle.rules.specs.Numbers.{word_bits}
use Rattle.rules.specs.Blocks.{run_size}
use Rattle.rules.specs.Lower.{clear_run}
use Rattle.lower.proofs.Tables.{step_told, step_changed}
use Rattle.lower.proofs.Leaf.{run_cleared, run_kept}
use Rattle.lower.specs.Steps.{clear_run_in}
use Rattle.lower.proofs.clear_run.Goals as goal

pub returns-then-words-child : goal.returns-then-words-child
unfolding clear_run_in
returns-then-words-child c = sym (pick_no _ _ _ (le-ltb _ _ c.if-words-child.true))

pub returns-then-word-ge-CHILD_WORDS : goal.returns-then-word-ge-CHILD_WORDS
unfolding clear_run_in
returns-then-word-ge-CHILD_WORDS c = sym (pick_yes _ _ _ (lt-ltb _ _ c.if-words-child.false) ∙ pick_no _ _ _ (le-ltb _ _ c.if-word-ge-CHILD_WORDS.true))

pub returns-then-size-bit : goal.returns-then-size-bit
unfolding clear_run_in
returns-then-size-bit c =
    let a = c.args in
    sym (pick_yes _ _ _ (lt-ltb _ _ c.if-words-child.false) ∙ (pick_yes _ _ _ (lt-ltb _ _ c.if-word-ge-CHILD_WORDS.false) ∙ pick_no _ _ _ (lt-leb (a.bit + run_size a.run) word_bits (omega (arith, c.size_of-size.ensures.0)))))

pub returns-then-word-mask : goal.returns-then-word-mask
unfolding clear_run_in
returns-then-word-mask c =
    let a = c.args in
    let l : a.bit + run_size a.run ≤ word_bits = omega (arith, c.size_of-size.ensures.0) in
    let fits : get_or a.words.now (8 * a.child + a.word) 0 < 2 ^ 64 = search rules in
    step_told (clear_run (run_size a.run) a.bit) _ _ (run_kept _ _ fits c.size_of-size.ensures.0 c.ones_of.ensures _ l c.if-word-mask.true)
    ∙ sym (pick_yes _ _ _ (lt-ltb _ _ c.if-words-child.false) ∙ (pick_yes _ _ _ (lt-ltb _ _ c.if-word-ge-CHILD_WORDS.false) ∙ pick_yes _ _ _ (le-leb (a.bit + run_size a.run) word_bits l)))

pub returns : goal.returns
unfolding clear_run_in
returns c =
    let a = c.args in
    let l : a.bit + run_size a.run ≤ word_bits = omega (arith, c.size_of-size.ensures.0) in
    let fits : get_or a.words.now (8 * a.child + a.word) 0 < 2 ^ 64 = search rules in
    step_changed (clear_run (run_size a.run) a.bit) _ _ (run_cleared _ _ fits c.size_of-size.ensures.0 c.ones_of.ensures _ l c.if-word-mask.false)
    ∙ sym (pick_yes _ _ _ (lt-ltb _ _ c.if-words-child.false) ∙ (pick_yes _ _ _ (lt-ltb _ _ c.if-word-ge-CHILD_WORDS.false) ∙ pick_yes _ _ _ (le-leb (a.bit + run_size a.run) word_bits l)))
