use mathlib.Core.Path.{sym, ap, ◌∙◌}
use borrow.Author.Tests.{not-true, not-false}
use Rattle.records.specs.Encoding.{encode}
use Rattle.records.specs.Decoding.{same_words}
use Rattle.records.proofs.Returns.{words_differ, words_same}
use Rattle.records.proofs.decode.Goals as goal

pub returns-then-ne : goal.returns-then-ne
unfolding same_words
returns-then-ne c = words_differ _ _ c.read-rec.ensures (c.again-made.ensures ∙ sym (ap encode c.read-rec.ensures)) (not-true _ (sym c.ne.ensures ∙ c.if-ne.true))

pub returns : goal.returns
unfolding same_words
returns c = words_same _ _ c.read-rec.ensures (c.again-made.ensures ∙ sym (ap encode c.read-rec.ensures)) (not-false _ (sym c.ne.ensures ∙ c.if-ne.false))
