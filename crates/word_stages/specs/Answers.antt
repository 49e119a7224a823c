-- What a stage on a word answers, by what the lower level said.
use Rattle.std.specs.Prelude.{ℕ, suc, ltb, Option, Some, None, Result, Ok, Err}
use Rattle.laws.specs.Tests.{pick}
use Rattle.rules.specs.Numbers.{child_words, Shape}
use Rattle.rules.specs.Blocks.{frame_at}
use Rattle.rules.specs.Places.{place_tree}
use Rattle.rules.specs.Take.{get}
use Rattle.rules.specs.Answers.{answer_of}
use Rattle.word_stages.specs.Types.{Run, Place, Taking, Fault, Answer, Block}

-- rule 5: the run that was set, or the next word, or eight words without a free run
abbrev pub word_answer : Shape → ℕ → Run → Place → ℕ → ℕ → ℕ → Result (Option ℕ) Fault → Answer
word_answer g cpu v p s c w (Ok (Some b)) = get g cpu (Taking.Last (Block.Run v (frame_at g (place_tree p) c w b)))
word_answer g cpu v p s c w (Ok None) = pick (ltb (suc w) child_words) (get g cpu (Taking.Word v p s c (suc w))) (get g cpu (Taking.GiveBack v p s c))
word_answer g cpu v p s c w (Err f) = answer_of f
