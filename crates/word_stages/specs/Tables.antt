-- What a step of a get or put on a word, carried out, answers and leaves of its table. A tree's part is lent to the lower level, and back.
use Rattle.std.specs.Prelude.{◌≡◌, List, ℕ, ◌*◌, ltb}
use Rattle.laws.specs.Tests.{pick}
use Rattle.laws.specs.Parts.{part}
use Rattle.laws.specs.Tables.{Outcome, outcome}
use Rattle.rules.specs.Numbers.{child_words, Shape, per_tree, children_of}
use Rattle.rules.specs.Plan.{Step, no_entry, cpu_entry, tree_entry, child_entry, word_entry}
use Rattle.lending.specs.Tables.{lent, made_in}
use Rattle.word_stages.specs.Types.{Tree, Answer}

-- a tree's part of the words
abbrev pub lent_words : {A : Type 0} → Shape → Tree → A → (List ℕ → Outcome A) → List ℕ → Outcome A
lent_words g t none = lent none (child_words * (t.0 * per_tree g)) (child_words * children_of g t.0)

-- it is lent to a call that may say and leave P: what is said and left is as if it were lent to any f that says so
abbrev pub LentTo : {A : Type 0} → Shape → Tree → A → (List ℕ → A → List ℕ → Type 0) → List ℕ → Outcome A → Type 0
LentTo {A} g t none P l o =
    let p : List ℕ = part (child_words * (t.0 * per_tree g)) (child_words * children_of g t.0) l in
    (f : List ℕ → Outcome A) → ((r : A) (m : List ℕ) → P p r m → outcome r m ≡ f p) → o ≡ lent_words g t none f l

unfoldable pub in_words : Shape → Step → List ℕ → Outcome Answer
in_words g (no_entry a) l = outcome a l
in_words g (cpu_entry j a f) l = outcome Answer.BadRecord l
in_words g (tree_entry t f) l = outcome Answer.BadRecord l
in_words g (child_entry t c f) l = outcome Answer.BadRecord l
in_words g (word_entry t i f) l = made_in (child_words * (t.0 * per_tree g)) (child_words * children_of g t.0) i f l

-- a word past the eighth answers 11
unfoldable pub eighth : ℕ → (List ℕ → Outcome Answer) → List ℕ → Outcome Answer
eighth w f l = pick (ltb w child_words) (f l) (outcome Answer.BadRecord l)
