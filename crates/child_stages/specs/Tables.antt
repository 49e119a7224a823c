-- What a step of a get or put on a child, carried out, answers and leaves of its table. A tree's part is lent to the lower level, and back.
use Rattle.std.specs.Prelude.{◌≡◌, List, ℕ, ◌*◌}
use Rattle.laws.specs.Parts.{part}
use Rattle.laws.specs.Tables.{Outcome, outcome}
use Rattle.rules.specs.Numbers.{Shape, per_tree, children_of}
use Rattle.rules.specs.Plan.{Step, no_entry, cpu_entry, tree_entry, child_entry, word_entry}
use Rattle.lending.specs.Tables.{lent, made_in}
use Rattle.child_stages.specs.Types.{Tree, Answer}

-- a tree's part of the children
abbrev pub lent_children : {A : Type 0} → Shape → Tree → A → (List ℕ → Outcome A) → List ℕ → Outcome A
lent_children g t none = lent none (t.0 * per_tree g) (children_of g t.0)

-- it is lent to a call that may say and leave P: what is said and left is as if it were lent to any f that says so
abbrev pub LentTo : {A : Type 0} → Shape → Tree → A → (List ℕ → A → List ℕ → Type 0) → List ℕ → Outcome A → Type 0
LentTo {A} g t none P l o =
    let p : List ℕ = part (t.0 * per_tree g) (children_of g t.0) l in
    (f : List ℕ → Outcome A) → ((r : A) (m : List ℕ) → P p r m → outcome r m ≡ f p) → o ≡ lent_children g t none f l

unfoldable pub in_children : Shape → Step → List ℕ → Outcome Answer
in_children g (no_entry a) l = outcome a l
in_children g (cpu_entry j a f) l = outcome Answer.BadRecord l
in_children g (tree_entry t f) l = outcome Answer.BadRecord l
in_children g (child_entry t c f) l = made_in (t.0 * per_tree g) (children_of g t.0) c f l
in_children g (word_entry t i f) l = outcome Answer.BadRecord l
