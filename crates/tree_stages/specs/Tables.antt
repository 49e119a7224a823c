-- What a step of a get or put on a tree, carried out, answers and leaves of its table.
use Rattle.std.specs.Prelude.{List, ℕ}
use Rattle.laws.specs.Tables.{Outcome, outcome}
use Rattle.rules.specs.Numbers.{Shape}
use Rattle.rules.specs.Plan.{Step, no_entry, cpu_entry, tree_entry, child_entry, word_entry}
use Rattle.entries.specs.Turns.{turn, on_tree, within}
use Rattle.tree_stages.specs.Types.{Answer}

-- a number that the table has not answers 11
unfoldable pub in_trees : Shape → Step → List ℕ → Outcome Answer
in_trees g (no_entry a) l = outcome a l
in_trees g (cpu_entry j a f) l = outcome Answer.BadRecord l
in_trees g (tree_entry t f) l = within Answer.BadRecord t.0 l (on_tree g Answer.Damaged t (λ r k. turn (f r k)) l)
in_trees g (child_entry t c f) l = outcome Answer.BadRecord l
in_trees g (word_entry t i f) l = outcome Answer.BadRecord l
