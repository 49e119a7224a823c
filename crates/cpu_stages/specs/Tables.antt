-- What a step of a get or put on a CPU's entry, carried out, answers and leaves of its table.
use Rattle.std.specs.Prelude.{List, ℕ}
use Rattle.laws.specs.Tables.{Outcome, outcome}
use Rattle.rules.specs.Numbers.{Shape}
use Rattle.rules.specs.Plan.{Step, no_entry, cpu_entry, tree_entry, child_entry, word_entry}
use Rattle.entries.specs.Turns.{turn, within}
use Rattle.cpu_entries.specs.Turns.{on_cpu}
use Rattle.cpu_stages.specs.Types.{Answer}

-- a number that the table has not answers 11
unfoldable pub in_cpus : Shape → Step → List ℕ → Outcome Answer
in_cpus g (no_entry a) l = outcome a l
in_cpus g (cpu_entry j a f) l = within Answer.BadRecord j l (on_cpu g Answer.Damaged j (turn a) (λ t s k. turn (f t s k)) l)
in_cpus g (tree_entry t f) l = outcome Answer.BadRecord l
in_cpus g (child_entry t c f) l = outcome Answer.BadRecord l
in_cpus g (word_entry t i f) l = outcome Answer.BadRecord l
