-- Create: header 0; words, children, trees, CPUs ascending; header running last. First step: 14, 8; later steps: 14, 8, 11.
use Rattle.std.specs.Prelude.{List, [], ◌∷◌, ◌++◌, ℕ, suc, ◌+◌, ◌*◌, ltb}
use Rattle.laws.specs.Tests.{pick, Check, ◌below◌}
use Rattle.rules.specs.Numbers.{child_words, most_huge, Shape, trees_of, capacity}
use Rattle.rules.specs.Conversions.{frame, huge, tree}
use Rattle.rules.specs.Entries.{header_word, running}
use Rattle.rules.specs.Lower.{fresh_word, fresh_child}
use Rattle.rules.specs.Zone.{Zone, shaped, Store}
use Rattle.rules.specs.Plan.{Plan, says, refuse, Refusal, guarded}
use Rattle.rules.specs.Checks.{unless, no_header, bad_buffers}
use Rattle.rules.specs.Ranges.{create_range}
use Rattle.rules.specs.Types.{CpuEntry, Creating, Record, Answer}

-- create, open and close are answered Done with frame 0 (D31)
abbrev pub done : Answer
done = Answer.Done (frame 0)

abbrev pub size_checks : ℕ → List Check
size_checks n = 0 below n ∷ n below suc most_huge ∷ []

abbrev pub not_created : ℕ → Zone → List Refusal
not_created n z = unless (size_checks n) Answer.BadSize ∷ no_header z ∷ bad_buffers (shaped n z) z ∷ []

abbrev pub creating : Creating → Answer
creating s = Answer.UnderWay (Record.Create s)

unfoldable pub create_zone : ℕ → Zone → Plan
create_zone n z = guarded (not_created n z) (says (Store.header 0) (creating (Creating.Words 0)))

unfoldable pub create_stage : Shape → Creating → Plan
create_stage g (Creating.Words i) = says (Store.word i fresh_word) (creating (pick (ltb (suc i) (child_words * g.huge)) (Creating.Words (suc i)) (Creating.Children (huge 0))))
create_stage g (Creating.Children h) = says (Store.child h.0 fresh_child) (creating (pick (ltb (suc h.0) g.huge) (Creating.Children (huge (suc h.0))) (Creating.Trees (tree 0))))
create_stage g (Creating.Trees t) = says (Store.tree t.0 0 (capacity g t.0)) (creating (pick (ltb (suc t.0) (trees_of g)) (Creating.Trees (tree (suc t.0))) (Creating.Cpus 0)))
create_stage g (Creating.Cpus j) = says (Store.cpu j CpuEntry.Absent) (creating (pick (ltb (suc j) g.cpus) (Creating.Cpus (suc j)) Creating.Header))
create_stage g Creating.Header = says (Store.header (header_word running g.huge)) done

unfoldable pub create_act : Shape → Record → Plan
create_act g Record.Finished = refuse Answer.BadRecord
create_act g (Record.Get cpu s) = refuse Answer.BadRecord
create_act g (Record.Put cpu s) = refuse Answer.BadRecord
create_act g (Record.Create s) = create_stage g s
create_act g (Record.Open s) = refuse Answer.BadRecord

-- n is given beside the record (D22)
unfoldable pub create_step : ℕ → Zone → Record → Plan
create_step n z r = guarded (not_created n z ++ (unless (create_range (shaped n z) r) Answer.BadRecord ∷ [])) (create_act (shaped n z) r)

-- the steps of create
abbrev pub create_steps : Shape → ℕ
create_steps g = 1 + child_words * g.huge + g.huge + trees_of g + g.cpus + 1
