-- What the crate's functions answer and leave, on any table and any number, by the rules for one child entry and one word.
use Rattle.std.specs.Prelude.{Bool, List, ℕ, ◌+◌, ◌*◌, ◌/◌, ltb, leb, length, get_or, Option, Some, None, Result, Ok, Err, ok_or}
use Rattle.laws.specs.Tests.{pick}
use Rattle.laws.specs.Tables.{Outcome, outcome, wrapped}
use Rattle.rules.specs.Numbers.{child_words, word_bits, most_huge}
use Rattle.rules.specs.Entries.{field}
use Rattle.rules.specs.Lower.{Lowered, told, changed, child_layout, child_says, by_child, claim, take_huge, give_count, clear_huge, take_run, clear_run, fresh_word, fresh_child, recount, zero_bits, empty_field, part_sum}
use Rattle.lower.specs.Types.{Fields, ChildEntry, Took, Fault}
use Rattle.lower.specs.Tables.{step_at, step_in}

-- ---- one entry, and one word

abbrev pub fields_of : ℕ → Fields
fields_of x = record { a = field child_layout 0 x; zero = field child_layout 1 x; count = field child_layout 2 x }

-- what the word leaf found, a bit and the word with its run set, as the rule says it
abbrev pub low_of : Option (ℕ × ℕ) → Lowered (Option ℕ)
low_of (Some (b, w)) = changed (Some b) w
low_of None = told None

-- ---- steps on a child

abbrev pub claim_in : ℕ → List ℕ → ℕ → Outcome (Result Took Fault)
claim_in s = step_in (λ s. s) (Err Fault.NoChild) (claim s)

abbrev pub take_huge_in : List ℕ → ℕ → Outcome (Result Took Fault)
take_huge_in = step_in (λ s. s) (Err Fault.NoChild) take_huge

abbrev pub give_in : ℕ → List ℕ → ℕ → Outcome (Result Unit Fault)
give_in s = step_in (λ s. s) (Err Fault.NoChild) (give_count s)

abbrev pub clear_huge_in : List ℕ → ℕ → Outcome (Result Unit Fault)
clear_huge_in = step_in (λ s. s) (Err Fault.NoChild) clear_huge

-- ---- steps on a word: word w of child c's field, where the table has that field whole

abbrev pub fields_in : List ℕ → ℕ
fields_in ws = length ws / child_words

-- the lowest free run of s bits is set
unfoldable pub take_run_in : ℕ → List ℕ → ℕ → ℕ → Outcome (Result (Option ℕ) Fault)
take_run_in s ws c w =
    pick (ltb c (fields_in ws))
    (pick (ltb w child_words) (wrapped Ok (step_at (take_run s) ws (child_words * c + w))) (outcome (Err Fault.NoWord) ws))
    (outcome (Err Fault.NoChild) ws)

-- the run of s bits from b on is cleared, where it ends in the word
unfoldable pub clear_run_in : ℕ → List ℕ → ℕ → ℕ → ℕ → Outcome (Result Unit Fault)
clear_run_in s ws c w b =
    pick (ltb c (fields_in ws))
    (pick (ltb w child_words)
    (pick (leb (b + s) word_bits) (step_at (clear_run s b) ws (child_words * c + w)) (outcome (Err Fault.NoBit) ws))
    (outcome (Err Fault.NoWord) ws))
    (outcome (Err Fault.NoChild) ws)

-- ---- what create stores

abbrev pub fresh_word_in : List ℕ → ℕ → Outcome (Result Unit Fault)
fresh_word_in = step_in (λ s. s) (Err Fault.NoEntry) (λ x. changed (Ok tt) fresh_word)

abbrev pub fresh_child_in : List ℕ → ℕ → Outcome (Result Unit Fault)
fresh_child_in = step_in (λ s. s) (Err Fault.NoEntry) (λ x. changed (Ok tt) fresh_child)

-- ---- what open stores: the recount of a child; a malformed one is refused

unfoldable pub recounted : ℕ → ℕ → Lowered (Result Unit Fault)
recounted z x = by_child (child_says x) (told (Err Fault.Damaged)) (λ k. changed (Ok tt) (recount z x)) (changed (Ok tt) (recount z x))

unfoldable pub recount_in : List ℕ → List ℕ → ℕ → Outcome (Result Unit Fault)
recount_in cs ws c = pick (ltb c (length cs)) (pick (ltb c (fields_in ws)) (step_at (recounted (zero_bits ws c)) cs c) (outcome (Err Fault.NoField) cs)) (outcome (Err Fault.NoChild) cs)

-- ---- what open and close look at; nothing is stored

-- what a child says; a malformed one is refused
unfoldable pub look_in : List ℕ → ℕ → Result ChildEntry Fault
look_in cs c = pick (ltb c (length cs)) (ok_or (child_says (get_or cs c 0)) Fault.Damaged) (Err Fault.NoChild)

unfoldable pub zeros_in : List ℕ → ℕ → Result ℕ Fault
zeros_in ws c = pick (ltb c (fields_in ws)) (Ok (zero_bits ws c)) (Err Fault.NoField)

unfoldable pub empty_in : List ℕ → ℕ → Result Bool Fault
empty_in ws c = pick (ltb c (fields_in ws)) (Ok (empty_field ws c)) (Err Fault.NoField)

unfoldable pub sum_in : List ℕ → Result ℕ Fault
sum_in cs = pick (leb (length cs) most_huge) (Ok (part_sum cs (length cs))) (Err Fault.TooMany)
