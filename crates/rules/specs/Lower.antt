-- The lower level: one child entry, one word, a tree's part of both. What a child says, and how a rule changes a child or a word, stands here alone: the rules above name the entry and cite these definitions.
use Rattle.std.specs.Prelude.{Bool, true, false, List, [], ◌∷◌, ℕ, suc, ◌+◌, ◌-◌, ◌*◌, ◌/◌, ◌^◌, eqb, leb, ltb, get_or, Option, Some, None, Result, Ok, Err}
use Rattle.laws.specs.Tests.{pick, ◌below◌, ◌is◌, passes}
use Rattle.laws.specs.Sum.{sum_to}
use Rattle.laws.specs.Fields.{join}
use Rattle.laws.specs.Words.{zeros, ones, bits, lowest}
use Rattle.rules.specs.Numbers.{child_frames, child_words, word_bits}
use Rattle.rules.specs.Entries.{field}
use Rattle.rules.specs.Types.{ChildEntry, Took, Fault}

-- an entry after a step: as it was, or another
pub data Change (A : Type 0) : Type 0 where
  keep : Change A
  become : (v : A) → Change A

-- what a step of the lower level says, and what becomes of the entry
pub record Lowered (A : Type 0) : Type 0 where
  pub said : A
  pub change : Change ℕ

-- ---- child: a (1), zero (5), count 0..512 (10); with a set the count is 0 (D20)
abbrev pub child_layout : List ℕ
child_layout = 1 ∷ 5 ∷ 10 ∷ []

unfoldable pub child_says : ℕ → Option ChildEntry
child_says x =
    let a : ℕ = field child_layout 0 x in
    let zero : ℕ = field child_layout 1 x in
    let count : ℕ = field child_layout 2 x in
    pick (passes (a is 0 ∷ zero is 0 ∷ count below suc child_frames ∷ []))
    (Some (ChildEntry.Counts count))
    (pick (passes (a is 1 ∷ zero is 0 ∷ count is 0 ∷ [])) (Some ChildEntry.Flagged) None)

-- the words of a child with a clear, and of one with a set
unfoldable pub count_word : ℕ → ℕ
count_word k = join child_layout (0 ∷ 0 ∷ k ∷ [])

unfoldable pub flagged_word : ℕ
flagged_word = join child_layout (1 ∷ 0 ∷ 0 ∷ [])

unfoldable pub by_child {ℓ} : {A : Type ℓ} → Option ChildEntry → A → (ℕ → A) → A → A
by_child None d f a = d
by_child (Some (ChildEntry.Counts k)) d f a = f k
by_child (Some ChildEntry.Flagged) d f a = a

-- ---- steps on one child entry

abbrev pub told : {A : Type 0} → A → Lowered A
told x = record { said = x; change = keep }

abbrev pub changed : {A : Type 0} → A → ℕ → Lowered A
changed x v = record { said = x; change = become v }

-- rule 5: a child with a clear and a count of at least s loses s
unfoldable pub claim : ℕ → ℕ → Lowered (Result Took Fault)
claim s x = by_child (child_says x) (told (Err Fault.Damaged)) (λ k. pick (leb s k) (changed (Ok Took.Taken) (count_word (k - s))) (told (Ok Took.Passed))) (told (Ok Took.Passed))

-- rule 5: a child with a clear and count 512 becomes one with a set
unfoldable pub take_huge : ℕ → Lowered (Result Took Fault)
take_huge x = by_child (child_says x) (told (Err Fault.Damaged)) (λ k. pick (eqb k child_frames) (changed (Ok Took.Taken) flagged_word) (told (Ok Took.Passed))) (told (Ok Took.Passed))

-- a count rises by s; with a set, or past 512, the entry to be stored would break its layout
unfoldable pub give_count : ℕ → ℕ → Lowered (Result Unit Fault)
give_count s x = by_child (child_says x) (told (Err Fault.Damaged)) (λ k. pick (leb (k + s) child_frames) (changed (Ok tt) (count_word (k + s))) (told (Err Fault.Damaged))) (told (Err Fault.Damaged))

-- giving back, order 9: a set becomes a clear, count 512
unfoldable pub clear_huge : ℕ → Lowered (Result Unit Fault)
clear_huge x = by_child (child_says x) (told (Err Fault.Damaged)) (λ k. told (Err Fault.NotTaken)) (changed (Ok tt) (count_word child_frames))

-- ---- steps on one word

-- rule 5: the lowest run of s zero bits is set
unfoldable pub take_run : ℕ → ℕ → Lowered (Option ℕ)
take_run s w =
    let i : ℕ = lowest s (word_bits / s) w in
    pick (ltb i (word_bits / s)) (changed (Some (s * i)) (w + ones s (s * i))) (told None)

-- giving back: the run of s bits from b on is cleared
unfoldable pub clear_run : ℕ → ℕ → ℕ → Lowered (Result Unit Fault)
clear_run s b w = pick (eqb (bits s b w) (2 ^ s - 1)) (changed (Ok tt) (w - ones s b)) (told (Err Fault.NotTaken))

-- ---- what create stores, and what open and close look at

unfoldable pub fresh_word : ℕ
fresh_word = 0

unfoldable pub fresh_child : ℕ
fresh_child = count_word child_frames

unfoldable pub well_formed : ℕ → Bool
well_formed x = by_child (child_says x) false (λ k. true) true

unfoldable pub is_flagged : ℕ → Bool
is_flagged x = by_child (child_says x) false (λ k. false) true

unfoldable pub count_in : ℕ → ℕ
count_in x = by_child (child_says x) 0 (λ k. k) 0

-- a child with a clear gets the count z; one with a set stays as it stands
unfoldable pub recount : ℕ → ℕ → ℕ
recount z x = by_child (child_says x) x (λ k. count_word z) x

-- of a tree's part ws of the words: the zero bits of child c's field, and whether all its bits are zero
unfoldable pub zero_bits : List ℕ → ℕ → ℕ
zero_bits ws c = sum_to child_words (λ i. zeros word_bits (get_or ws (child_words * c + i) 0))

unfoldable pub empty_field : List ℕ → ℕ → Bool
empty_field ws c = eqb (zero_bits ws c) child_frames

-- of a tree's part cs of the children: the sum of the first k counts
unfoldable pub part_sum : List ℕ → ℕ → ℕ
part_sum cs k = sum_to k (λ c. count_in (get_or cs c 0))
