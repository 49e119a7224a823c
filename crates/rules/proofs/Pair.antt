-- The lower level's laws on two children: child 1 is taken as a whole, frame 0 is taken, a cut and a recount, and both are given back.
use Rattle.std.specs.Prelude.{Some}
use mathlib.Core.Path.{◌≡◌, refl}
use mathlib.Core.List.{List, [], ◌∷◌}
use Prim.Native.Nat.{ℕ, zero, suc, ◌+◌, ◌-◌, ◌/◌, ◌≤◌, ◌<◌}
use native.Mathlib.Omega.{arith}
use lib.ListN.{replicate}
use Rattle.laws.specs.Tests.{pick}
use Rattle.laws.specs.Sum.{sum_to, run, at}
use Rattle.laws.proofs.Sum.{at_add}
use Rattle.rules.specs.Types.{ChildEntry}
use Rattle.rules.specs.Lower.{child_says, count_word, flagged_word, is_flagged, zero_bits}
use Rattle.rules.proofs.Computed.{by_computation}
use Rattle.rules.proofs.Fields.{empty_bit}
use Rattle.rules.proofs.Own.{free_of, bit_at, Owned, Survived, count_stored, flag_stored, flag_cleared, bits_stored, bits_cleared, count_free, flag_free, unflag_free, set_free, clear_free, free_most, low_clear, base_bit, whole_flag, taken_owned, owned_once, free_unowned, survived_owned, owned_survived}

-- ---- two children by their entries, their words by the first one, nobody; what holds of both children
abbrev two : ℕ → ℕ → List ℕ
two a b = a ∷ b ∷ []

abbrev words : ℕ → List ℕ
words w = w ∷ replicate 15 0

abbrev none : ℕ → ℕ
none x = 0

both : (P : ℕ → Type 0) → P 0 → P 1 → (c : ℕ) → c < 2 → P c
both P p q zero h = p
both P p q (suc zero) h = q
both P p q (suc (suc c)) h = absurd (omega arith)

says : (child_says (count_word 512) ≡ Some (ChildEntry.Counts 512)) × (child_says (count_word 511) ≡ Some (ChildEntry.Counts 511)) × (child_says flagged_word ≡ Some ChildEntry.Flagged)
unfolding by_computation
says = (refl, refl, refl)

-- ---- the story, and what each store does to the free frames of its child

-- nothing is taken
pub start : Owned 2 (two (count_word 512) (count_word 512)) (words 0) none none none
unfolding by_computation free_of
start = record {
  children = refl;
  words = refl;
  formed = both _ refl refl;
  counts = both _ refl refl;
  empty = both _ (λ e. refl) (λ e. refl);
  bits = λ f h. empty_bit (words 0) f (both (λ c. zero_bits (words 0) c ≡ 512) refl refl (f / 512) (omega arith));
  flags = both _ refl refl;
}

-- child 1 is taken as a whole
pub flagged : Owned 2 (two (count_word 512) flagged_word) (words 0) none none (at 1 1)
flagged = flag_stored _ _ _ _ _ _ start 1 (at 1 1) (omega arith) says.0 (λ x. omega arith)

pub flag_frees : free_of (two (count_word 512) flagged_word) (words 0) 1 + 512 ≡ free_of (two (count_word 512) (count_word 512)) (words 0) 1
unfolding at pick
flag_frees = flag_free _ _ _ _ _ _ start 1 (omega arith) says.0 1

-- child 0 is claimed: its count leaves out one zero bit
pub claimed : Owned 2 (two (count_word 511) flagged_word) (words 0) (at 0 1) none (at 1 1)
claimed = count_stored _ _ _ _ _ _ flagged 0 512 511 (at 0 1) (omega arith) says.0 (omega arith) (λ x. omega (arith, at_add 0 1 511 x))

pub claim_frees : free_of (two (count_word 511) flagged_word) (words 0) 0 ≡ free_of (two (count_word 512) flagged_word) (words 0) 0
claim_frees = count_free _ _ _ _ _ _ flagged 0 512 511 (omega arith) says.0 (omega arith) 0

-- frame 0's bit is set
pub taken : Owned 2 (two (count_word 511) flagged_word) (words 1) none (run 1 0) (at 1 1)
unfolding at pick
taken = bits_stored _ _ _ _ _ _ claimed 0 0 1 0 none (run 1 0) (omega arith) (omega arith) (omega arith) (omega arith) (omega arith) refl (λ x. omega arith) (λ f. omega arith)

pub take_frees : free_of (two (count_word 511) flagged_word) (words 1) 0 + 1 ≡ free_of (two (count_word 511) flagged_word) (words 0) 0
unfolding at pick
take_frees = set_free _ _ _ _ _ _ claimed 0 0 1 0 (omega arith) (omega arith) (omega arith) (omega arith) (omega arith) refl 0

-- a cut, and a recount
pub survived : Survived 2 (two (count_word 511) flagged_word) (words 1) (run 1 0) (at 1 1)
survived = owned_survived _ _ _ _ _ _ taken

pub recounted : Owned 2 (two (count_word 511) flagged_word) (words 1) none (run 1 0) (at 1 1)
unfolding by_computation free_of
recounted = survived_owned _ _ _ _ _ survived (both _ refl refl)

-- frame 0's bit is cleared
pub cleared : Owned 2 (two (count_word 511) flagged_word) (words 0) (at 0 1) none (at 1 1)
cleared = bits_cleared _ _ _ _ _ _ recounted 0 0 1 0 (at 0 1) none (omega arith) (omega arith) (omega arith) (omega arith) refl (λ x. omega arith) (λ f. omega arith)

pub clear_frees : free_of (two (count_word 511) flagged_word) (words 0) 0 ≡ free_of (two (count_word 511) flagged_word) (words 1) 0 + 1
unfolding at pick
clear_frees = clear_free _ _ _ _ _ _ recounted 0 0 1 0 (omega arith) (omega arith) (omega arith) (omega arith) refl 0

-- child 0's count is raised
pub raised : Owned 2 (two (count_word 512) flagged_word) (words 0) none none (at 1 1)
raised = count_stored _ _ _ _ _ _ cleared 0 511 512 none (omega arith) says.1 (omega arith) (λ x. omega (arith, at_add 0 1 511 x))

-- child 1 is given back: nothing is taken
pub end : Owned 2 (two (count_word 512) (count_word 512)) (words 0) none none none
end = flag_cleared _ _ _ _ _ _ raised 1 none (omega arith) says.2 (λ x. omega arith)

pub end_frees : free_of (two (count_word 512) (count_word 512)) (words 0) 1 ≡ free_of (two (count_word 512) flagged_word) (words 0) 1 + 512
unfolding at pick
end_frees = unflag_free _ _ _ _ _ _ raised 1 (omega arith) says.2 1

-- ---- what follows

-- a claim under way: child 0 counts 511 of its 512 free frames
pub under_way : (k : ℕ) × (child_says (count_word 511) ≡ Some (ChildEntry.Counts k)) × (k + 1 ≡ 512)
unfolding by_computation free_of at
under_way = low_clear _ _ _ _ _ _ claimed 0 (omega arith) (omega arith)

-- frame 0's owner has its bit, child 1's owner its flag
pub held : (bit_at (words 1) 0 ≡ 1) × (child_says flagged_word ≡ Some ChildEntry.Flagged)
unfolding run at pick
held = (base_bit _ _ _ _ _ _ taken 0 (omega arith) refl, whole_flag _ _ _ _ _ _ taken 1 (omega arith) refl)

-- frame 1 is free and has no owner; frame 512 is taken with its child and has one
pub owners : (pick (is_flagged (count_word 511)) 1 (bit_at (words 1) 1) ≡ 0) × (pick (is_flagged flagged_word) 1 (bit_at (words 1) 512) ≡ 1) × (run 1 0 512 + at 1 1 1 ≤ 1)
unfolding run at pick
owners = (taken_owned _ _ _ _ _ survived 1 (omega arith), taken_owned _ _ _ _ _ survived 512 (omega arith), owned_once _ _ _ _ _ survived 512 (omega arith))

-- 511 frames of child 0 have no owner, and 512 are the most
pub unowned : (511 ≡ sum_to 512 (λ i. 1 - (run 1 0 i + at 1 1 0))) × (free_of (two (count_word 511) flagged_word) (words 1) 0 ≤ 512)
unfolding by_computation free_of
unowned = (free_unowned _ _ _ _ _ survived 0 (omega arith), free_most _ _ _ _ _ _ taken 0)
