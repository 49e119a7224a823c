-- The lower level's laws: what its steps say, and what they make of an entry. What stands above knows no more of words and children.
use Rattle.std.specs.Prelude.{Option, Some, None, Ok, Err}
use mathlib.Core.Path.{◌≡◌, refl, sym}
use Prim.Native.Nat.{ℕ, ◌+◌, ◌-◌, ◌*◌, ◌/◌, ◌^◌, ◌≤◌, ◌<◌}
use native.Mathlib.Omega.{arith}
use lib.Dec.{eqb, leb, ltb}
use borrow.Author.Tests.{ltb-true, le-leb, lt-ltb, le-ltb, eq-eqb}
use Rattle.laws.specs.Tests.{pick}
use Rattle.laws.specs.Words.{lowest, ones, bits}
use Rattle.laws.proofs.Tests.{pick_elim, pick_yes, pick_no}
use Rattle.rules.specs.Types.{ChildEntry, Took, Fault}
use Rattle.rules.specs.Numbers.{child_frames, word_bits}
use Rattle.rules.specs.Lower.{Lowered, told, changed, child_says, count_word, flagged_word, by_child, claim, take_huge, give_count, clear_huge, take_run, clear_run}

-- the run that is taken is the lowest that is free
pub taken_at_lem : (s w b : ℕ) → (take_run s w).said ≡ Some b → (lowest s (word_bits / s) w < word_bits / s) × (b ≡ s * lowest s (word_bits / s) w)
unfolding take_run
taken_at_lem s w b =
    let i : ℕ = lowest s (word_bits / s) w in
    pick_elim (λ (l : Lowered (Option ℕ)). l.said ≡ Some b → (i < word_bits / s) × (b ≡ s * i)) (ltb i (word_bits / s))
    (λ t e. let q : s * i ≡ b = cc in (ltb-true _ _ t, sym q))
    (λ t e. let z : ◌≡◌ {A = ℕ} 0 1 = cc in absurd (omega arith))

-- ---- the steps on a child entry, by what it says

pub claim_counts : (s x k : ℕ) → child_says x ≡ Some (ChildEntry.Counts k) → claim s x ≡ pick (leb s k) (changed (Ok Took.Taken) (count_word (k - s))) (told (Ok Took.Passed))
unfolding claim by_child
claim_counts s x k e = rw e refl

pub claim_flagged : (s x : ℕ) → child_says x ≡ Some ChildEntry.Flagged → claim s x ≡ told (Ok Took.Passed)
unfolding claim by_child
claim_flagged s x e = rw e refl

pub huge_counts : (x k : ℕ) → child_says x ≡ Some (ChildEntry.Counts k) → take_huge x ≡ pick (eqb k child_frames) (changed (Ok Took.Taken) flagged_word) (told (Ok Took.Passed))
unfolding take_huge by_child
huge_counts x k e = rw e refl

pub huge_flagged : (x : ℕ) → child_says x ≡ Some ChildEntry.Flagged → take_huge x ≡ told (Ok Took.Passed)
unfolding take_huge by_child
huge_flagged x e = rw e refl

pub give_counts : (s x k : ℕ) → child_says x ≡ Some (ChildEntry.Counts k) → k + s ≤ child_frames → give_count s x ≡ changed (Ok tt) (count_word (k + s))
unfolding give_count by_child
give_counts s x k e h = rw e (pick_yes _ _ _ (le-leb (k + s) child_frames h))

pub clear_flagged : (x : ℕ) → child_says x ≡ Some ChildEntry.Flagged → clear_huge x ≡ changed (Ok tt) (count_word child_frames)
unfolding clear_huge by_child
clear_flagged x e = rw e refl

-- ---- the steps on a word

pub take_run_lem : (s w : ℕ) → let i : ℕ = lowest s (word_bits / s) w in i < word_bits / s → take_run s w ≡ changed (Some (s * i)) (w + ones s (s * i))
unfolding take_run
take_run_lem s w h = pick_yes _ _ _ (lt-ltb (lowest s (word_bits / s) w) (word_bits / s) h)

pub take_none : (s w : ℕ) → word_bits / s ≤ lowest s (word_bits / s) w → take_run s w ≡ told None
unfolding take_run
take_none s w h = pick_no _ _ _ (le-ltb (lowest s (word_bits / s) w) (word_bits / s) h)

pub clear_run_lem : (s b w : ℕ) → bits s b w ≡ 2 ^ s - 1 → clear_run s b w ≡ changed (Ok tt) (w - ones s b)
unfolding clear_run
clear_run_lem s b w h = pick_yes _ _ _ (eq-eqb (bits s b w) (2 ^ s - 1) h)
