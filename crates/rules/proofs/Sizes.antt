-- The sizes of runs: powers of two, up to a word.
use Rattle.std.specs.Prelude.{Some}
use mathlib.Core.Path.{◌≡◌, refl, sym, ap, ◌∙◌}
use mathlib.Core.Logic.{◌≢◌}
use mathlib.Core.Bool.{true}
use Prim.Native.Nat.{ℕ, zero, suc, ◌+◌, ◌*◌, ◌/◌, ◌%◌, ◌^◌, ◌≤◌, ◌<◌}
use native.Mathlib.Decide.{ℕ_discrete}
use lib.Dec.{ltb}
use borrow.Author.Tests.{ltb-true, ltb-false}
use native.Mathlib.Omega.{arith}
use native.Mathlib.Nat.{div-add-mod'}
use Rattle.laws.specs.Tests.{pick}
use Rattle.laws.proofs.Tests.{pick_elim}
use Rattle.rules.specs.Types.{Run, Order}
use Rattle.rules.specs.Numbers.{child_frames, child_words, word_bits}
use Rattle.rules.specs.Blocks.{run_size, size}
use Rattle.rules.specs.Lower.{take_run}
use Rattle.rules.specs.Begin.{order_number, is_order, run_of, order_of}
use Rattle.rules.proofs.Lower.{taken_at_lem}

pub not_below : {a b : ℕ} → (a < b → ⊥) → b ≤ a
not_below h = omega arith

-- a run has a frame, and a word is a whole number of runs
pub run_some : (v : Run) → 0 < run_size v
unfolding run_size
run_some Run.One = omega arith
run_some Run.Two = omega arith
run_some Run.Four = omega arith
run_some Run.Eight = omega arith
run_some Run.Sixteen = omega arith
run_some Run.ThirtyTwo = omega arith
run_some Run.SixtyFour = omega arith

pub size_some : (o : Order) → 0 < size o
size_some (Order.Run v) = run_some v
size_some Order.Nine = omega arith

pub word_of_lem : (v : Run) → run_size v * (word_bits / run_size v) ≡ word_bits
unfolding run_size
word_of_lem Run.One = refl
word_of_lem Run.Two = refl
word_of_lem Run.Four = refl
word_of_lem Run.Eight = refl
word_of_lem Run.Sixteen = refl
word_of_lem Run.ThirtyTwo = refl
word_of_lem Run.SixtyFour = refl

-- a run that begins in a word at a multiple of its size ends in it
pub run_ends : (v : Run) (b : ℕ) → b < word_bits → b % run_size v ≡ 0 → b + run_size v ≤ word_bits
unfolding run_size
run_ends Run.One b l e = omega arith
run_ends Run.Two b l e = omega arith
run_ends Run.Four b l e = omega arith
run_ends Run.Eight b l e = omega arith
run_ends Run.Sixteen b l e = omega arith
run_ends Run.ThirtyTwo b l e = omega arith
run_ends Run.SixtyFour b l e = omega arith

-- and one that begins in a zone of n children ends in it
pub run_inside : (v : Run) (n f : ℕ) → f < n * child_frames → f % run_size v ≡ 0 → f + run_size v ≤ child_frames * n
unfolding run_size
run_inside Run.One n f l e = omega arith
run_inside Run.Two n f l e = omega arith
run_inside Run.Four n f l e = omega arith
run_inside Run.Eight n f l e = omega arith
run_inside Run.Sixteen n f l e = omega arith
run_inside Run.ThirtyTwo n f l e = omega arith
run_inside Run.SixtyFour n f l e = omega arith

-- a frame's bit begins a run where the frame does, and the other way round
pub bit_aligned : (v : Run) (w b : ℕ) → (w * word_bits + b) % run_size v ≡ b % run_size v
unfolding run_size
bit_aligned Run.One w b = omega arith
bit_aligned Run.Two w b = omega arith
bit_aligned Run.Four w b = omega arith
bit_aligned Run.Eight w b = omega arith
bit_aligned Run.Sixteen w b = omega arith
bit_aligned Run.ThirtyTwo w b = omega arith
bit_aligned Run.SixtyFour w b = omega arith

pub bit_ends : (v : Run) (f : ℕ) → f % run_size v ≡ 0 → f % word_bits + run_size v ≤ word_bits
bit_ends v f e = run_ends v (f % word_bits) (omega arith) (sym (bit_aligned v (f / word_bits) (f % word_bits)) ∙ ap (λ y. y % run_size v) (div-add-mod' f word_bits) ∙ e)

-- the i-th run of a word
pub run_at : (v : Run) (i : ℕ) → i < word_bits / run_size v → (run_size v * i % run_size v ≡ 0) × (run_size v * i + run_size v ≤ word_bits)
unfolding run_size
run_at Run.One i l = (omega arith, omega arith)
run_at Run.Two i l = (omega arith, omega arith)
run_at Run.Four i l = (omega arith, omega arith)
run_at Run.Eight i l = (omega arith, omega arith)
run_at Run.Sixteen i l = (omega arith, omega arith)
run_at Run.ThirtyTwo i l = (omega arith, omega arith)
run_at Run.SixtyFour i l = (omega arith, omega arith)

-- ---- the run that a step takes
pub taken_run : (v : Run) (w b : ℕ) → (take_run (run_size v) w).said ≡ Some b → (b % run_size v ≡ 0) × (b + run_size v ≤ word_bits)
taken_run v w b e = let t = taken_at_lem (run_size v) w b e in rw t.1 (run_at v _ t.0)

-- its first frame: in child x of n, at a multiple of its size
pub run_frame : (v : Run) (n x w b : ℕ) → x < n → w < child_words → (b % run_size v ≡ 0) × (b + run_size v ≤ word_bits)
    → (x * child_frames + w * word_bits + b < n * child_frames) × ((x * child_frames + w * word_bits + b) % run_size v ≡ 0)
run_frame v n x w b l k a =
    let s+ = run_some v in
    let e : x * child_frames + w * word_bits + b ≡ (x * child_words + w) * word_bits + b = omega arith in
    (omega arith, ap (λ y. y % run_size v) e ∙ bit_aligned v (x * child_words + w) b ∙ a.0)

-- ---- orders and their numbers

pub order_again : (o : Order) → (is_order (order_number o) ≡ true) × (order_of (order_number o) ≡ o)
unfolding is_order order_of run_of pick
order_again (Order.Run Run.One) = (refl, refl)
order_again (Order.Run Run.Two) = (refl, refl)
order_again (Order.Run Run.Four) = (refl, refl)
order_again (Order.Run Run.Eight) = (refl, refl)
order_again (Order.Run Run.Sixteen) = (refl, refl)
order_again (Order.Run Run.ThirtyTwo) = (refl, refl)
order_again (Order.Run Run.SixtyFour) = (refl, refl)
order_again Order.Nine = (refl, refl)

-- order k is of 2 ^ k frames
run_size_lem : (k : ℕ) → k < 7 → run_size (run_of k) ≡ 2 ^ k
unfolding run_size run_of pick
run_size_lem zero l = refl
run_size_lem (suc zero) l = refl
run_size_lem (suc (suc zero)) l = refl
run_size_lem (suc (suc (suc zero))) l = refl
run_size_lem (suc (suc (suc (suc zero)))) l = refl
run_size_lem (suc (suc (suc (suc (suc zero))))) l = refl
run_size_lem (suc (suc (suc (suc (suc (suc zero)))))) l = refl
run_size_lem (suc (suc (suc (suc (suc (suc (suc k))))))) l = absurd (omega arith)

pub size_of : (k : ℕ) → ((6 < k) × (k ≢ 9) → ⊥) → size (order_of k) ≡ 2 ^ k
unfolding order_of
size_of k n = pick_elim (λ o. size o ≡ 2 ^ k) (ltb k 7)
    (λ b. run_size_lem k (ltb-true k 7 b))
    (λ b. elim (ℕ_discrete k 9) [
      | yes e ↦ rw e refl
      | no e ↦ absurd (n (ltb-false k 7 b, e))
    ])
