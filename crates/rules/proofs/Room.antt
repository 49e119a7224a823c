-- A child without a free block of s frames, stated of frames; how a count and a search of its words show it. Stated over the size s.
use Rattle.std.specs.Prelude.{Some}
use mathlib.Core.Path.{◌≡◌, sym, ap, ◌∙◌}
use mathlib.Core.Logic.{◌≢◌}
use mathlib.Core.List.{List}
use Prim.Native.Nat.{ℕ, ◌+◌, ◌-◌, ◌*◌, ◌/◌, ◌%◌, ◌≤◌, ◌<◌}
use native.Mathlib.Omega.{arith}
use native.Mathlib.Nat.{mod-lt, div-add-mod', mul-le-mul_right, mul-zero, zero-mul}
use native.Mathlib.Decide.{ℕ_discrete}
use lib.ListN.{length, get_or, set}
use lib.Seq.{get_or-set_same, get_or-set_other}
use Rattle.laws.specs.Tests.{pick}
use Rattle.laws.specs.Sum.{sum_to, run}
use Rattle.laws.specs.Words.{bit, bits}
use Rattle.laws.proofs.Tests.{pick_elim, pick_yes, pick_no}
use Rattle.laws.proofs.Sum.{inside, outside, ran, sum_add, sum_ext, sum_zero, sum_run}
use Rattle.laws.proofs.Words.{bit_le, free_bits}
use Rattle.rules.specs.Types.{ChildEntry}
use Rattle.rules.specs.Numbers.{child_frames, child_words, word_bits}
use Rattle.rules.specs.Lower.{child_says, count_word, is_flagged}
use Rattle.rules.proofs.Fields.{counts_entry, zero_frames}
use Rattle.rules.proofs.Layouts.{count_again}
use Rattle.rules.proofs.Own.{free_of, bit_at}

-- frame f is taken
abbrev pub taken_in : List ℕ → List ℕ → ℕ → ℕ
taken_in cs ws f = pick (is_flagged (get_or cs (f / child_frames) 0)) 1 (bit_at ws f)

-- every aligned run of s frames in child x has a taken one
abbrev pub Short : ℕ → List ℕ → List ℕ → ℕ → Type 0
Short s cs ws x = (i : ℕ) → s * i + s ≤ child_frames → ((k : ℕ) → k < s → taken_in cs ws (child_frames * x + (s * i + k)) ≡ 0) → ⊥

pub taken_le : (cs ws : List ℕ) (f : ℕ) → taken_in cs ws f ≤ 1
taken_le cs ws f = pick_elim (λ y. y ≤ 1) (is_flagged (get_or cs (f / child_frames) 0)) (λ e. omega arith) (λ e. bit_le (f % word_bits) (get_or ws (f / word_bits) 0))

-- a child's free frames are those that are not taken
pub free_taken : (cs ws : List ℕ) (x : ℕ) → free_of cs ws x ≡ sum_to child_frames (λ i. 1 - taken_in cs ws (child_frames * x + i))
unfolding free_of
free_taken cs ws x = pick_elim (λ y. y ≡ sum_to child_frames (λ i. 1 - taken_in cs ws (child_frames * x + i))) (is_flagged (get_or cs x 0))
    (λ e. sym (sum_zero child_frames (λ i. 1 - taken_in cs ws (child_frames * x + i)) (λ i l. let q : (child_frames * x + i) / child_frames ≡ x = omega arith in ap (λ y. 1 - y) (pick_yes _ _ _ (ap (λ c. is_flagged (get_or cs c 0)) q ∙ e)))))
    (λ e. zero_frames ws x ∙ sum_ext child_frames _ _ (λ i l. let q : (child_frames * x + i) / child_frames ≡ x = omega arith in ap (λ y. 1 - y) (sym (pick_no _ _ _ (ap (λ c. is_flagged (get_or cs c 0)) q ∙ e)))))

not_taken : (cs ws : List ℕ) (f : ℕ) → taken_in cs ws f ≡ 0 → bit_at ws f ≡ 0
not_taken cs ws f = pick_elim (λ y. y ≡ 0 → bit_at ws f ≡ 0) (is_flagged (get_or cs (f / child_frames) 0)) (λ e h. absurd (omega arith)) (λ e h. h)

-- fewer free frames than s
pub short_count : (s : ℕ) (cs ws : List ℕ) (x : ℕ) → free_of cs ws x < s → Short s cs ws x
short_count s cs ws x h i l q =
    let F : ℕ → ℕ = λ j. 1 - taken_in cs ws (child_frames * x + j) in
    let G : ℕ → ℕ = run s (s * i) in
    let under : (j : ℕ) → G j ≤ F j = λ j. elim (ran s (s * i) j) [
      | inside a b e ↦ let f : s * i + (j - s * i) ≡ j = omega arith in omega (arith, e, ap (λ y. taken_in cs ws (child_frames * x + y)) f, q (j - s * i) (omega arith))
      | outside a e ↦ omega arith
    ] in
    omega (arith, free_taken cs ws x, sum_run child_frames s (s * i) l, sum_add child_frames G (λ j. F j - G j) F (λ j m. omega (arith, under j)))

pub some_of : (m : ℕ) → m ≢ 0 → 0 < m
some_of m h = omega arith

-- no word of its field has a free run of s bits, m of which fill a word
pub short_words : (s m : ℕ) → s * m ≡ word_bits → (cs ws : List ℕ) (x : ℕ) → ((w i : ℕ) → w < child_words → i < m → bits s (s * i) (get_or ws (child_words * x + w) 0) ≢ 0) → Short s cs ws x
short_words s m e cs ws x h i l q =
    let a : ℕ = i / m in
    let r : ℕ = i % m in
    let m+ : 0 < m = some_of m (λ z. let y : s * m ≡ 0 = ap (λ c. s * c) z ∙ mul-zero s in omega arith) in
    let s+ : 0 < s = some_of s (λ z. let y : s * m ≡ 0 = ap (λ c. c * m) z ∙ zero-mul m in omega arith) in
    let b : r < m = mod-lt i m+ in
    let p : a * m + r ≡ i = div-add-mod' i m in
    let d : s * i ≡ word_bits * a + s * r = ap (λ c. s * c) (sym p) ∙ (omega (arith, ap (λ c. a * c) e)) in
    let f : s * r + s ≤ word_bits = omega (arith, mul-le-mul_right s b) in
    h a r (omega arith) b (free_bits s (s * r) (get_or ws (child_words * x + a) 0) (λ k t.
    let y : ℕ = child_frames * x + (s * i + k) in
    let u : y % word_bits ≡ s * r + k = omega arith in
    let v : y / word_bits ≡ child_words * x + a = omega arith in
    ap (λ c. bit c (get_or ws (child_words * x + a) 0)) (sym u) ∙ ap (λ c. bit (y % word_bits) (get_or ws c 0)) (sym v) ∙ not_taken cs ws y (q k t)))

-- a count is stored over a count: flags and bits stay
pub short_counted : (s : ℕ) (cs ws : List ℕ) (i k k' : ℕ) → i < length cs → child_says (get_or cs i 0) ≡ Some (ChildEntry.Counts k) → k' ≤ child_frames → (x : ℕ) → Short s cs ws x → Short s (set cs i (count_word k')) ws x
short_counted s cs ws i k k' l e m x h b a q = h b a (λ y t. ap (λ c. pick c 1 (bit_at ws (child_frames * x + (s * b + y)))) (sym (flags ((child_frames * x + (s * b + y)) / child_frames))) ∙ q y t)
  where
    flags : (y : ℕ) → is_flagged (get_or (set cs i (count_word k')) y 0) ≡ is_flagged (get_or cs y 0)
    flags y = elim (ℕ_discrete y i) [
      | yes r ↦ ap (λ c. is_flagged (get_or (set cs i (count_word k')) c 0)) r ∙ (ap is_flagged (get_or-set_same cs i (count_word k') 0 l) ∙ ((counts_entry (count_word k') k' (count_again k' m)).1 ∙ (sym (counts_entry (get_or cs i 0) k e).1 ∙ ap (λ c. is_flagged (get_or cs c 0)) (sym r))))
      | no r ↦ ap is_flagged (get_or-set_other cs i y (count_word k') 0 r)
    ]
