-- What each return of a reading and of a decoding has to show.
use mathlib.Core.Path.{◌≡◌, refl, sym, ap, subst, ◌∙◌}
use mathlib.Core.Logic.{◌≢◌}
use mathlib.Core.Bool.{true, false}
use Prim.Native.Nat.{ℕ, zero, suc, ◌≤◌, ◌<◌}
use native.Mathlib.Omega.{arith}
use Rattle.laws.proofs.Tests.{pick_yes, pick_no}
use Rattle.records.specs.Types.{Taking, Giving, Creating, Opening, Record, Words, Head, Tail}
use Rattle.records.specs.Encoding.{fields_of, Encodes, encode}
use Rattle.records.specs.Decoding.{head_of, tail_of, block_in, taking_at, giving_at, creating_at, opening_at, read_at, read, same_words, decode}
use Rattle.records.proofs.Picks.{same, other, below, above}

-- ---- the last stage of a get: its number is none of those before

-- no number from 1 to n, as a match's last arm has it
abbrev Missed : ℕ → ℕ → Type 0
Missed zero s = Unit {0}
Missed (suc k) s = Missed k s × (s ≢ suc k)

pub last_taking : (h : Head) (t : Tail) (x : ℕ) → Missed 16 h.stage → Taking.NoRoom ≡ taking_at h t x
unfolding taking_at
last_taking h t x ((((((((((((((((none, n₁), n₂), n₃), n₄), n₅), n₆), n₇), n₈), n₉), n₁₀), n₁₁), n₁₂), n₁₃), n₁₄), n₁₅), n₁₆) =
    other _ n₁ (other _ n₂ (other _ n₃ (other _ n₄ (other _ n₅ (other _ n₆ (other _ n₇ (other _ n₈ (other _ n₉ (other _ n₁₀ (other _ n₁₁ (other _ n₁₂ (other _ n₁₃ (other _ n₁₄ (other _ n₁₅ (other _ n₁₆ refl)))))))))))))))

-- ---- the words again of a stage that is none of those before

pub last_again : (h : Head) (t : Tail) (x : ℕ) {v : Words} → Missed 16 h.stage → Encodes (fields_of (Record.Get h.cpu Taking.NoRoom)) v → Encodes (fields_of (Record.Get h.cpu (taking_at h t x))) v
last_again h t x {v} m e = subst (λ s. Encodes (fields_of (Record.Get h.cpu s)) v) (last_taking h t x m) e

last_giving : (h : Head) (x : ℕ) → h.stage ≢ 18 → h.stage ≢ 19 → h.stage ≢ 20 → Giving.ToTree (block_in h.order x) ≡ giving_at h x
unfolding giving_at
last_giving h x n₁ n₂ n₃ = other _ n₁ (other _ n₂ (other _ n₃ refl))

pub last_given : (h : Head) (x : ℕ) {v : Words} → h.stage ≢ 18 → h.stage ≢ 19 → h.stage ≢ 20 → Encodes (fields_of (Record.Put h.cpu (Giving.ToTree (block_in h.order x)))) v → Encodes (fields_of (Record.Put h.cpu (giving_at h x))) v
last_given h x {v} n₁ n₂ n₃ e = subst (λ s. Encodes (fields_of (Record.Put h.cpu s)) v) (last_giving h x n₁ n₂ n₃) e

-- ---- a reading, by the stage of the first word's head

module _ (w : Words) (h : Head) (e : h ≡ head_of w.first) where
  by_head : read_at h (tail_of w.second) w.second ≡ read w
  unfolding read
  by_head = ap (λ h. read_at h (tail_of w.second) w.second) e

  pub read_finished : h.stage ≡ 0 → Record.Finished ≡ read w
  unfolding read_at
  read_finished z = same _ z refl ∙ by_head

  pub read_get : {s : Taking} → 0 < h.stage → h.stage < 18 → s ≡ taking_at h (tail_of w.second) w.second → Record.Get h.cpu s ≡ read w
  unfolding read_at
  read_get l u q = other _ (λ e. omega arith) (below _ u (ap (Record.Get h.cpu) q)) ∙ by_head

  pub read_put : {s : Giving} → 18 ≤ h.stage → h.stage < 22 → s ≡ giving_at h w.second → Record.Put h.cpu s ≡ read w
  unfolding read_at
  read_put l u q = other _ (λ e. omega arith) (above _ l (below _ u (ap (Record.Put h.cpu) q))) ∙ by_head

  pub read_create : {s : Creating} → 22 ≤ h.stage → h.stage < 27 → s ≡ creating_at h (tail_of w.second) w.second → Record.Create s ≡ read w
  unfolding read_at
  read_create l u q = other _ (λ e. omega arith) (above _ (omega arith) (above _ l (below _ u (ap Record.Create q)))) ∙ by_head

  pub read_open : {s : Opening} → 27 ≤ h.stage → s ≡ opening_at h (tail_of w.second) w.second → Record.Open s ≡ read w
  unfolding read_at
  read_open l q = other _ (λ e. omega arith) (above _ (omega arith) (above _ (omega arith) (above _ l (ap Record.Open q)))) ∙ by_head

-- words of the record that is read
pub encodes_read : (w : Words) (r : Record) {v : Words} → Encodes (fields_of r) v → r ≡ read w → v ≡ encode (read w)
unfolding encode
encodes_read w r e q = e.words ∙ ap encode q

-- ---- a decoding, by the words v of the record that is read

module _ (w v : Words) {r : Record} (p : r ≡ read w) (q : v ≡ encode r) where
  again : same_words (encode (read w)) w ≡ same_words v w
  again = sym (ap (λ v. same_words v w) (q ∙ ap encode p))

  pub words_differ : same_words v w ≡ false → Record.Finished ≡ decode w
  unfolding decode
  words_differ e = sym (pick_no _ _ _ (again ∙ e))

  pub words_same : same_words v w ≡ true → r ≡ decode w
  unfolding decode
  words_same e = p ∙ sym (pick_yes _ _ _ (again ∙ e))
