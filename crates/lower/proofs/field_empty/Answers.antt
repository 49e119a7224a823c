use Rattle.std.specs.Prelude.{Result, Ok, Err}
use Rattle.std.proofs.lemmas.Result.{err_from_is_err_and}
use mathlib.Core.Path.{◌≡◌, sym, ap, ◌∙◌}
use mathlib.Core.List.{List}
use Prim.Native.Nat.{ℕ}
use lib.Dec.{eqb, ltb}
use Rattle.laws.proofs.Tests.{pick_elim, pick_yes, pick_no}
use Rattle.rules.specs.Numbers.{child_frames}
use Rattle.rules.specs.Lower.{empty_field, zero_bits}
use Rattle.lower.specs.Types.{Fault}
use Rattle.lower.specs.Steps.{fields_in, zeros_in, empty_in}
use Rattle.lower.proofs.field_empty.Goals as goal

empty_refused : (ws : List ℕ) (c : ℕ) {f : Fault} → Err f ≡ zeros_in ws c → Err f ≡ empty_in ws c
unfolding zeros_in empty_in
empty_refused ws c {f} = pick_elim (λ (r : Result ℕ Fault). Err f ≡ r → Err f ≡ empty_in ws c) (ltb c (fields_in ws)) (λ b q. absurd cc) (λ b q. let e : f ≡ Fault.NoField = cc in ap Err e ∙ sym (pick_no _ _ _ b))

empty_said : (ws : List ℕ) (c : ℕ) {k : ℕ} → Ok k ≡ zeros_in ws c → Ok (eqb k child_frames) ≡ empty_in ws c
unfolding zeros_in empty_in empty_field
empty_said ws c {k} = pick_elim (λ (r : Result ℕ Fault). Ok k ≡ r → Ok (eqb k child_frames) ≡ empty_in ws c) (ltb c (fields_in ws)) (λ b q. let e : k ≡ zero_bits ws c = cc in ap (λ z. Ok (eqb z child_frames)) e ∙ sym (pick_yes _ _ _ b)) (λ b q. absurd cc)

pub returns-in_err-zero_bits : goal.returns-in_err-zero_bits
returns-in_err-zero_bits c = let p = err_from_is_err_and c.from_residual.result c.from_residual.ensures.1 in rw (p.1, p.2) (empty_refused _ _ c.in_err-zero_bits.ensures)

pub returns : goal.returns
returns c = empty_said _ _ c.in_ok-zero_bits.ensures
