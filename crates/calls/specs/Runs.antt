-- A run of steps, where each step is a call of a closure.
use Rattle.std.specs.Prelude.{◌≡◌, ℕ, zero, suc}
use Rattle.rules.specs.Answers.{next_of, by_next}
use Rattle.calls.specs.Types.{Record, Answer, Ended}

-- at most n calls after the answer a, k steps made, from the closure f on: it ended with e and left the closure g
abbrev pub Runs : {F : Type 0} → (F → Record → Answer → F → Type 0) → ℕ → ℕ → Answer → F → Ended → F → Type 0
Runs {F} R zero k a f e g = (e ≡ record { answer = a; steps = k }) × (g ≡ f)
Runs {F} R (suc n) k a f e g = by_next (next_of a) ((e ≡ record { answer = a; steps = k }) × (g ≡ f)) (λ r. (b : Answer) × (h : F) × R f r b h × Runs R n (suc k) b h e g)
