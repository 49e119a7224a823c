-- A step on one CPU's entry: what it says, and the table afterwards. An entry read, or one to be stored, that breaks its layout is damaged.
use Rattle.std.specs.Prelude.{List, ℕ, get_or, set}
use Rattle.laws.specs.Tests.{pick}
use Rattle.laws.specs.Tables.{Outcome, outcome}
use Rattle.rules.specs.Numbers.{format1, Shape}
use Rattle.rules.specs.Entries.{cpu_says, cpu_word}
use Rattle.rules.specs.Plan.{by_change, by_cpu, laid_out}
use Rattle.entries.specs.Turns.{Turn}
use Rattle.cpu_entries.specs.Types.{Tree, CpuEntry}

module _ {A : Type 0} (g : Shape) (damaged : A) where
  -- CPU j's entry: absent, or with its tree, start child and count
  unfoldable pub cpu_turned : ℕ → Turn CpuEntry A → List ℕ → Outcome A
  cpu_turned j m l = by_change m.change (outcome m.said l) (λ e. pick (laid_out g e) (outcome m.said (set l j (cpu_word format1 e))) (outcome damaged l))

  unfoldable pub on_cpu : ℕ → Turn CpuEntry A → (Tree → ℕ → ℕ → Turn CpuEntry A) → List ℕ → Outcome A
  on_cpu j a f l = by_cpu (cpu_says g (get_or l j 0)) (outcome damaged l) (cpu_turned j a l) (λ t s k. cpu_turned j (f t s k) l)
