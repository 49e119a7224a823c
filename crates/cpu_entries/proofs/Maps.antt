-- What a step says of a CPU's entry, said in other words: the table afterwards is the same.
use Rattle.std.specs.Prelude.{Option, Some, None}
use mathlib.Core.Path.{◌≡◌, refl, ap, ◌∙◌}
use mathlib.Core.List.{List}
use Prim.Native.Nat.{ℕ}
use lib.ListN.{get_or, set}
use Rattle.laws.specs.Tests.{pick}
use Rattle.laws.specs.Tables.{outcome, wrapped}
use Rattle.rules.specs.Numbers.{format1, Shape}
use Rattle.rules.specs.Entries.{cpu_says, cpu_word}
use Rattle.rules.specs.Lower.{Change, keep, become}
use Rattle.rules.specs.Plan.{by_change, by_cpu, laid_out}
use Rattle.entries.specs.Turns.{Turn}
use Rattle.entries.proofs.Maps.{mapped, pick_mapped}
use Rattle.cpu_entries.specs.Types.{Tree, CpuEntry}
use Rattle.cpu_entries.specs.Turns.{cpu_turned, on_cpu}

module _ {A B : Type 0} (h : A → B) (g : Shape) (damaged : A) (j : ℕ) (l : List ℕ) where
  turned_mapped : (m : Turn CpuEntry A) → wrapped h (cpu_turned g damaged j m l) ≡ cpu_turned g (h damaged) j (mapped h m) l
  unfolding cpu_turned by_change
  turned_mapped m = go m.change
    where
      go : (c : Change CpuEntry)
          → wrapped h (by_change c (outcome m.said l) (λ e. pick (laid_out g e) (outcome m.said (set l j (cpu_word format1 e))) (outcome damaged l)))
          ≡ by_change c (outcome (h m.said) l) (λ e. pick (laid_out g e) (outcome (h m.said) (set l j (cpu_word format1 e))) (outcome (h damaged) l))
      go keep = refl
      go (become e) = pick_mapped h (laid_out g e) _ _

  pub cpu_mapped : (a : Turn CpuEntry A) (f : Tree → ℕ → ℕ → Turn CpuEntry A) (a' : Turn CpuEntry B) (f' : Tree → ℕ → ℕ → Turn CpuEntry B) → mapped h a ≡ a' → ((t : Tree) (s k : ℕ) → mapped h (f t s k) ≡ f' t s k)
      → wrapped h (on_cpu g damaged j a f l) ≡ on_cpu g (h damaged) j a' f' l
  unfolding on_cpu by_cpu
  cpu_mapped a f a' f' p q = go (cpu_says g (get_or l j 0))
    where
      go : (e : Option CpuEntry) → wrapped h (by_cpu e (outcome damaged l) (cpu_turned g damaged j a l) (λ t s k. cpu_turned g damaged j (f t s k) l)) ≡ by_cpu e (outcome (h damaged) l) (cpu_turned g (h damaged) j a' l) (λ t s k. cpu_turned g (h damaged) j (f' t s k) l)
      go None = refl
      go (Some CpuEntry.Absent) = turned_mapped a ∙ ap (λ m. cpu_turned g (h damaged) j m l) p
      go (Some (CpuEntry.Holds t s k)) = turned_mapped (f t s k) ∙ ap (λ m. cpu_turned g (h damaged) j m l) (q t s k)
