-- A stage by the one-entry function that it calls: what that says, in the stage's words, is what the rule says.
use mathlib.Core.Path.{◌≡◌, ap, ◌∙◌}
use mathlib.Core.List.{List}
use Prim.Native.Nat.{ℕ}
use Rattle.std.specs.Prelude.{Result, Err}
use Rattle.laws.specs.Tables.{outcome, wrapped}
use Rattle.rules.specs.Numbers.{trees_of, children_of}
use Rattle.rules.specs.Answers.{answer_of}
use Rattle.rules.specs.Entries.{cpu_says}
use Rattle.rules.specs.Plan.{Made, laid_out, cpu_entry}
use Rattle.entries.specs.Sizes as Sizes
use Rattle.entries.specs.Turns.{Turn, turn, within}
use Rattle.entries.proofs.Maps.{mapped, within_mapped}
use Rattle.cpu_entries.specs.Turns.{cpu_turned, on_cpu}
use Rattle.cpu_entries.proofs.Maps.{cpu_mapped}
use Rattle.places.specs.Shapes.{shape_of}
use Rattle.cpu_stages.specs.Types.{Tree, CpuEntry, Fault, Answer, Shape}
use Rattle.cpu_stages.specs.Tables.{in_cpus}

module _ {A : Type 0} (h : Result A Fault → Answer) (s : Shape) (faults : (f : Fault) → h (Err f) ≡ answer_of f) (l : List ℕ) {a : Result A Fault} {x : List ℕ} where
  pub cpu_stage : (j : ℕ) (b : Turn CpuEntry (Result A Fault)) (f : Tree → ℕ → ℕ → Turn CpuEntry (Result A Fault)) (b' : Made CpuEntry) (f' : Tree → ℕ → ℕ → Made CpuEntry) → mapped h b ≡ turn b' → ((t : Tree) (i k : ℕ) → mapped h (f t i k) ≡ turn (f' t i k))
      → outcome a x ≡ within (Err Fault.NoEntry) j l (on_cpu (Sizes.shape_of s.size) (Err Fault.Damaged) j b f l) → outcome (h a) x ≡ in_cpus (shape_of s) (cpu_entry j b' f') l
  unfolding in_cpus on_cpu cpu_turned cpu_says laid_out trees_of children_of
  cpu_stage j b f b' f' u v e =
      ap (wrapped h) e ∙ within_mapped h (Err Fault.NoEntry) j l _
      ∙ (ap (λ z. within z j l (wrapped h (on_cpu (Sizes.shape_of s.size) (Err Fault.Damaged) j b f l))) (faults Fault.NoEntry)
      ∙ ap (within Answer.BadRecord j l) (cpu_mapped h (Sizes.shape_of s.size) (Err Fault.Damaged) j l b f (turn b') (λ t i k. turn (f' t i k)) u v ∙ ap (λ d. on_cpu (Sizes.shape_of s.size) d j (turn b') (λ t i k. turn (f' t i k)) l) (faults Fault.Damaged)))
