-- A stage by the one-entry function that it calls: what that says, in the stage's words, is what the rule says.
use mathlib.Core.Path.{◌≡◌, ap, ◌∙◌}
use mathlib.Core.List.{List}
use Prim.Native.Nat.{ℕ}
use Rattle.std.specs.Prelude.{Result, Err}
use Rattle.laws.specs.Tables.{outcome, wrapped}
use Rattle.rules.specs.Numbers.{children_of}
use Rattle.rules.specs.Answers.{answer_of}
use Rattle.rules.specs.Entries.{tree_says}
use Rattle.rules.specs.Plan.{Made, Tally, tree_entry}
use Rattle.entries.specs.Sizes as Sizes
use Rattle.entries.specs.Turns.{Turn, turn, tree_turned, on_tree, within}
use Rattle.entries.proofs.Maps.{mapped, within_mapped, tree_mapped}
use Rattle.places.specs.Shapes.{shape_of}
use Rattle.tree_stages.specs.Types.{Tree, Fault, Answer, Shape}
use Rattle.tree_stages.specs.Tables.{in_trees}

module _ {A : Type 0} (h : Result A Fault → Answer) (s : Shape) (faults : (f : Fault) → h (Err f) ≡ answer_of f) (l : List ℕ) {a : Result A Fault} {x : List ℕ} where
  pub tree_stage : (t : Tree) (f : ℕ → ℕ → Turn Tally (Result A Fault)) (f' : ℕ → ℕ → Made Tally) → ((r k : ℕ) → mapped h (f r k) ≡ turn (f' r k))
      → outcome a x ≡ within (Err Fault.NoEntry) t.0 l (on_tree (Sizes.shape_of s.size) (Err Fault.Damaged) t f l) → outcome (h a) x ≡ in_trees (shape_of s) (tree_entry t f') l
  unfolding in_trees on_tree tree_turned tree_says children_of
  tree_stage t f f' same e =
      ap (wrapped h) e ∙ within_mapped h (Err Fault.NoEntry) t.0 l _
      ∙ (ap (λ b. within b t.0 l (wrapped h (on_tree (Sizes.shape_of s.size) (Err Fault.Damaged) t f l))) (faults Fault.NoEntry)
      ∙ ap (within Answer.BadRecord t.0 l) (tree_mapped h (Sizes.shape_of s.size) (Err Fault.Damaged) t l f (λ r k. turn (f' r k)) same ∙ ap (λ d. on_tree (Sizes.shape_of s.size) d t (λ r k. turn (f' r k)) l) (faults Fault.Damaged)))
