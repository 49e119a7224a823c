-- A step on the one entry of a stage: what is stored in a table that has it, so that nothing else is said, and which stage comes next.
use mathlib.Core.Path.{◌≡◌, refl, sym, ap, ◌∙◌}
use mathlib.Core.Bool.{false}
use mathlib.Core.List.{List}
use Prim.Native.Nat.{ℕ, suc, ◌+◌, ◌≤◌, ◌<◌}
use native.Mathlib.Omega.{arith}
use native.Mathlib.Numerals.{add-one}
use lib.Dec.{ltb}
use lib.ListN.{length, set}
use borrow.Author.Tests.{lt-ltb, le-ltb, le-leb}
use Rattle.std.specs.Prelude.{Result, Ok, Err}
use Rattle.laws.specs.Tests.{pick, passes}
use Rattle.laws.specs.Tables.{Outcome, outcome}
use Rattle.laws.proofs.Tests.{pick_yes, pick_no}
use Rattle.rules.specs.declared.Tree.{Tree}
use Rattle.rules.specs.declared.Fault.{Fault}
use Rattle.rules.specs.Numbers.{capacity}
use Rattle.rules.specs.Entries.{tree_word}
use Rattle.rules.specs.Ranges.{never}
use Rattle.entries.specs.Sizes as Sizes
use Rattle.entries.specs.Turns.{within}
use Rattle.entries.specs.Steps.{store_count_in, stored_in}
use Rattle.calls.specs.Types.{Size, Answer}

-- ---- a table that has the entry: it is stored
pub entry_stored : (i : ℕ) (l : List ℕ) → i < length l → (v : ℕ) → stored_in i v l ≡ outcome (Ok tt) (set l i v)
unfolding stored_in within
entry_stored i l h v = pick_yes _ _ _ (lt-ltb i (length l) h)

-- a count that is not above the tree's capacity
pub count_stored : (m : Size) (t : Tree) (l : List ℕ) → t.0 < length l → (k : ℕ) → k ≤ capacity (Sizes.shape_of m) t.0 → store_count_in m t k l ≡ outcome (Ok tt) (set l t.0 (tree_word 0 k))
unfolding store_count_in within
count_stored m t l h k b = pick_yes _ _ _ (lt-ltb t.0 (length l) h) ∙ pick_yes _ _ _ (le-leb k (capacity (Sizes.shape_of m) t.0) b)

-- so nothing else is said
pub said_same : {A : Type 0} {x y : A} {l m : List ℕ} → outcome x l ≡ outcome y m → x ≡ y
said_same {A} e = ap (λ (o : Outcome A). o.said) e

pub stored_said : {B : Type 0} {l m : List ℕ} {x : Result Unit Fault} {f : Fault} → outcome x l ≡ outcome (Ok tt) m → x ≡ Err f → B
stored_said e q = let d = said_same e in let n : ◌≡◌ {A = ℕ} 0 1 = cc in absurd (omega arith)

-- ---- the stage after entry i of n, as f answers it
module _ {A : Type 0} (f : A → Answer) (i n : ℕ) (x : ℕ → A) (y : A) {r : Answer} where
  pub next_entry : i + 1 < n → r ≡ f (x (i + 1)) → r ≡ f (pick (ltb (suc i) n) (x (suc i)) y)
  next_entry h q = (rw add-one at q) ∙ sym (ap f (pick_yes _ _ _ (lt-ltb (suc i) n (omega arith))))

  pub next_table : n ≤ i + 1 → r ≡ f y → r ≡ f (pick (ltb (suc i) n) (x (suc i)) y)
  next_table h q = q ∙ sym (ap f (pick_no _ _ _ (le-ltb (suc i) n (omega arith))))

-- another operation's record
pub never_passes : passes never ≡ false
unfolding passes pick
never_passes = refl
