-- What a finished open leaves, over any tree and CPU tables; and that an open cut anywhere and opened again leaves the same.
use Rattle.std.specs.Prelude.{◌≡◌, ◌⊎◌, true, List, [], ◌∷◌, ℕ, ◌+◌, ◌*◌, ◌^◌, ◌≤◌, ◌<◌, length, get_or, replicate, Some}
use Rattle.laws.specs.Tests.{pick}
use Rattle.laws.specs.Sum.{sum_to}
use Rattle.rules.specs.Types.{ChildEntry}
use Rattle.rules.specs.Numbers.{most_cpus, Shape, per_tree, trees_of, children_of}
use Rattle.rules.specs.Conversions.{huge}
use Rattle.rules.specs.Answers.{number}
use Rattle.rules.specs.Entries.{header_word, running, tree_word}
use Rattle.rules.specs.Lower.{child_says, count_in, recount}
use Rattle.rules.specs.Zone.{Zone, header_of, shape_of}
use Rattle.rules.specs.Checks.{is_running}
use Rattle.rules.specs.Open.{child_at, zeros_at, empty_at, open_zone}
use Rattle.rules.specs.Fresh.{listed, opens, steps_of_open}

-- with a running marker each child with a clear counts its zero bits, and one with a set stands as it stood
abbrev pub child_after : Zone → ℕ → ℕ
child_after z c = let g : Shape = shape_of z in pick (is_running (header_of z)) (recount (zeros_at g z (huge c)) (child_at g z (huge c))) (child_at g z (huge c))

-- each tree has its children's sum with r clear
abbrev pub tree_after : Zone → ℕ → ℕ
tree_after z t = let g : Shape = shape_of z in tree_word 0 (sum_to (children_of g t) (λ c. count_in (child_after z (t * per_tree g + c))))

unfoldable pub reopened : Zone → Zone
reopened z = record {
  header = header_word running (shape_of z).huge ∷ [];
  words = z.words;
  children = listed (shape_of z).huge (child_after z);
  trees = listed (trees_of (shape_of z)) (tree_after z);
  cpus = replicate (shape_of z).cpus 0;
}

abbrev pub Accepted : Zone → Type 0
Accepted z = number (open_zone z).answer ≡ 1

-- what a cut leaves of the tables, with anything in trees (of the right length) and CPUs (of any length from 1 to 64)
abbrev pub cut_to : Zone → List ℕ → List ℕ → Zone
cut_to z ts cs = record { header = z.header; words = z.words; children = z.children; trees = ts; cpus = cs }

-- child entries have 16 bits, counts are true and flagged fields empty
pub record True (z : Zone) : Type 0 where
  pub small : (c : ℕ) → c < (shape_of z).huge → get_or z.children c 0 < 2 ^ 16
  pub counts : (c : ℕ) → c < (shape_of z).huge → (k : ℕ) → child_says (child_at (shape_of z) z (huge c)) ≡ Some (ChildEntry.Counts k) → k ≡ zeros_at (shape_of z) z (huge c)
  pub fields : (c : ℕ) → c < (shape_of z).huge → child_says (child_at (shape_of z) z (huge c)) ≡ Some ChildEntry.Flagged → empty_at (shape_of z) z (huge c) ≡ true

-- the two zones agree but for the number of their CPUs
pub record SameBut (y z : Zone) : Type 0 where
  pub header : y.header ≡ z.header
  pub words : y.words ≡ z.words
  pub children : y.children ≡ z.children
  pub trees : y.trees ≡ z.trees

pub record Reopens : Type 0 where
  pub finished : (z : Zone) → Accepted z → (opens z (steps_of_open z)).zone ≡ reopened z
  -- cut after its first step and k later ones, from a running marker over any tables, or from a clean one where the counts are true
  pub again : (z : Zone) → Accepted z → (is_running (header_of z) ≡ true) ⊎ True z → (k : ℕ) (ts cs : List ℕ) → length ts ≡ trees_of (shape_of z) → 0 < length cs → length cs ≤ most_cpus
      → let y : Zone = cut_to (opens z k).zone ts cs in Accepted y × SameBut (reopened y) (reopened z)
