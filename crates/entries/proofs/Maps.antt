-- What a step says of an entry, said in other words: the table afterwards is the same.
use Rattle.std.specs.Prelude.{Option, Some, None}
use mathlib.Core.Path.{◌≡◌, refl, ap, ◌∙◌}
use mathlib.Core.Bool.{Bool, true, false}
use mathlib.Core.List.{List}
use Prim.Native.Nat.{ℕ}
use lib.Dec.{leb, ltb}
use lib.ListN.{length, get_or, set}
use Rattle.laws.specs.Tests.{pick}
use Rattle.laws.specs.Tables.{Outcome, outcome, wrapped}
use Rattle.rules.specs.Numbers.{Shape, capacity}
use Rattle.rules.specs.Entries.{tree_says, tree_word}
use Rattle.rules.specs.Lower.{Change, keep, become}
use Rattle.rules.specs.Plan.{Made, Tally, by_change, by_tree}
use Rattle.entries.specs.Types.{Tree, TreeEntry, Answer}
use Rattle.entries.specs.Turns.{Turn, turn, tree_turned, on_tree, within}

module _ {A B : Type 0} (h : A → B) where
  abbrev pub mapped : {E : Type 0} → Turn E A → Turn E B
  mapped m = record { change = m.change; said = h m.said }

  pub pick_mapped : (b : Bool) (x y : Outcome A) → wrapped h (pick b x y) ≡ pick b (wrapped h x) (wrapped h y)
  unfolding pick
  pick_mapped true x y = refl
  pick_mapped false x y = refl

  pub within_mapped : (none : A) (i : ℕ) (l : List ℕ) (o : Outcome A) → wrapped h (within none i l o) ≡ within (h none) i l (wrapped h o)
  unfolding within
  within_mapped none i l o = pick_mapped (ltb i (length l)) o (outcome none l)

  -- ---- tree t's entry

  module _ (g : Shape) (damaged : A) (t : Tree) (l : List ℕ) where
    turned_mapped : (m : Turn Tally A) → wrapped h (tree_turned g damaged t m l) ≡ tree_turned g (h damaged) t (mapped m) l
    unfolding tree_turned by_change
    turned_mapped m = go m.change
      where
        go : (c : Change Tally)
            → wrapped h (by_change c (outcome m.said l) (λ x. pick (leb x.count (capacity g t.0)) (outcome m.said (set l t.0 (tree_word x.reserved x.count))) (outcome damaged l)))
            ≡ by_change c (outcome (h m.said) l) (λ x. pick (leb x.count (capacity g t.0)) (outcome (h m.said) (set l t.0 (tree_word x.reserved x.count))) (outcome (h damaged) l))
        go keep = refl
        go (become x) = pick_mapped (leb x.count (capacity g t.0)) _ _

    pub tree_mapped : (f : ℕ → ℕ → Turn Tally A) (f' : ℕ → ℕ → Turn Tally B) → ((r k : ℕ) → mapped (f r k) ≡ f' r k) → wrapped h (on_tree g damaged t f l) ≡ on_tree g (h damaged) t f' l
    unfolding on_tree by_tree
    tree_mapped f f' same = go (tree_says g t (get_or l t.0 0))
      where
        go : (e : Option TreeEntry) → wrapped h (by_tree e (outcome damaged l) (λ r k. tree_turned g damaged t (f r k) l)) ≡ by_tree e (outcome (h damaged) l) (λ r k. tree_turned g (h damaged) t (f' r k) l)
        go None = refl
        go (Some e) = turned_mapped (f e.reserved e.count) ∙ ap (λ m. tree_turned g (h damaged) t m l) (same e.reserved e.count)

-- two cases of what is said are the rule's two cases
pub both_cases : {E A : Type 0} (h : A → Answer) (b : Bool) (x y : Turn E A) (x' y' : Made E) → mapped h x ≡ turn x' → mapped h y ≡ turn y' → mapped h (pick b x y) ≡ turn (pick b x' y')
unfolding pick
both_cases h true x y x' y' p q = p
both_cases h false x y x' y' p q = q
