-- The stages on children, from what the lower level says of a tree's part.
use mathlib.Core.Path.{◌≡◌, refl, sym, ap, ◌∙◌}
use mathlib.Core.List.{List}
use Prim.Native.Nat.{ℕ, ◌+◌, ◌-◌, ◌*◌, ◌<◌}
use Rattle.std.specs.Prelude.{Bool, Option, Some, None, Result, Ok, Err}
use native.Mathlib.Numerals.{add-one}
use native.Mathlib.Omega.{arith}
use lib.Dec.{eqb, leb}
use borrow.Author.Tests.{eq-eqb, ne_eqb}
use Rattle.laws.specs.Tests.{pick}
use Rattle.laws.specs.Tables.{Outcome, outcome}
use Rattle.laws.proofs.Tests.{pick_elim, pick_yes, pick_no}
use Rattle.rules.specs.Numbers.{child_frames, Shape as Rules, per_tree, children_of}
use Rattle.rules.specs.Blocks.{tree_of_block, child_of_block}
use Rattle.rules.specs.Places.{place_tree}
use Rattle.rules.specs.Take.{get, next_child}
use Rattle.rules.specs.Lower.{Lowered, told, changed, child_says, count_word, flagged_word, by_child, claim, take_huge}
use Rattle.rules.specs.Plan.{Mark, by_took, on_took, on_gave}
use Rattle.rules.specs.declared.ChildEntry.{ChildEntry}
use Rattle.lower.specs.Tables.{step_in}
use Rattle.entries.specs.Sizes as Sizes
use Rattle.places.specs.Shapes.{shape_of, block_at_in, ranged}
use Rattle.places.specs.declared.BlockAt.{BlockAt}
use Rattle.places.proofs.Ranges.{children_same}
use Rattle.lending.specs.Tables.{lent, made_in}
use Rattle.lending.specs.Answers.{given_answer}
use Rattle.lending.proofs.Lending.{answered, lent_made, SameGave, block_there}
use Rattle.child_stages.specs.Types.{Tree, Order, Block, Took, Fault, Place, Taking, Answer, Shape}
use Rattle.child_stages.specs.Tables.{lent_children}
use Rattle.child_stages.specs.Answers.{claimed_answer}

-- ---- the change is the lower level's, the answer is of what it said

module _ (x y : Answer) (k : Mark) where
  abbrev pub SameTook : Lowered (Result Took Fault) → Type 0
  SameTook o = (o.change ≡ (on_took o x k y).change) × (claimed_answer x y o.said ≡ (on_took o x k y).answer)

  took_same : (e : Option ChildEntry) (b : ℕ → Bool) (v : ℕ → ℕ) → SameTook (by_child e (told (Err Fault.Damaged)) (λ n. pick (b n) (changed (Ok Took.Taken) (v n)) (told (Ok Took.Passed))) (told (Ok Took.Passed)))
  unfolding by_child by_took
  took_same None b v = (refl, refl)
  took_same (Some (ChildEntry.Counts n)) b v = pick_elim SameTook (b n) (λ t. (refl, refl)) (λ t. (refl, refl))
  took_same (Some ChildEntry.Flagged) b v = (refl, refl)

  pub claim_same : (s n : ℕ) → SameTook (claim s n)
  unfolding claim
  claim_same s n = took_same (child_says n) (leb s) (λ k. count_word (k - s))

  pub nine_same : (n : ℕ) → SameTook (take_huge n)
  unfolding take_huge
  nine_same n = took_same (child_says n) (λ k. eqb k child_frames) (λ k. flagged_word)

-- ---- a tree's children

-- the code's number of a tree's children
pub kids_same : (s : Shape) {t u : Tree} {n : ℕ} → n ≡ children_of (Sizes.shape_of s.size) t.0 → t ≡ u → n ≡ children_of (shape_of s) u.0
kids_same s {t} e q = e ∙ children_same s t.0 ∙ ap (λ t. children_of (shape_of s) t.0) q

pub child_fits : (s : Shape) (t : Tree) {n c : ℕ} → n ≡ children_of (Sizes.shape_of s.size) t.0 → c < n → c < 255
unfolding children_of
child_fits s t e h = omega arith

-- ---- the next child

module _ (g : Rules) (cpu : ℕ) (o : Order) (p : Place) (s c : ℕ) {n : ℕ} (e : n ≡ children_of g (place_tree p).0) where
  pub next_round : c + 1 ≡ n → next_child g cpu o p s c ≡ pick (eqb 0 s) (get g cpu (Taking.Fail o p)) (get g cpu (Taking.Child o p s 0))
  unfolding next_child
  next_round q = ap (λ d. pick (eqb d s) (get g cpu (Taking.Fail o p)) (get g cpu (Taking.Child o p s d))) (pick_yes _ _ _ (eq-eqb _ _ (sym (add-one c) ∙ q ∙ e)))

  pub next_on : (c + 1 ≡ n → ⊥) → next_child g cpu o p s c ≡ pick (eqb (c + 1) s) (get g cpu (Taking.Fail o p)) (get g cpu (Taking.Child o p s (c + 1)))
  unfolding next_child
  next_on q = ap (λ d. pick (eqb d s) (get g cpu (Taking.Fail o p)) (get g cpu (Taking.Child o p s d))) (pick_no _ _ _ (ne_eqb _ _ (λ z. q (add-one c ∙ z ∙ sym e))) ∙ sym (add-one c))

-- ---- steps on a child

module _ (a k c : ℕ) (l : List ℕ) where
  pub claimed_made : (F : ℕ → Lowered (Result Took Fault)) (x y : Answer) (q : Mark) → ((n : ℕ) → SameTook x y q (F n)) → {s : Result Took Fault} {m : List ℕ} {r : Answer} → outcome s m ≡ lent (Err Fault.NoChild) a k (λ p. step_in (λ s. s) (Err Fault.NoChild) F p c) l → r ≡ claimed_answer x y s → outcome r m ≡ made_in a k c (λ v. on_took (F v) x q y) l
  unfolding step_in
  claimed_made F x y q same d e =
      answered (claimed_answer x y) d e
      ∙ lent_made (Err Fault.NoChild) (claimed_answer x y) refl a k (λ p. step_in (λ s. s) (Err Fault.NoChild) F p c) l (λ s. s) F _ same c (λ e. rw e refl)

  pub given_made : (F : ℕ → Lowered (Result Unit Fault)) (x : Answer) (q : Mark) → ((n : ℕ) → SameGave x q (F n)) → {s : Result Unit Fault} {m : List ℕ} {r : Answer} → outcome s m ≡ lent (Err Fault.NoChild) a k (λ p. step_in (λ s. s) (Err Fault.NoChild) F p c) l → r ≡ given_answer x s → outcome r m ≡ made_in a k c (λ v. on_gave (F v) x q) l
  unfolding step_in
  given_made F x q same d e =
      answered (given_answer x) d e
      ∙ lent_made (Err Fault.NoChild) (given_answer x) refl a k (λ p. step_in (λ s. s) (Err Fault.NoChild) F p c) l (λ s. s) F _ same c (λ e. rw e refl)

-- ---- a block's child

module _ (g : Rules) (l : List ℕ) (b : Block) (f : List ℕ → Outcome Answer) {r : Option BlockAt} {at : BlockAt} (e : r ≡ block_at_in g b) (q : r ≡ Some at) {s : Result Unit Fault} {m : List ℕ} {a : Answer} (x : Answer) (k : Mark) (z : a ≡ given_answer x s) where
  -- a step on the block's child
  pub given_there : (F : ℕ → Lowered (Result Unit Fault)) → ((n : ℕ) → SameGave x k (F n)) → outcome s m ≡ lent_children g at.tree (Err Fault.NoChild) (λ p. step_in (λ s. s) (Err Fault.NoChild) F p at.child) l → made_in ((tree_of_block g b).0 * per_tree g) (children_of g (tree_of_block g b).0) (child_of_block g b) (λ v. on_gave (F v) x k) l ≡ f l → outcome a m ≡ ranged g b f l
  given_there F same d = block_there g b f l e (λ t c. made_in (t.0 * per_tree g) (children_of g t.0) c (λ v. on_gave (F v) x k) l) q (given_made _ _ _ l F x k same d z)
