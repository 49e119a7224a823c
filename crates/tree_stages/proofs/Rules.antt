-- Each stage on variables: the callees' contracts say what the rule says.
use mathlib.Core.Path.{◌≡◌, refl, sym, ap, ◌∙◌}
use mathlib.Core.List.{List}
use Prim.Native.Nat.{ℕ, ◌<◌, ◌≤◌}
use Rattle.std.specs.Prelude.{Option, Some, Result}
use Rattle.laws.specs.Tables.{outcome}
use Rattle.laws.proofs.Tests.{pick_yes, pick_no}
use Rattle.rules.specs.Numbers.{children_of, Shape as Rules}
use Rattle.rules.specs.Blocks.{size, size_of, first_of, tree_of_block}
use Rattle.rules.specs.Places.{place_tree, after_place}
use Rattle.rules.specs.Take.{get, steal_count, take}
use Rattle.rules.specs.Give.{give}
use Rattle.entries.specs.Steps.{take_count_in, add_count_in, unreserve_in, reserve_in, take_with_in}
use Rattle.entries.proofs.Maps.{both_cases}
use Rattle.places.specs.Shapes.{shape_of, block_at_in, ranged}
use Rattle.places.specs.declared.BlockAt.{BlockAt}
use Rattle.places.proofs.Blocks.{block_in_lem}
use Rattle.lending.specs.Answers.{given_answer}
use Rattle.calls.proofs.Answered.{answered, size_within, size_above}
use Rattle.tree_stages.specs.Types.{Tree, Order, Block, Frame, Pass, Found, Place, Taking, Giving, Fault, Answer, Shape}
use Rattle.tree_stages.specs.Tables.{in_trees}
use Rattle.tree_stages.specs.Answers.{take_count_answer, try_answer, steal_count_answer}
use Rattle.tree_stages.proofs.Stages.{tree_stage}

-- rule 4: the hand suffices, or not
module _ (g : Rules) (cpu : ℕ) (o : Order) (j : ℕ) (t : Tree) (h n : ℕ) {r : Answer} (e : n ≡ size o) where
  pub steal_enough : n ≤ h → r ≡ get g cpu (Taking.Write o (Found.Steal j t) h) → r ≡ steal_count g cpu o j t h
  unfolding steal_count
  steal_enough b p = p ∙ sym (pick_yes _ _ _ (size_within n h o e b))

  pub steal_short : h < n → r ≡ get g cpu (Taking.Unreserve o (Place.Found (Found.Steal j t)) h) → r ≡ steal_count g cpu o j t h
  unfolding steal_count
  steal_short b p = p ∙ sym (pick_no _ _ _ (size_above n h o e b))

module _ (s : Shape) (cpu : ℕ) (o : Order) (l : List ℕ) {x : List ℕ} {r : Answer} where
  pub take_count_rule : (t : Tree) {a : Result ℕ Fault} → outcome a x ≡ take_count_in s.size t l → r ≡ take_count_answer cpu o t a → outcome r x ≡ in_trees (shape_of s) (take (shape_of s) cpu (Taking.TakeCount o t)) l
  unfolding take
  take_count_rule t p q = answered q (tree_stage (take_count_answer cpu o t) s (λ f. refl) l t _ _ (λ r k. refl) p)

  pub return_rule : (t : Tree) (h : ℕ) {a : Result Unit Fault} {d : Answer} → d ≡ get (shape_of s) cpu (Taking.LookAgain o t) → outcome a x ≡ add_count_in s.size t h l → r ≡ given_answer d a
      → outcome r x ≡ in_trees (shape_of s) (take (shape_of s) cpu (Taking.ReturnHand o t h)) l
  unfolding take
  return_rule t h {a} u p q = answered (q ∙ ap (λ d. given_answer d a) u) (tree_stage (given_answer (get (shape_of s) cpu (Taking.LookAgain o t))) s (λ f. refl) l t _ _ (λ r k. refl) p)

  pub unreserve_rule : (y : Place) (h : ℕ) (t : Tree) {a : Result Unit Fault} {d : Answer} → t ≡ place_tree y → d ≡ get (shape_of s) cpu (after_place (shape_of s) cpu o y)
      → outcome a x ≡ unreserve_in s.size t h l → r ≡ given_answer d a → outcome r x ≡ in_trees (shape_of s) (take (shape_of s) cpu (Taking.Unreserve o y h)) l
  unfolding take
  unreserve_rule y h t {a} e u p q =
      answered (q ∙ ap (λ d. given_answer d a) u) (tree_stage (given_answer (get (shape_of s) cpu (after_place (shape_of s) cpu o y))) s (λ f. refl) l _ _ _ (λ r k. refl)
      (p ∙ ap (λ t. unreserve_in s.size t h l) e))

  pub fail_rule : (y : Place) (n : ℕ) (t : Tree) {a : Result Unit Fault} {d : Answer} → n ≡ size o → t ≡ place_tree y → d ≡ get (shape_of s) cpu (Taking.Release o y)
      → outcome a x ≡ add_count_in s.size t n l → r ≡ given_answer d a → outcome r x ≡ in_trees (shape_of s) (take (shape_of s) cpu (Taking.Fail o y)) l
  unfolding take
  fail_rule y n t {a} e f u p q =
      answered (q ∙ ap (λ d. given_answer d a) u) (tree_stage (given_answer (get (shape_of s) cpu (Taking.Release o y))) s (λ f. refl) l _ _ _ (λ r k. refl)
      (p ∙ (ap (λ t. add_count_in s.size t n l) f ∙ ap (λ n. add_count_in s.size (place_tree y) n l) e)))

  pub try_rule : (y : Pass) (n : ℕ) {a : Result (Option ℕ) Fault} → n ≡ size o → outcome a x ≡ reserve_in s.size y n l → r ≡ try_answer (shape_of s) cpu o y a → outcome r x ≡ in_trees (shape_of s) (take (shape_of s) cpu (Taking.Try o y)) l
  unfolding take
  try_rule y n e p q =
      let h : Result (Option ℕ) Fault → Answer = try_answer (shape_of s) cpu o y in
      answered q (tree_stage h s (λ f. refl) l _ _ _ (λ r k. both_cases h _ _ _ _ _ refl refl) (p ∙ ap (λ n. reserve_in s.size y n l) e))

  pub steal_count_rule : (j : ℕ) (t : Tree) (k : ℕ) {a : Result ℕ Fault} → outcome a x ≡ take_with_in s.size t k l → r ≡ steal_count_answer (shape_of s) cpu o j t a
      → outcome r x ≡ in_trees (shape_of s) (take (shape_of s) cpu (Taking.StealCount o j t k)) l
  unfolding take children_of
  steal_count_rule j t k p q =
      let h : Result ℕ Fault → Answer = steal_count_answer (shape_of s) cpu o j t in
      answered q (tree_stage h s (λ f. refl) l t _ _ (λ r k. both_cases h _ _ _ _ _ refl refl) p)

-- ---- a block's tree

module _ (s : Shape) (cpu : ℕ) (b : Block) (l : List ℕ) {x : List ℕ} {r : Answer} {z : Option BlockAt} {at : BlockAt} {m : Frame} {n : ℕ} where
  pub to_tree_rule : z ≡ block_at_in (shape_of s) b → z ≡ Some at → m ≡ first_of b → n ≡ size_of b → {a : Result Unit Fault} → outcome a x ≡ add_count_in s.size at.tree n l → r ≡ given_answer (Answer.Done m) a
      → outcome r x ≡ ranged (shape_of s) b (in_trees (shape_of s) (give (shape_of s) cpu (Giving.ToTree b))) l
  unfolding give
  to_tree_rule e is first frames {a} p q =
      block_in_lem (shape_of s) b _ l e is (λ u v.
      answered (q ∙ ap (λ m. given_answer (Answer.Done m) a) first) (tree_stage (given_answer (Answer.Done (first_of b))) s (λ f. refl) l _ _ _ (λ r k. refl)
      (p ∙ (ap (λ t. add_count_in s.size t n l) u ∙ ap (λ n. add_count_in s.size (tree_of_block (shape_of s) b) n l) frames))))
