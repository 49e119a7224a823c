-- Each stage on variables: the callees' contracts say what the rule says.
use mathlib.Core.Path.{◌≡◌, refl, sym, ap, ◌∙◌}
use mathlib.Core.Bool.{Bool, true}
use mathlib.Core.List.{List}
use Prim.Native.Nat.{ℕ, ◌-◌, ◌<◌, ◌≤◌}
use Rattle.std.specs.Prelude.{Option, Some, None, Result}
use lib.Dec.{leb}
use lib.ListN.{length, get_or}
use borrow.Author.Tests.{lt-ltb, le-ltb}
use Rattle.laws.specs.Tables.{outcome}
use Rattle.laws.proofs.Tests.{pick_yes, pick_no}
use Rattle.rules.specs.Blocks.{size, size_of, first_of, tree_of_block}
use Rattle.rules.specs.Entries.{cpu_says}
use Rattle.rules.specs.Plan.{by_change, by_cpu}
use Rattle.rules.specs.Places.{found_tree, place_tree}
use Rattle.rules.specs.Take.{get, claim_own, release, write, take}
use Rattle.rules.specs.Give.{put, give}
use Rattle.entries.specs.Turns.{turn, within}
use Rattle.entries.proofs.Maps.{both_cases}
use Rattle.cpu_entries.specs.Turns.{cpu_turned, on_cpu}
use Rattle.cpu_entries.specs.Steps.{claim_own_in, add_own_in, claim_or_release_in, release_in, write_in, steal_in, set_start_in}
use Rattle.places.specs.Shapes.{shape_of, block_at_in, ranged}
use Rattle.places.specs.declared.BlockAt.{BlockAt}
use Rattle.places.proofs.Blocks.{block_in_lem}
use Rattle.calls.proofs.Answered.{answered, size_within, size_above}
use Rattle.cpu_stages.specs.Types.{Tree, Order, Block, CpuEntry, Frame, Found, Place, Taking, Giving, Fault, Answer, Claimed, Again, Stolen, Shape}
use Rattle.cpu_stages.specs.Tables.{in_cpus}
use Rattle.cpu_stages.specs.Answers.{own_answer, held_answer, again_answer, release_answer, write_answer, steal_answer}
use Rattle.cpu_stages.proofs.Stages.{cpu_stage}

module _ (s : Shape) (cpu : ℕ) (o : Order) (l : List ℕ) {x : List ℕ} {r : Answer} where
  pub own_rule : (n : ℕ) {a : Result Claimed Fault} → n ≡ size o → outcome a x ≡ claim_own_in s.size cpu n l → r ≡ own_answer (shape_of s) cpu o a → outcome r x ≡ in_cpus (shape_of s) (take (shape_of s) cpu (Taking.Own o)) l
  unfolding take claim_own
  own_rule n e p q =
      let h : Result Claimed Fault → Answer = own_answer (shape_of s) cpu o in
      answered q (cpu_stage h s (λ f. refl) l cpu _ _ _ _ refl (λ u i k. both_cases h _ _ _ _ _ refl refl) (p ∙ ap (λ n. claim_own_in s.size cpu n l) e))

  pub fill_rule : (t : Tree) (k : ℕ) {a : Result Bool Fault} {d e : Answer} → d ≡ get (shape_of s) cpu (Taking.LookAgain o t) → e ≡ get (shape_of s) cpu (Taking.ReturnHand o t k)
      → outcome a x ≡ add_own_in s.size cpu t k l → r ≡ held_answer d e a → outcome r x ≡ in_cpus (shape_of s) (take (shape_of s) cpu (Taking.FillEntry o t k)) l
  unfolding take
  fill_rule t k u v p q =
      let h : Result Bool Fault → Answer = held_answer (get (shape_of s) cpu (Taking.LookAgain o t)) (get (shape_of s) cpu (Taking.ReturnHand o t k)) in
      answered (q ∙ (cc)) (cpu_stage h s (λ f. refl) l cpu _ _ _ _ refl (λ u i k. both_cases h _ _ _ _ _ refl refl) p)

  pub again_rule : (t : Tree) (n : ℕ) {a : Result Again Fault} → n ≡ size o → outcome a x ≡ claim_or_release_in s.size cpu t n l → r ≡ again_answer (shape_of s) cpu o t a
      → outcome r x ≡ in_cpus (shape_of s) (take (shape_of s) cpu (Taking.LookAgain o t)) l
  unfolding take claim_own release
  again_rule t n e p q =
      let h : Result Again Fault → Answer = again_answer (shape_of s) cpu o t in
      answered q (cpu_stage h s (λ f. refl) l cpu _ _ _ _ refl (λ u i k. both_cases h _ _ _ _ _ (both_cases h _ _ _ _ _ refl refl) refl) (p ∙ ap (λ n. claim_or_release_in s.size cpu t n l) e))

  pub release_rule : (y : Place) (t : Tree) {a : Result (Option ℕ) Fault} → t ≡ place_tree y → outcome a x ≡ release_in s.size cpu t l → r ≡ release_answer (shape_of s) cpu o y a
      → outcome r x ≡ in_cpus (shape_of s) (take (shape_of s) cpu (Taking.Release o y)) l
  unfolding take release
  release_rule y t e p q =
      let h : Result (Option ℕ) Fault → Answer = release_answer (shape_of s) cpu o y in
      answered q (cpu_stage h s (λ f. refl) l cpu _ _ _ _ refl (λ u i k. both_cases h _ _ _ _ _ refl refl) (p ∙ ap (λ t. release_in s.size cpu t l) e))

  pub steal_rule : (j : ℕ) {a : Result (Option Stolen) Fault} → outcome a x ≡ steal_in s.size j l → r ≡ steal_answer (shape_of s) cpu o j a → outcome r x ≡ in_cpus (shape_of s) (take (shape_of s) cpu (Taking.Steal o j)) l
  unfolding take
  steal_rule j p q = answered q (cpu_stage (steal_answer (shape_of s) cpu o j) s (λ f. refl) l j _ _ _ _ refl (λ t i k. refl) p)

  pub write_rule : (f : Found) (n h : ℕ) (t : Tree) {a : Result Unit Fault} → n ≡ size o → t ≡ found_tree f → n ≤ h → outcome a x ≡ write_in s.size cpu t (h - n) l → r ≡ write_answer (shape_of s) cpu o f a
      → outcome r x ≡ in_cpus (shape_of s) (take (shape_of s) cpu (Taking.Write o f h)) l
  unfolding take write
  write_rule f n h t e u b p q =
      let w : leb (size o) h ≡ true = size_within n h o e b in
      answered q (cpu_stage (write_answer (shape_of s) cpu o f) s (λ f. refl) l cpu _ _ _ _ (ap turn (sym (pick_yes _ _ _ w))) (λ t i k. ap turn (sym (pick_yes _ _ _ w)))
      (p ∙ (ap (λ t. write_in s.size cpu t (h - n) l) u ∙ ap (λ n. write_in s.size cpu (found_tree f) (h - n) l) e)))

-- rule 3 without a store
module _ (s : Shape) (cpu : ℕ) (o : Order) (l : List ℕ) where
  pub write_short : (f : Found) (n h : ℕ) → n ≡ size o → h < n → cpu < length l → outcome Answer.Damaged l ≡ in_cpus (shape_of s) (take (shape_of s) cpu (Taking.Write o f h)) l
  unfolding take write in_cpus within on_cpu cpu_turned by_change by_cpu
  write_short f n h e b p =
      go (cpu_says (shape_of s) (get_or l cpu 0))
      ∙ (ap (λ w. on_cpu (shape_of s) Answer.Damaged cpu (turn w) (λ t i k. turn w) l) (sym (pick_no _ _ _ (size_above n h o e b)))
      ∙ sym (pick_yes _ _ _ (lt-ltb _ _ p)))
    where
      go : (y : Option CpuEntry) → outcome Answer.Damaged l ≡ by_cpu y (outcome Answer.Damaged l) (outcome Answer.Damaged l) (λ t i k. outcome Answer.Damaged l)
      go None = refl
      go (Some CpuEntry.Absent) = refl
      go (Some (CpuEntry.Holds t i k)) = refl

  pub write_none : (f : Found) (h : ℕ) → length l ≤ cpu → outcome Answer.BadRecord l ≡ in_cpus (shape_of s) (take (shape_of s) cpu (Taking.Write o f h)) l
  unfolding take in_cpus within
  write_none f h p = sym (pick_no _ _ _ (le-ltb _ _ p))

-- ---- a block's tree

module _ (s : Shape) (cpu : ℕ) (b : Block) (l : List ℕ) {x : List ℕ} {r : Answer} {z : Option BlockAt} {at : BlockAt} {m : Frame} (e : z ≡ block_at_in (shape_of s) b) (is : z ≡ Some at) (first : m ≡ first_of b) where
  pub last_rule : {a : Result Bool Fault} → outcome a x ≡ set_start_in s.size cpu at.tree at.child l → r ≡ held_answer (Answer.Done m) (Answer.Done m) a
      → outcome r x ≡ ranged (shape_of s) b (in_cpus (shape_of s) (take (shape_of s) cpu (Taking.Last b))) l
  unfolding take
  last_rule {a} p q =
      let h : Result Bool Fault → Answer = held_answer (Answer.Done (first_of b)) (Answer.Done (first_of b)) in
      block_in_lem (shape_of s) b _ l e is (λ u v.
      answered (q ∙ (cc)) (cpu_stage h s (λ f. refl) l cpu _ _ _ _ refl (λ u i k. both_cases h _ _ _ _ _ refl refl)
      (p ∙ (ap (λ t. set_start_in s.size cpu t at.child l) u ∙ ap (λ i. set_start_in s.size cpu (tree_of_block (shape_of s) b) i l) v))))

  pub to_entry_rule : {n : ℕ} → n ≡ size_of b → {a : Result Bool Fault} {d : Answer} → d ≡ put (shape_of s) cpu (Giving.ToTree b) → outcome a x ≡ add_own_in s.size cpu at.tree n l → r ≡ held_answer (Answer.Done m) d a
      → outcome r x ≡ ranged (shape_of s) b (in_cpus (shape_of s) (give (shape_of s) cpu (Giving.ToEntry b))) l
  unfolding give
  to_entry_rule {n} frames {a} {d} w p q =
      let h : Result Bool Fault → Answer = held_answer (Answer.Done (first_of b)) (put (shape_of s) cpu (Giving.ToTree b)) in
      block_in_lem (shape_of s) b _ l e is (λ u v.
      answered (q ∙ (cc)) (cpu_stage h s (λ f. refl) l cpu _ _ _ _ refl (λ u i k. both_cases h _ _ _ _ _ refl refl)
      (p ∙ (ap (λ t. add_own_in s.size cpu t n l) u ∙ ap (λ n. add_own_in s.size cpu (tree_of_block (shape_of s) b) n l) frames))))
