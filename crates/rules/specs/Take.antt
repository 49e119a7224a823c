-- Taking, rules 1 to 7: what each stage of a get does with the one entry that it reads.
use Rattle.std.specs.Prelude.{◌&&◌, ℕ, suc, ◌+◌, ◌-◌, ◌*◌, eqb, leb, ltb}
use Rattle.laws.specs.Tests.{pick}
use Rattle.rules.specs.Numbers.{child_words, Shape, per_tree, children_of, capacity}
use Rattle.rules.specs.Conversions.{tree, huge}
use Rattle.rules.specs.Blocks.{run_size, size, first_of, tree_of_block, child_of_block, frame_at}
use Rattle.rules.specs.Entries.{released, stolen}
use Rattle.rules.specs.Lower.{claim, take_huge, give_count, take_run}
use Rattle.rules.specs.Plan.{plain, takes, Made, look, store, tally, Step, no_entry, cpu_entry, tree_entry, child_entry, word_entry, on_took, on_bit, on_gave}
use Rattle.rules.specs.Places.{class_of, fits, pass_tree, found_tree, place_tree, after_pass, after_steal, after_place}
use Rattle.rules.specs.Types.{Tree, Run, Order, Block, CpuEntry, Pass, Found, Place, Taking, Record, Answer}

module _ (g : Shape) (cpu : ℕ) where
  abbrev pub get : Taking → Answer
  get s = Answer.UnderWay (Record.Get cpu s)

  -- the own entry, if it holds tree t
  abbrev pub if_own_holds : Tree → (ℕ → ℕ → Made CpuEntry) → Made CpuEntry → Step
  if_own_holds t f a = cpu_entry cpu a (λ u s k. pick (eqb u.0 t.0) (f s k) a)

  -- rule 1: the entry of tree t loses s, the claim; then search from its start child
  unfoldable pub claim_own : Order → Tree → ℕ → ℕ → Made CpuEntry
  claim_own o t s k = store (CpuEntry.Holds t s (k - size o)) (get (Taking.Child o (Place.Own t) s s))

  -- rule 2: the entry becomes absent, its count goes to hand
  unfoldable pub release : Order → Place → ℕ → Made CpuEntry
  release o p k = store released (get (Taking.Unreserve o p k))

  -- rule 3: the own entry anew, with start child 0 and hand minus s; s is the claim. A hand below s has no such entry (D3)
  unfoldable pub write : Order → Found → ℕ → Made CpuEntry
  write o f h = pick (leb (size o) h) (store (CpuEntry.Holds (found_tree f) 0 (h - size o)) (get (Taking.Child o (Place.Found f) 0 0))) (look Answer.Damaged)

  -- rule 4: the hand with the tree's count; the tree keeps its flag and 0
  unfoldable pub steal_count : Order → ℕ → Tree → ℕ → Answer
  steal_count o j t h = pick (leb (size o) h) (get (Taking.Write o (Found.Steal j t) h)) (get (Taking.Unreserve o (Place.Found (Found.Steal j t)) h))

  -- rule 5: children from the start child round to it again, each once
  unfoldable pub next_child : Order → Place → ℕ → ℕ → Answer
  next_child o p s c =
      let d : ℕ = pick (eqb (suc c) (children_of g (place_tree p).0)) 0 (suc c) in
      pick (eqb d s) (get (Taking.Fail o p)) (get (Taking.Child o p s d))

  -- rule 5: the claim of a run, or the taking store of a huge frame
  unfoldable pub search_child : Order → Place → ℕ → ℕ → ℕ → Made ℕ
  search_child (Order.Run r) p s c x = on_took (claim (run_size r) x) (get (Taking.Word r p s c 0)) plain (next_child (Order.Run r) p s c)
  search_child Order.Nine p s c x =
      let b : Block = Block.Whole (huge ((place_tree p).0 * per_tree g + c)) in
      on_took (take_huge x) (get (Taking.Last b)) (takes b) (next_child Order.Nine p s c)

  -- rule 5: words 0 to 7; the lowest free run of the first word that has one is set, the taking store
  unfoldable pub search_word : Run → Place → ℕ → ℕ → ℕ → ℕ → Made ℕ
  search_word r p s c w x = on_bit (take_run (run_size r) x)
      (λ b. get (Taking.Last (Block.Run r (frame_at g (place_tree p) c w b))))
      (λ b. takes (Block.Run r (frame_at g (place_tree p) c w b)))
      (pick (ltb (suc w) child_words) (get (Taking.Word r p s c (suc w))) (get (Taking.GiveBack r p s c)))

  unfoldable pub take : Taking → Step
  -- rule 1: an absent entry; one with count at least s; one that is short
  take (Taking.Own o) = cpu_entry cpu (look (get (Taking.Try o (Pass.Partial (tree 0))))) (λ t s k. pick (leb (size o) k) (claim_own o t s k) (look (get (Taking.TakeCount o t))))
  -- rule 1: the tree's count into hand, leaving 0; r stays (D15)
  take (Taking.TakeCount o t) = tree_entry t (λ r k. store (tally r 0) (get (Taking.FillEntry o t k)))
  -- rule 1: the hand into the own entry, if it still holds that tree; else, a step later, it is returned to the tree's count, keeping the flag (D35)
  take (Taking.FillEntry o t h) = if_own_holds t (λ s k. store (CpuEntry.Holds t s (k + h)) (get (Taking.LookAgain o t))) (look (get (Taking.ReturnHand o t h)))
  take (Taking.ReturnHand o t h) = tree_entry t (λ r k. store (tally r (k + h)) (get (Taking.LookAgain o t)))
  -- rule 1: the next step looks again: it claims, or is the release's first step; an entry with another tree is left alone (D4)
  take (Taking.LookAgain o t) = if_own_holds t (λ s k. pick (leb (size o) k) (claim_own o t s k) (release o (Place.Own t) k)) (look (get (after_place g cpu o (Place.Own t))))
  -- rule 2: if it still holds that tree; else nothing is stored and there is no second step
  take (Taking.Release o p) = if_own_holds (place_tree p) (λ s k. release o p k) (look (get (after_place g cpu o p)))
  -- rule 2: the hand to the tree's count, r clear, whatever it was (D16); then the next place
  take (Taking.Unreserve o p h) = tree_entry (place_tree p) (λ r k. store (tally 0 (k + h)) (get (after_place g cpu o p)))
  -- rule 3: r clear, the class fits, the count is at least s: r is set, the count goes to hand (D17)
  take (Taking.Try o p) = tree_entry (pass_tree p) (λ r k. pick (eqb r 0 && (fits p (class_of k) && leb (size o) k)) (store (tally 1 0) (get (Taking.Write o (Found.Pass p) k))) (look (get (after_pass g cpu o p))))
  -- rule 3: the old entry is read, and overwritten whatever it says (D2)
  take (Taking.Write o f h) = cpu_entry cpu (write o f h) (λ t s k. write o f h)
  -- rule 4: a present entry is made absent, its count goes to hand, 0 too (D14)
  take (Taking.Steal o j) = cpu_entry j (look (get (after_steal g cpu o j))) (λ t s k. store stolen (get (Taking.StealCount o j t k)))
  -- rule 4: the tree's count is added and 0 left there; a sum above the capacity is refused, though the count stored is 0 (D9, D39)
  take (Taking.StealCount o j t h) = tree_entry t (λ r k. pick (leb (h + k) (capacity g t.0)) (store (tally r 0) (steal_count o j t (h + k))) (look Answer.Damaged))
  take (Taking.Child o p s c) = child_entry (place_tree p) c (search_child o p s c)
  take (Taking.Word r p s c w) = word_entry (place_tree p) (child_words * c + w) (search_word r p s c w)
  -- rule 5: eight words without a free run; the count is given back, and the next child follows (D12)
  take (Taking.GiveBack r p s c) = child_entry (place_tree p) c (λ x. on_gave (give_count (run_size r) x) (next_child (Order.Run r) p s c) plain)
  -- rule 6: that child as start child, if the entry still holds the tree; and the answer (D18)
  take (Taking.Last b) = if_own_holds (tree_of_block g b) (λ s k. store (CpuEntry.Holds (tree_of_block g b) (child_of_block g b) k) (Answer.Done (first_of b))) (look (Answer.Done (first_of b)))
  -- rule 7: s to the tree's count; then the release
  take (Taking.Fail o p) = tree_entry (place_tree p) (λ r k. store (tally r (k + size o)) (get (Taking.Release o p)))
  -- after the last place one more step, reading no entry (D7)
  take Taking.NoRoom = no_entry Answer.NoRoom
