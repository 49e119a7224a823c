-- Giving back: what each stage of a put does with the one entry that it reads.
use Rattle.std.specs.Prelude.{ℕ, ◌+◌, ◌*◌}
use Rattle.rules.specs.Numbers.{child_words, Shape}
use Rattle.rules.specs.Blocks.{run_size, size_of, first_of, tree_of_block, child_of_block, word_of, bit_of}
use Rattle.rules.specs.Lower.{give_count, clear_huge, clear_run}
use Rattle.rules.specs.Plan.{plain, clears, look, store, tally, Step, tree_entry, child_entry, word_entry, on_gave}
use Rattle.rules.specs.Take.{if_own_holds}
use Rattle.rules.specs.Types.{Block, CpuEntry, Giving, Record, Answer}

module _ (g : Shape) (cpu : ℕ) where
  abbrev pub put : Giving → Answer
  put s = Answer.UnderWay (Record.Put cpu s)

  -- first the clearing store: a run's bits are cleared in one, order 9 changes a set into a clear, count 512 (D10, D11, D13)
  unfoldable pub clear : Block → Step
  clear (Block.Run r f) =
      let b : Block = Block.Run r f in
      word_entry (tree_of_block g b) (child_words * child_of_block g b + word_of f) (λ x. on_gave (clear_run (run_size r) (bit_of f) x) (put (Giving.Raise r f)) (clears b))
  clear (Block.Whole h) =
      let b : Block = Block.Whole h in
      child_entry (tree_of_block g b) (child_of_block g b) (λ x. on_gave (clear_huge x) (put (Giving.ToEntry b)) (clears b))

  unfoldable pub give : Giving → Step
  give (Giving.Clear b) = clear b
  -- for a run the child's count then rises by its size (D12)
  give (Giving.Raise r f) =
      let b : Block = Block.Run r f in
      child_entry (tree_of_block g b) (child_of_block g b) (λ x. on_gave (give_count (run_size r) x) (put (Giving.ToEntry b)) plain)
  -- next, if the own entry holds that tree, its count rises by s and the put is answered; if not, nothing is stored (D33)
  give (Giving.ToEntry b) = if_own_holds g cpu (tree_of_block g b) (λ s k. store (CpuEntry.Holds (tree_of_block g b) s (k + size_of b)) (Answer.Done (first_of b))) (look (put (Giving.ToTree b)))
  -- and one more step adds s to the tree's count and answers; the reserved flag stays
  give (Giving.ToTree b) = tree_entry (tree_of_block g b) (λ r k. store (tally r (k + size_of b)) (Answer.Done (first_of b)))
