-- Which trees each pass takes (rule 3), in sessions over two full trees: partial ones before free ones, and allocated ones last.
use Rattle.std.specs.Prelude.{◌≡◌, List, [], ◌∷◌, ◌++◌, ℕ, zero, suc, ◌+◌, ◌*◌, drop, replicate}
use Rattle.rules.specs.Numbers.{child_frames, child_words}
use Rattle.rules.specs.Entries.{header_word, running, tree_word}
use Rattle.rules.specs.Lower.{fresh_word, flagged_word}
use Rattle.rules.specs.Zone.{Zone}
use Rattle.rules.specs.Worked.{Request, g, p, Line, line, session, of}

-- two trees and one CPU: every huge frame is taken, and no tree reserved
unfoldable pub spent : Zone
spent = record {
  header = header_word running 64 ∷ [];
  words = replicate (child_words * 64) fresh_word;
  children = replicate 64 flagged_word;
  trees = tree_word 0 0 ∷ tree_word 0 0 ∷ [];
  cpus = 0 ∷ [];
}

-- the k huge frames from h on are put
unfoldable pub back : ℕ → ℕ → List Request
back h zero = []
back h (suc k) = p 0 (h * child_frames) 9 ∷ back (suc h) k

-- the lines of the gets `l`, after tree 0 got i of its huge frames back and tree 1 got j
abbrev pub among : ℕ → ℕ → List Request → List Line
among i j l = drop (i + j) (session (back 0 i ++ back 32 j ++ l) spent).lines

-- the line of a get whose CPU holds tree 0, with no frame left, after tree 1 got k of its huge frames back
abbrev pub near : ℕ → List Line
near k = drop (2 + k) (session (back 0 1 ++ g 0 9 ∷ back 32 k ++ g 0 9 ∷ []) spent).lines

-- a frame taken in every second one of tree 0's first nine huge frames, and the others taken whole
abbrev pub breaking : List Request
breaking = g 0 0 ∷ g 0 9 ∷ g 0 0 ∷ g 0 9 ∷ g 0 0 ∷ g 0 9 ∷ g 0 0 ∷ g 0 9 ∷ g 0 0 ∷ []

-- of a tree's 32 huge frames, 1 leaves it allocated, 4 make it partial (2,048 frames) and 29 free (14,848)
pub record Classes : Type 0 where
  -- 65 gets leave that of a fresh zone; the last finds no room and releases its tree
  pub spends : (session (replicate 65 (g 0 9)) (of 64 1)).zone ≡ spent
  -- the partial pass goes past a free tree to a partial one with a higher number; that one used up, the near pass takes the free one. Shuts out a partial pass without partial trees or with free ones, and a near pass without free ones
  pub partial_first : among 29 4 (replicate 5 (g 0 9)) ≡ line 0 16384 6 ∷ line 0 16896 4 ∷ line 0 17408 4 ∷ line 0 17920 4 ∷ line 0 0 9 ∷ []
  -- the partial and the free pass go past an allocated tree to a free one with a higher number. Shuts out either with allocated trees, and a free pass without free ones
  pub free_first : among 1 29 (g 0 9 ∷ []) ≡ line 0 16384 8 ∷ []
  -- the near pass takes a partial tree. Shuts out a near pass without partial trees
  pub near_partial : near 4 ≡ line 0 16384 9 ∷ []
  -- it leaves an allocated one to the any pass. Shuts out a near pass with allocated trees
  pub near_allocated : near 1 ≡ line 0 16384 15 ∷ []
  -- a partial tree with no huge frame left is searched as own tree, by the partial pass and by the any pass. Shuts out a free pass with partial trees
  pub partial_twice : drop 19 (session (back 0 9 ++ breaking ++ back 32 1 ++ g 0 9 ∷ []) spent).lines ≡ line 0 16384 118 ∷ []
