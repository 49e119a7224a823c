-- Eight huge frames and one CPU: 64 gets of order 6 answer 0, 64, 128, .., the next 2. One of the runs is put by halves: with one half free there is
-- no room for 64 frames, with both there is. And one huge frame of which every second frame is taken: 2 to order 1, 0 to order 0.
use Rattle.std.specs.Prelude.{◌≡◌, List, [], ◌∷◌, ◌++◌, ℕ, zero, suc, ◌+◌, take, drop, replicate}
use Rattle.rules.specs.Numbers.{format1, Shape}
use Rattle.rules.specs.Fresh.{fresh}
use Rattle.rules.specs.Worked.{Request, g, p, Line, line, session, small}
use Rattle.session.specs.Long.{answers_of, frames_of}

abbrev pub eight : Shape
eight = record { format = format1; huge = 8; cpus = 1 }

-- i, i + d, .., n numbers; and puts of order 0 at them
unfoldable pub each : ℕ → ℕ → ℕ → List ℕ
each zero d i = []
each (suc n) d i = i ∷ each n d (i + d)

unfoldable pub put_each : List ℕ → List Request
put_each [] = []
put_each (i ∷ l) = p 0 i 0 ∷ put_each l

unfoldable pub whole_lines : List Line
whole_lines = (session (replicate 65 (g 0 6) ++ (p 0 64 5 ∷ g 0 6 ∷ p 0 96 5 ∷ g 0 6 ∷ [])) (fresh eight)).lines

unfoldable pub half_lines : List Line
half_lines = (session (replicate 512 (g 0 0) ++ (put_each (each 256 2 0) ++ (g 0 1 ∷ g 0 0 ∷ []))) (fresh small)).lines

pub record Runs : Type 0 where
  pub done : answers_of (take 64 whole_lines) ≡ replicate 64 0
  pub frames : frames_of (take 64 whole_lines) ≡ each 64 64 0
  pub halves : drop 64 whole_lines ≡ line 2 0 9 ∷ line 0 64 4 ∷ line 2 0 5 ∷ line 0 96 4 ∷ line 0 64 9 ∷ []
  pub second : drop 768 half_lines ≡ line 2 0 32 ∷ line 0 0 8 ∷ []
