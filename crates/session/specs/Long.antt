-- One huge frame and one CPU: 512 gets answer 0 to 511, the next 2; frame 7 is put, and the next get answers 7.
use Rattle.std.specs.Prelude.{◌≡◌, List, [], ◌∷◌, ◌++◌, ℕ, zero, suc, take, drop, replicate}
use Rattle.rules.specs.Fresh.{fresh}
use Rattle.rules.specs.Worked.{g, p, Line, line, session, small}

-- i, i + 1, .., n numbers
unfoldable pub from : ℕ → ℕ → List ℕ
from zero i = []
from (suc n) i = i ∷ from n (suc i)

unfoldable pub answers_of : List Line → List ℕ
answers_of [] = []
answers_of (x ∷ l) = x.answer ∷ answers_of l

unfoldable pub frames_of : List Line → List ℕ
frames_of [] = []
frames_of (x ∷ l) = x.frame ∷ frames_of l

unfoldable pub lines : List Line
lines = (session (replicate 512 (g 0 0) ++ (g 0 0 ∷ p 0 7 0 ∷ g 0 0 ∷ [])) (fresh small)).lines

pub record Long : Type 0 where
  pub done : answers_of (take 512 lines) ≡ replicate 512 0
  pub frames : frames_of (take 512 lines) ≡ from 512 0
  pub rest : drop 512 lines ≡ line 2 0 9 ∷ line 0 7 4 ∷ line 0 7 8 ∷ []
