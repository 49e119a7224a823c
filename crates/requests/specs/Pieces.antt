-- A piece of the input, read up to its first newline; and what reading in pieces and digit by digit comes to.
use Rattle.std.specs.Prelude.{◌≡◌, List, [], ◌∷◌, ◌++◌, map, ℕ, suc, ◌+◌, ◌*◌, ◌<◌, min, length, Result, Ok, Err}
use Rattle.requests.specs.Lines.{most, no_digits, number_after, read}
use Rattle.requests.specs.Types.{Kind, Number, Had, Reading, Line, Malformed, Read, Scanned}

abbrev pub by_read {ℓ} : {A : Type ℓ} → Result Read Malformed → (Reading → A) → (Line → A) → A → A
by_read (Ok (Read.GoesOn r)) f g e = f r
by_read (Ok (Read.Whole l)) f g e = g l
by_read (Err m) f g e = e

-- the bytes from position i on
unfoldable pub scanned : List ℕ → ℕ → Reading → Result Scanned Malformed
scanned [] i r = Ok (Scanned.Piece r)
scanned (b ∷ l) i r = by_read (read r b) (scanned l (suc i)) (λ x. Ok (Scanned.Whole x (suc i))) (Err (record {}))

-- goes on where a piece ended in a line
abbrev pub and_then : Result Scanned Malformed → (Reading → Result Scanned Malformed) → Result Scanned Malformed
and_then (Ok (Scanned.Whole x n)) f = Ok (Scanned.Whole x n)
and_then (Ok (Scanned.Piece r)) f = f r
and_then (Err m) f = Err m

-- a number after more digits, the first of them first; the decimal number, of any size; and the bytes that they are written in
unfoldable pub number_of : Number → List ℕ → Number
number_of n [] = n
number_of n (d ∷ l) = number_of (number_after n d) l

unfoldable pub decimal_of : ℕ → List ℕ → ℕ
decimal_of v [] = v
decimal_of v (d ∷ l) = decimal_of (10 * v + d) l

unfoldable pub Digits : List ℕ → Type 0
Digits [] = Unit {0}
Digits (d ∷ l) = (d < 10) × Digits l

abbrev pub written : List ℕ → List ℕ
written l = map (λ d. 48 + d) l

pub record InPieces : Type 0 where
  -- two pieces scanned one after the other are the whole scanned
  pub pieces : (a b : List ℕ) (i : ℕ) (r : Reading) → scanned (a ++ b) i r ≡ and_then (scanned a i r) (scanned b (i + length a))
  -- digits after a space are read as their number
  pub digits : (k : Kind) (h : Had) (d : ℕ) (l : List ℕ) (i : ℕ) → Digits (d ∷ l) → scanned (written (d ∷ l)) i (Reading.Space k h) ≡ Ok (Scanned.Piece (Reading.Digits k h (number_of no_digits (d ∷ l))))
  -- whose value is the decimal number, or the largest where that is larger
  pub value : (l : List ℕ) → (number_of no_digits l).value ≡ min (decimal_of 0 l) most
