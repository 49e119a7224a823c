-- The first line as it stands: what is put of a number is what it was read from.
use Rattle.std.specs.Prelude.{◌≡◌, List, ◌++◌, ℕ, ◌<◌, length, replicate}
use Rattle.io.specs.Digits.{last_digits, IsDigitCount}
use Rattle.requests.specs.Lines.{most, no_digits}
use Rattle.requests.specs.Pieces.{number_of, Digits, written}
use Rattle.requests.specs.declared.Number.{Number}

-- a number's zeros, and its value in the fewest decimal digits
pub record Spells (n : Number) (text : List ℕ) : Type 0 where
  pub places : ℕ
  pub fewest : IsDigitCount 10 1 n.value places
  pub same : text ≡ replicate n.zeros 48 ++ last_digits 10 places n.value

-- of a number that is neither 0 nor the largest
pub record Repeated : Type 0 where
  pub number : (l : List ℕ) → Digits l → length l < most → 0 < (number_of no_digits l).value → (number_of no_digits l).value < most → Spells (number_of no_digits l) (written l)
