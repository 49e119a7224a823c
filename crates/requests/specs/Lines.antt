-- A request line, byte by byte: a letter, then its numbers, each after one space, and a newline.
use Rattle.std.specs.Prelude.{ℕ, suc, ◌+◌, ◌*◌, ◌-◌, ◌^◌, min, eqb, ltb, Option, Some, None, Result, Ok, Err}
use Rattle.laws.specs.Tests.{pick}
use Rattle.requests.specs.Types.{Kind, Number, Had, Reading, Line, Malformed, Read}

abbrev pub newline : ℕ
newline = 10

abbrev pub space : ℕ
space = 32

-- ---- numbers

-- the largest number
abbrev pub most : ℕ
most = 2 ^ 64 - 1

-- 0 to 9 are the bytes 48 to 57
unfoldable pub digit_in : ℕ → Option ℕ
digit_in b = pick (ltb b 48) None (pick (ltb 57 b) None (Some (b - 48)))

abbrev pub by_digit {ℓ} : {A : Type ℓ} → Option ℕ → (ℕ → A) → A → A
by_digit (Some d) f e = f d
by_digit None f e = e

-- before the first digit
abbrev pub no_digits : Number
no_digits = record { zeros = 0; value = 0 }

-- zeros are counted up to the first other digit
unfoldable pub zeros_after : Number → ℕ → ℕ
zeros_after n d = pick (eqb n.value 0) (pick (eqb d 0) (min (suc n.zeros) most) n.zeros) n.zeros

unfoldable pub value_after : Number → ℕ → ℕ
value_after n d = min (10 * n.value + d) most

-- a number with one digit more
abbrev pub number_after : Number → ℕ → Number
number_after n d = record { zeros = zeros_after n d; value = value_after n d }

-- ---- a byte more

-- a byte that the form does not have
abbrev pub malformed : Result Read Malformed
malformed = Err (record {})

-- z, g, p
unfoldable pub letter_of : ℕ → Result Read Malformed
letter_of b =
    pick (eqb b 122) (Ok (Read.GoesOn (Reading.Letter Kind.Zone)))
    (pick (eqb b 103) (Ok (Read.GoesOn (Reading.Letter Kind.Get)))
    (pick (eqb b 112) (Ok (Read.GoesOn (Reading.Letter Kind.Put))) malformed))

unfoldable pub letter_read : Kind → ℕ → Result Read Malformed
letter_read k b = pick (eqb b space) (Ok (Read.GoesOn (Reading.Space k Had.Nothing))) malformed

abbrev pub digit_read : Kind → Had → Number → Option ℕ → Result Read Malformed
digit_read k h n d = by_digit d (λ d. Ok (Read.GoesOn (Reading.Digits k h (number_after n d)))) malformed

-- a space after a number: two numbers follow z and g, three p
abbrev pub space_after : Kind → Had → Number → Result Read Malformed
space_after k Had.Nothing n = Ok (Read.GoesOn (Reading.Space k (Had.One n)))
space_after Kind.Zone (Had.One a) n = malformed
space_after Kind.Get (Had.One a) n = malformed
space_after Kind.Put (Had.One a) n = Ok (Read.GoesOn (Reading.Space Kind.Put (Had.Two a n)))
space_after k (Had.Two a b) n = malformed

-- a newline after a number
abbrev pub whole_of : Kind → Had → Number → Result Read Malformed
whole_of k Had.Nothing n = malformed
whole_of Kind.Zone (Had.One a) n = Ok (Read.Whole (Line.Zone a n))
whole_of Kind.Get (Had.One a) n = Ok (Read.Whole (Line.Get a.value n.value))
whole_of Kind.Put (Had.One a) n = malformed
whole_of Kind.Zone (Had.Two a b) n = malformed
whole_of Kind.Get (Had.Two a b) n = malformed
whole_of Kind.Put (Had.Two a b) n = Ok (Read.Whole (Line.Put a.value b.value n.value))

unfoldable pub digits_read : Kind → Had → Number → ℕ → Result Read Malformed
digits_read k h n b = pick (eqb b space) (space_after k h n) (pick (eqb b newline) (whole_of k h n) (digit_read k h n (digit_in b)))

abbrev pub read : Reading → ℕ → Result Read Malformed
read Reading.Start b = letter_of b
read (Reading.Letter k) b = letter_read k b
read (Reading.Space k h) b = digit_read k h no_digits (digit_in b)
read (Reading.Digits k h n) b = digits_read k h n b

-- ---- the input's end

abbrev pub ended_of : Result Read Malformed → Result (Option Line) Malformed
ended_of (Ok (Read.GoesOn r)) = Err (record {})
ended_of (Ok (Read.Whole l)) = Ok (Some l)
ended_of (Err m) = Err m

-- at the start of a line nothing is left; else the line ends as if a newline came
abbrev pub end_of : Reading → Result (Option Line) Malformed
end_of Reading.Start = Ok None
end_of (Reading.Letter k) = ended_of (read (Reading.Letter k) newline)
end_of (Reading.Space k h) = ended_of (read (Reading.Space k h) newline)
end_of (Reading.Digits k h n) = ended_of (read (Reading.Digits k h n) newline)
