-- Two pieces are one; digits are their number, whose value is the decimal number or the largest.
use mathlib.Core.Path.{◌≡◌, refl, sym, ap, ◌∙◌}
use mathlib.Core.List.{List, [], ◌∷◌, ◌++◌}
use Rattle.std.specs.Prelude.{Some, Result, Ok, Err}
use Prim.Native.Nat.{ℕ, suc, ◌+◌, ◌*◌, ◌-◌, ◌<◌, min}
use native.Mathlib.Nat.{add-zero}
use native.Mathlib.Omega.{arith}
use borrow.Author.Tests.{ne_eqb}
use lib.ListN.{length}
use Rattle.laws.proofs.Tests.{pick_no}
use Rattle.requests.specs.Lines.{most, digit_in, no_digits, number_after, value_after, digit_read, digits_read, read}
use Rattle.requests.proofs.Scans.{digit_is, one_read}
use Rattle.requests.specs.Pieces.{scanned, and_then, number_of, decimal_of, Digits, written, InPieces}
use Rattle.requests.specs.Types.{Kind, Number, Had, Reading, Malformed, Read, Scanned}

two_pieces : (a b : List ℕ) (i : ℕ) (r : Reading) → scanned (a ++ b) i r ≡ and_then (scanned a i r) (scanned b (i + length a))
unfolding scanned
two_pieces [] b i r = rw add-zero
two_pieces (x ∷ a) b i r = go (read r x) (two_pieces a b (suc i))
  where
    go : (y : Result Read Malformed) → ((s : Reading) → scanned (a ++ b) (suc i) s ≡ and_then (scanned a (suc i) s) (scanned b (suc i + length a)))
        → one_read (a ++ b) (suc i) y ≡ and_then (one_read a (suc i) y) (scanned b (i + suc (length a)))
    go (Ok (Read.GoesOn s)) ih = let e : suc i + length a ≡ i + suc (length a) = omega arith in ih s ∙ ap (λ j. and_then (scanned a (suc i) s) (scanned b j)) e
    go (Ok (Read.Whole l)) ih = refl
    go (Err m) ih = refl

-- ---- digits

module _ (d : ℕ) (h : d < 10) where
  digit_byte : digit_in (48 + d) ≡ Some d
  digit_byte = let e : 48 + d - 48 ≡ d = omega arith in sym (digit_is (48 + d) (omega arith) (omega arith)) ∙ ap Some e

  digits_byte : (k : Kind) (a : Had) (n : Number) → digits_read k a n (48 + d) ≡ Ok (Read.GoesOn (Reading.Digits k a (number_after n d)))
  unfolding digits_read
  digits_byte k a n =
      pick_no _ _ _ (ne_eqb (48 + d) 32 (λ e. omega arith)) ∙ pick_no _ _ _ (ne_eqb (48 + d) 10 (λ e. omega arith)) ∙ ap (digit_read k a n) digit_byte

more_digits : (k : Kind) (h : Had) (n : Number) (l : List ℕ) (i : ℕ) → Digits l → scanned (written l) i (Reading.Digits k h n) ≡ Ok (Scanned.Piece (Reading.Digits k h (number_of n l)))
unfolding scanned number_of Digits
more_digits k h n [] i p = refl
more_digits k h n (d ∷ l) i p =
    ap (one_read (written l) (suc i)) (digits_byte d p.0 k h n) ∙ more_digits k h (number_after n d) l (suc i) p.1

first_digits : (k : Kind) (h : Had) (d : ℕ) (l : List ℕ) (i : ℕ) → Digits (d ∷ l) → scanned (written (d ∷ l)) i (Reading.Space k h) ≡ Ok (Scanned.Piece (Reading.Digits k h (number_of no_digits (d ∷ l))))
unfolding scanned number_of Digits
first_digits k h d l i p =
    ap (λ x. one_read (written l) (suc i) (digit_read k h no_digits x)) (digit_byte d p.0) ∙ more_digits k h (number_after no_digits d) l (suc i) p.1

value_more : (n : Number) (v d : ℕ) → n.value ≡ min v most → value_after n d ≡ min (10 * v + d) most
unfolding value_after
value_more n v d e = omega arith

value_from : (l : List ℕ) (n : Number) (v : ℕ) → n.value ≡ min v most → (number_of n l).value ≡ min (decimal_of v l) most
unfolding number_of decimal_of
value_from [] n v e = e
value_from (d ∷ l) n v e = value_from l (number_after n d) (10 * v + d) (value_more n v d e)

pub in_pieces : InPieces
in_pieces = record { pieces = two_pieces; digits = first_digits; value = λ l. value_from l no_digits 0 refl }
