-- A digit more, and a byte more of a piece.
use mathlib.Core.Path.{◌≡◌, sym, ap, ◌∙◌}
use mathlib.Core.List.{List}
use Rattle.std.specs.Prelude.{Some, None, Result, Ok, Err}
use Prim.Native.Nat.{ℕ, suc, ◌+◌, ◌-◌, ◌≤◌, ◌<◌, min}
use native.Mathlib.Numerals.{add-one}
use native.Mathlib.Omega.{arith}
use lib.ListN.{length, get_or, drop, drop_of_length-le}
use lib.Seq.{drop-cons}
use borrow.Author.Tests.{eq-eqb, lt-ltb, le-ltb}
use Rattle.laws.proofs.Tests.{pick_yes, pick_no}
use Rattle.requests.specs.Lines.{most, digit_in, zeros_after, read}
use Rattle.requests.specs.Pieces.{by_read, scanned}
use Rattle.requests.specs.Types.{Number, Reading, Line, Malformed, Read, Scanned}

-- a zero before the first other digit
pub another_zero : (n : Number) (d : ℕ) {z : ℕ} → n.value ≡ 0 → d ≡ 0 → z ≡ min (suc n.zeros) most → z ≡ zeros_after n d
unfolding zeros_after
another_zero n d v e h = h ∙ sym (pick_yes _ _ _ (eq-eqb n.value 0 v) ∙ pick_yes _ _ _ (eq-eqb d 0 e))

-- the bytes 48 to 57
module _ (b : ℕ) where
  pub digit_is : 48 ≤ b → b ≤ 57 → Some (b - 48) ≡ digit_in b
  unfolding digit_in
  digit_is l h = sym (pick_no _ _ _ (le-ltb b 48 l) ∙ pick_no _ _ _ (le-ltb 57 b h))

  pub digit_below : b < 48 → None ≡ digit_in b
  unfolding digit_in
  digit_below h = sym (pick_yes _ _ _ (lt-ltb b 48 h))

  pub digit_above : 57 < b → None ≡ digit_in b
  unfolding digit_in
  digit_above h = sym (pick_no _ _ _ (le-ltb b 48 (omega arith)) ∙ pick_yes _ _ _ (lt-ltb 57 b h))

-- a piece after what was read of its first byte; i is the position after it
abbrev pub one_read : List ℕ → ℕ → Result Read Malformed → Result Scanned Malformed
one_read l i x = by_read x (scanned l i) (λ y. Ok (Scanned.Whole y i)) (Err (record {}))

module _ (text : List ℕ) (at : ℕ) (r : Reading) where
  pub scan_out : length text ≤ at → Ok (Scanned.Piece r) ≡ scanned (drop at text) at r
  unfolding scanned
  scan_out h = rw (drop_of_length-le text h)

  module _ (h : at < length text) where
    pub scan_byte : {x : Result Read Malformed} → x ≡ read r (get_or text at 0) → one_read (drop (at + 1) text) (at + 1) x ≡ scanned (drop at text) at r
    unfolding scanned
    scan_byte e = rw (drop-cons text at 0 h, add-one, e)

    module _ {x : Read} (e : Ok x ≡ read r (get_or text at 0)) where
      pub scan_goes : {s : Reading} → x ≡ Read.GoesOn s → scanned (drop (at + 1) text) (at + 1) s ≡ scanned (drop at text) at r
      scan_goes q = scan_byte (ap Ok (sym q) ∙ e)

      pub scan_whole : {l : Line} → x ≡ Read.Whole l → Ok (Scanned.Whole l (at + 1)) ≡ scanned (drop at text) at r
      scan_whole q = scan_byte (ap Ok (sym q) ∙ e)
