-- The table of lines, by computation.
use mathlib.Core.Path.{refl}
use Rattle.laws.specs.Tests.{pick}
use Rattle.requests.specs.Lines.{digit_in, zeros_after, value_after, letter_of, letter_read, digits_read}
use Rattle.requests.specs.Pieces.{scanned}
use Rattle.requests.specs.Table.{Table}

pub table : Table
unfolding scanned letter_of letter_read digits_read digit_in zeros_after value_after pick
table = record {
  zone = refl;
  zeros = refl;
  get = refl;
  put = refl;
  large = refl;
  empty = refl;
  spaces = refl;
  sign = refl;
  letter = refl;
  missing = refl;
  extra = refl;
  carriage = refl;
  trailing = refl;
  piece = refl;
  short = refl;
  last = refl;
  between = refl;
}
