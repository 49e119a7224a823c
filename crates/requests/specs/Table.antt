-- Lines and what is read of them: one proved table.
use Rattle.std.specs.Prelude.{◌≡◌, List, [], ◌∷◌, ◌++◌, ℕ, ◌-◌, ◌^◌, replicate, Some, None, Result, Ok, Err}
use Rattle.requests.specs.Lines.{end_of}
use Rattle.requests.specs.Pieces.{scanned}
use Rattle.requests.specs.Types.{Kind, Number, Had, Reading, Line, Malformed, Scanned}

abbrev scan : List ℕ → Result Scanned Malformed
scan l = scanned l 0 Reading.Start

abbrev plain : ℕ → Number
plain v = record { zeros = 0; value = v }

pub record Table : Type 0 where
  -- z 65 2
  pub zone : scan (122 ∷ 32 ∷ 54 ∷ 53 ∷ 32 ∷ 50 ∷ 10 ∷ []) ≡ Ok (Scanned.Whole (Line.Zone (plain 65) (plain 2)) 7)
  -- z 007 1
  pub zeros : scan (122 ∷ 32 ∷ 48 ∷ 48 ∷ 55 ∷ 32 ∷ 49 ∷ 10 ∷ []) ≡ Ok (Scanned.Whole (Line.Zone (record { zeros = 2; value = 7 }) (plain 1)) 8)
  -- g 0 9, and the next line
  pub get : scan (103 ∷ 32 ∷ 48 ∷ 32 ∷ 57 ∷ 10 ∷ 112 ∷ []) ≡ Ok (Scanned.Whole (Line.Get 0 9) 6)
  -- p 1 512 0
  pub put : scan (112 ∷ 32 ∷ 49 ∷ 32 ∷ 53 ∷ 49 ∷ 50 ∷ 32 ∷ 48 ∷ 10 ∷ []) ≡ Ok (Scanned.Whole (Line.Put 1 512 0) 10)
  -- g and a number of 20 nines
  pub large : scan ((103 ∷ 32 ∷ []) ++ replicate 20 57 ++ (32 ∷ 48 ∷ 10 ∷ [])) ≡ Ok (Scanned.Whole (Line.Get (2 ^ 64 - 1) 0) 25)
  -- an empty line
  pub empty : scan (10 ∷ []) ≡ Err (record {})
  -- two spaces
  pub spaces : scan (103 ∷ 32 ∷ 32 ∷ 48 ∷ []) ≡ Err (record {})
  -- a sign
  pub sign : scan (103 ∷ 32 ∷ 45 ∷ 48 ∷ []) ≡ Err (record {})
  -- a letter for a number
  pub letter : scan (103 ∷ 32 ∷ 97 ∷ []) ≡ Err (record {})
  -- a missing number
  pub missing : scan (112 ∷ 32 ∷ 48 ∷ 32 ∷ 48 ∷ 10 ∷ []) ≡ Err (record {})
  -- an extra number
  pub extra : scan (103 ∷ 32 ∷ 48 ∷ 32 ∷ 48 ∷ 32 ∷ 48 ∷ 10 ∷ []) ≡ Err (record {})
  -- a CR
  pub carriage : scan (103 ∷ 32 ∷ 48 ∷ 32 ∷ 48 ∷ 13 ∷ 10 ∷ []) ≡ Err (record {})
  -- a space at the end
  pub trailing : scan (103 ∷ 32 ∷ 48 ∷ 32 ∷ 48 ∷ 32 ∷ 10 ∷ []) ≡ Err (record {})
  -- g 0 at a piece's end, and at the input's; g 0 9 at the input's
  pub piece : scan (103 ∷ 32 ∷ 48 ∷ []) ≡ Ok (Scanned.Piece (Reading.Digits Kind.Get Had.Nothing (record { zeros = 1; value = 0 })))
  pub short : end_of (Reading.Digits Kind.Get Had.Nothing (plain 0)) ≡ Err (record {})
  pub last : end_of (Reading.Digits Kind.Get (Had.One (plain 0)) (plain 9)) ≡ Ok (Some (Line.Get 0 9))
  pub between : end_of Reading.Start ≡ Ok None
