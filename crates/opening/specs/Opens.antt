-- What open refuses first, its first store, and a later step of it on an open zone.
use Rattle.std.specs.Prelude.{not, List, [], ◌∷◌, ℕ, Result, Ok, Err}
use Rattle.laws.specs.Tests.{pick, passes}
use Rattle.laws.specs.Tables.{Outcome, wrapped}
use Rattle.rules.specs.Numbers.{Shape as Rules}
use Rattle.rules.specs.Entries.{header_word, running}
use Rattle.rules.specs.Zone.{Zone}
use Rattle.rules.specs.Plan.{Plan, on, guarded}
use Rattle.rules.specs.Open.{opening_sound, open_stage}
use Rattle.entries.specs.Sizes.{huge_of, zoned_in, lengths_of}
use Rattle.entries.specs.Steps.{stored_in}
use Rattle.opening.specs.Types.{Fault, Opening, Record, Answer, Size, Zoned}

-- tables of lengths w, c, t, p
unfoldable pub openable_as : Result Zoned Answer → ℕ → ℕ → ℕ → ℕ → Result Zoned Answer
openable_as (Err a) w c t p = Err a
openable_as (Ok (Zoned.Running m)) w c t p = pick (passes (lengths_of m w c t p)) (Ok (Zoned.Running m)) (Err Answer.BadBuffers)
openable_as (Ok (Zoned.Clean m)) w c t p = pick (passes (lengths_of m w c t p)) (Ok (Zoned.Clean m)) (Err Answer.BadBuffers)

abbrev pub openable_in : List ℕ → ℕ → ℕ → ℕ → ℕ → Result Zoned Answer
openable_in h = openable_as (zoned_in h)

abbrev pub start_as : Opening → Result Unit Fault → Answer
start_as s (Ok tt) = Answer.UnderWay (Record.Open s)
start_as s (Err f) = Answer.BadBuffers

abbrev pub start_in : Size → Opening → List ℕ → Outcome Answer
start_in m s l = wrapped (start_as s) (stored_in 0 (header_word running (huge_of m)) l)

-- 12, then the stage
abbrev pub open_at : Rules → Zone → Opening → Plan
open_at g z s = guarded (on (not (opening_sound g z s)) Answer.Damaged ∷ []) (open_stage g z s)
