-- Encoding and decoding undo each other: what `Inverse` says is proved in proofs/Inverse.antt.
use Rattle.std.specs.Prelude.{◌≡◌, ◌≢◌, ◌⊎◌, ℕ, ◌≤◌}
use Rattle.laws.specs.Tests.{Passes}
use Rattle.laws.specs.Fields.{Fit}
use Rattle.rules.specs.Numbers.{Shape}
use Rattle.rules.specs.Ranges.{step_range, create_range, open_range}
use Rattle.rules.specs.Bounds.{zone_shape}
use Rattle.records.specs.Types.{Record, Words}
use Rattle.records.specs.Layout.{first_layout}
use Rattle.records.specs.Encoding.{fields_of, SecondFits, encode}
use Rattle.records.specs.Decoding.{decode}

-- in range for a step of a get or put, for a later step of create, or for one of open
abbrev pub InRange : Shape → Record → Type 0
InRange g r = Passes (step_range g r) ⊎ (Passes (create_range g r) ⊎ Passes (open_range g r))

pub record Inverse : Type 0 where
  -- a record whose fields fit their widths is read again
  pub back : (r : Record) → Fit first_layout (fields_of r).first → SecondFits (fields_of r).second → decode (encode r) ≡ r
  -- so a record in range is its own decoding after encoding, in every zone; and so is the finished one
  pub ranged : (n c : ℕ) → n ≤ 65536 → c ≤ 64 → (r : Record) → InRange (zone_shape n c) r → decode (encode r) ≡ r
  pub finished : decode (encode Record.Finished) ≡ Record.Finished
  -- words that are not read as the finished record are the encoding of what they are read as
  pub once : (w : Words) → decode w ≢ Record.Finished → encode (decode w) ≡ w
