-- The header in code: split by shifts and masks, joined again, and what it says by its fields.
use Rattle.std.specs.Prelude.{Option, Some, None, Result, Ok, Err}
use mathlib.Core.Path.{◌≡◌, refl, sym, ap, ◌∙◌}
use mathlib.Core.Logic.{◌≢◌}
use mathlib.Core.List.{List, [], ◌∷◌}
use Prim.Native.Nat.{ℕ, suc, ◌+◌, ◌-◌, ◌*◌, ◌/◌, ◌%◌, ◌^◌, ◌≤◌, ◌<◌}
use native.Mathlib.Omega.{arith}
use lib.Dec.{eqb}
use lib.Bits.{bit_and, bit_or}
use borrow.Author.Tests.{eq-eqb, ne_eqb}
use Rattle.laws.specs.Tests.{pick, Check, ◌is◌, ◌below◌, passes, Passes}
use Rattle.laws.specs.Fields.{width, split, join}
use Rattle.laws.proofs.Tests.{pick_elim, pick_yes, pick_no, passes_of, fails_of}
use Rattle.laws.proofs.Fields.{masked, joined, shifted}
use Rattle.rules.specs.Numbers.{most_huge}
use Rattle.rules.specs.Entries.{field, identifier, running, clean, header_says, header_word}
use Rattle.entries.specs.Types.{Header, Answer, Size, Zoned, HeaderFields}
use Rattle.entries.specs.Sizes.{sized, by_header}
use Rattle.entries.specs.Split.{header_fields}
use Rattle.entries.proofs.Fields.{top_field, low_field}

pub header_split : (x : ℕ) → x < 2 ^ 64
    → record {
      identifier = x / 2 ^ 48;
      format = bit_and (x / 2 ^ 44) (2 ^ 4 - 1);
      marker = bit_and (x / 2 ^ 42) (2 ^ 2 - 1);
      huge = bit_and (x / 2 ^ 25) (2 ^ 17 - 1);
      zero = bit_and x (2 ^ 25 - 1);
    } ≡ header_fields x
unfolding field split width
header_split x h =
    let a : x / 2 ^ 48 ≡ x / 2 ^ 48 % 2 ^ 16 = top_field x 48 16 h in
    let b : bit_and (x / 2 ^ 44) (2 ^ 4 - 1) ≡ x / 2 ^ 44 % 2 ^ 4 = masked x 44 4 in
    let c : bit_and (x / 2 ^ 42) (2 ^ 2 - 1) ≡ x / 2 ^ 42 % 2 ^ 2 = masked x 42 2 in
    let d : bit_and (x / 2 ^ 25) (2 ^ 17 - 1) ≡ x / 2 ^ 25 % 2 ^ 17 = masked x 25 17 in
    let e : bit_and x (2 ^ 25 - 1) ≡ x / 2 ^ 0 % 2 ^ 25 = low_field x 25 in
    cc

pub header_join : (k n : ℕ) → k < 4 → n < 2 ^ 17 → bit_or (bit_or (bit_or ((identifier * 2 ^ 48) % 2 ^ 64) ((1 * 2 ^ 44) % 2 ^ 64)) ((k * 2 ^ 42) % 2 ^ 64)) ((n * 2 ^ 25) % 2 ^ 64) ≡ header_word k n
unfolding header_word join width
header_join k n h l =
    let a : bit_or ((identifier * 2 ^ 48) % 2 ^ 64) ((1 * 2 ^ 44) % 2 ^ 64) ≡ identifier * 2 ^ 48 + 1 * 2 ^ 44 = refl in
    joined 42 (joined 44 a (shifted 64 k 42 (omega arith)) (omega arith) (omega arith)) (shifted 64 n 25 (omega arith)) (omega arith) (omega arith) ∙ omega arith

-- ---- what the fields say

module _ (f : HeaderFields) where
  abbrev kept : List Check
  kept = f.identifier is identifier ∷ f.format is 1 ∷ 0 below f.huge ∷ f.huge below suc most_huge ∷ f.zero is 0 ∷ []

  abbrev marked : Option Header
  marked = pick (eqb f.marker running) (Some (Header.Running f.huge)) (pick (eqb f.marker clean) (Some (Header.Clean f.huge)) None)

  -- the header of split fields
  abbrev said_by : Option Header
  said_by = pick (passes kept) marked None

-- as the code answers it
abbrev zoned : Option Header → Result Zoned Answer
zoned h = by_header h (Err Answer.NotAZone) (λ n. Ok (Zoned.Running (sized n))) (λ n. Ok (Zoned.Clean (sized n)))

module _ (x : ℕ) {f : HeaderFields} (e : f ≡ header_fields x) where
  whole : {v : Result Zoned Answer} → v ≡ zoned (said_by f) → v ≡ zoned (header_says x)
  unfolding header_says
  whole p = p ∙ ap (λ f. zoned (said_by f)) e

  pub says_broken : (Passes (kept f) → ⊥) → Err Answer.NotAZone ≡ zoned (header_says x)
  unfolding by_header
  says_broken n = whole (sym (ap zoned (pick_no _ _ _ (fails_of (kept f) n))))

  pub says_unmarked : f.marker ≢ running → f.marker ≢ clean → Err Answer.NotAZone ≡ zoned (header_says x)
  unfolding by_header
  says_unmarked n m = whole (pick_elim (λ h. Err Answer.NotAZone ≡ zoned h) (passes (kept f)) (λ b. sym (ap zoned (pick_no _ _ _ (ne_eqb _ _ n) ∙ pick_no _ _ _ (ne_eqb _ _ m)))) (λ b. refl))

  module _ (a : f.identifier ≡ identifier) (b : f.format ≡ 1) (n : f.huge ≢ 0) (h : f.huge ≤ most_huge) (z : f.zero ≡ 0) where
    laid_out_lem : said_by f ≡ marked f
    laid_out_lem = pick_yes _ _ _ (passes_of (kept f) (a, (b, (omega arith, (omega arith, (z, tt))))))

    pub says_running : {s : Size} → f.marker ≡ running → s ≡ sized f.huge → Ok (Zoned.Running s) ≡ zoned (header_says x)
    unfolding by_header
    says_running m q = whole (ap (λ s. Ok (Zoned.Running s)) q ∙ sym (ap zoned (laid_out_lem ∙ pick_yes _ _ _ (eq-eqb _ _ m))))

    pub says_clean : {s : Size} → f.marker ≢ running → f.marker ≡ clean → s ≡ sized f.huge → Ok (Zoned.Clean s) ≡ zoned (header_says x)
    unfolding by_header
    says_clean o m q = whole (ap (λ s. Ok (Zoned.Clean s)) q ∙ sym (ap zoned (laid_out_lem ∙ pick_no _ _ _ (ne_eqb _ _ o) ∙ pick_yes _ _ _ (eq-eqb _ _ m))))
