-- What every step of create refuses first.
use Rattle.std.specs.Prelude.{[], ◌∷◌, ℕ, Result, Ok, Err}
use Rattle.laws.specs.Tests.{pick, ◌is◌, passes}
use Rattle.rules.specs.Create.{size_checks}
use Rattle.entries.specs.Sizes.{sized, lengths_of}
use Rattle.creating.specs.Types.{Answer, Shape}

-- n huge frames, a header slice of length h, and tables of lengths w, c, t, p
unfoldable pub creatable_in : ℕ → ℕ → ℕ → ℕ → ℕ → ℕ → Result Shape Answer
creatable_in n h w c t p =
    pick (passes (size_checks n))
    (pick (passes (h is 1 ∷ []))
    (pick (passes (lengths_of (sized n) w c t p)) (Ok (record { size = sized n; cpus = p })) (Err Answer.BadBuffers))
    (Err Answer.BadBuffers))
    (Err Answer.BadSize)
