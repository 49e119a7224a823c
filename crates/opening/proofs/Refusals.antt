-- What open's first checks tell of its refusals: the first that stands, or none of them.
use mathlib.Core.Path.{◌≡◌, refl, ap, subst}
use mathlib.Core.Bool.{Bool, true, false, not}
use mathlib.Core.List.{List, [], ◌∷◌}
use Prim.Native.Nat.{ℕ, ◌<◌}
use lib.Dec.{eqb}
use lib.ListN.{length, get_or}
use borrow.Author.Tests.{eqb-true, eqb-false}
use Rattle.std.specs.Prelude.{Option, Some, None, Result, Ok, Err}
use Rattle.laws.specs.Tests.{pick}
use Rattle.laws.proofs.Tests.{pick_elim, pick_yes, fails_of}
use Rattle.rules.specs.declared.Header.{Header}
use Rattle.rules.specs.Entries.{header_says}
use Rattle.rules.specs.Zone.{Zone, header_of, header_huge, shaped, shape_of}
use Rattle.rules.specs.Plan.{Plan, refuse, Refusal, guarded}
use Rattle.rules.specs.Checks.{is_malformed, is_running, header_checks, no_header, not_a_zone, bad_buffers}
use Rattle.rules.proofs.Bounds.{header_sized}
use Rattle.rules.proofs.Ways.{allowed}
use Rattle.entries.specs.Sizes.{by_header, zoned_in}
use Rattle.places.specs.Shapes as Shapes
use Rattle.calls.specs.Results.{zone, Fits}
use Rattle.calls.proofs.Opened.{zoned_by, lengths_by, lengths_tell}
use Rattle.opening.specs.Types.{Answer, Size, Zoned, Shape}
use Rattle.opening.specs.Opens.{openable_as}

-- of a zone with the CPU table p
abbrev pub shape_by : List ℕ → Size → Shape
shape_by p m = record { size = m; cpus = length p }

module _ (h w c t p : List ℕ) where
  abbrev z : Zone
  z = zone h w c t p

  abbrev openable_of : Result Zoned Answer → Result Zoned Answer
  openable_of x = openable_as x (length w) (length c) (length t) (length p)

  -- the checks of a zone's five tables
  abbrev pub openable_by : Result Zoned Answer
  openable_by = openable_of (zoned_in h)

  -- 8 for the header slice, 9, 8
  abbrev first : List Refusal
  first = no_header z ∷ not_a_zone z ∷ bad_buffers (shape_of z) z ∷ []

  -- what is left of them where the header's entry says d
  abbrev guarded_by : Option Header → Plan → Plan
  guarded_by d q = pick (is_malformed d) (refuse Answer.NotAZone) (lengths_by h w c t p (header_huge d) q)

  -- a header that says d, running or not, with the refusals before a plan
  abbrev ReadyBy : Option Header → (Plan → Plan) → Size → Bool → Type 0
  ReadyBy d f m b = (shaped (header_huge d) z ≡ Shapes.shape_of (shape_by p m)) × ((q : Plan) → f q ≡ q) × Fits (shape_by p m) w c t p × (is_running d ≡ b) × (length h ≡ 1)

  abbrev Tells : Option Header → (Plan → Plan) → Result Zoned Answer → Type 0
  Tells d f (Err a) = (q : Plan) → f q ≡ refuse a
  Tells d f (Ok (Zoned.Running m)) = ReadyBy d f m true
  Tells d f (Ok (Zoned.Clean m)) = ReadyBy d f m false

  entry_tells : (d : Option Header) → (is_malformed d ≡ false → 0 < header_huge d) → length h ≡ 1 → Tells d (guarded_by d) (openable_of (zoned_by d))
  unfolding by_header openable_as is_malformed is_running header_huge pick
  entry_tells None k o = λ q. refl
  entry_tells (Some (Header.Running n)) k o = lengths_tell h w c t p (Tells (Some (Header.Running n)) (guarded_by (Some (Header.Running n)))) n (k refl) (λ e f b. (e, f, b, refl, o)) (λ f. f)
  entry_tells (Some (Header.Clean n)) k o = lengths_tell h w c t p (Tells (Some (Header.Clean n)) (guarded_by (Some (Header.Clean n)))) n (k refl) (λ e f b. (e, f, b, refl, o)) (λ f. f)

  openable_tells : Tells (header_of z) (guarded first) openable_by
  unfolding zoned_in guarded header_of openable_as pick
  openable_tells = pick_elim (λ x. Tells (header_of z) (guarded first) (openable_of x)) (eqb (length h) 1)
      (λ b. rw (allowed (header_checks z) (eqb-true _ _ b, tt)) (entry_tells (header_says (get_or h 0 0)) (λ m. (header_sized (get_or h 0 0) m).0) (eqb-true _ _ b)))
      (λ b q. pick_yes _ _ _ (ap not (fails_of (header_checks z) (λ k. eqb-false _ _ b k.0))))

  pub openable_refused : {a : Answer} → openable_by ≡ Err a → (q : Plan) → guarded first q ≡ refuse a
  openable_refused e = subst (Tells (header_of z) (guarded first)) e openable_tells

  -- a zone of size m to be opened, running or not
  abbrev pub Ready : Size → Bool → Type 0
  Ready = ReadyBy (header_of z) (guarded first)

  pub openable_cut : {m : Size} → openable_by ≡ Ok (Zoned.Running m) → Ready m true
  openable_cut e = subst (Tells (header_of z) (guarded first)) e openable_tells

  pub openable_closed : {m : Size} → openable_by ≡ Ok (Zoned.Clean m) → Ready m false
  openable_closed e = subst (Tells (header_of z) (guarded first)) e openable_tells
