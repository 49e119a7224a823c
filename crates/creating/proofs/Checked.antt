-- What the checks of create tell of a call's refusals: the first that stands, or none of them.
use mathlib.Core.Path.{◌≡◌, refl, sym, ap, subst, ◌∙◌}
use mathlib.Core.Bool.{true, false, not}
use mathlib.Core.List.{List, [], ◌∷◌, ◌++◌}
use Prim.Native.Nat.{ℕ, ◌≤◌, ◌<◌}
use native.Mathlib.Omega.{arith}
use lib.ListN.{length}
use Rattle.std.specs.Prelude.{Result, Ok, Err}
use Rattle.laws.specs.Tests.{pick, Check, ◌is◌, passes}
use Rattle.laws.proofs.Tests.{pick_elim, pick_yes, pick_no, all_passed, passes_of, fails_of}
use Rattle.rules.specs.Numbers.{most_huge}
use Rattle.rules.specs.Zone.{Zone, shaped}
use Rattle.rules.specs.Plan.{Plan, refuse, Refusal, guarded}
use Rattle.rules.specs.Checks.{unless, header_checks, no_header, bad_buffers}
use Rattle.rules.specs.Create.{size_checks, not_created}
use Rattle.entries.specs.Sizes.{sized, lengths_of}
use Rattle.places.specs.Shapes.{shape_of}
use Rattle.calls.specs.Results.{zone, Fits}
use Rattle.calls.proofs.Opened.{passed_by, lengths_tell}
use Rattle.creating.specs.Types.{Answer, Shape}
use Rattle.creating.specs.Creates.{creatable_in}

-- ---- as the code makes the checks
module _ (n h w c t p : ℕ) where
  pub size_wrong : (0 < n → n ≤ most_huge → ⊥) → Err Answer.BadSize ≡ creatable_in n h w c t p
  unfolding creatable_in
  size_wrong k = sym (pick_no _ _ _ (fails_of (size_checks n) (λ b. k (omega (arith, b.0)) (omega (arith, b.1.0)))))

  module _ (a : 0 < n) (l : n ≤ most_huge) where
    sizes : passes (size_checks n) ≡ true
    sizes = passes_of (size_checks n) (omega arith, (omega arith, tt))

    pub header_wrong : (h ≡ 1 → ⊥) → Err Answer.BadBuffers ≡ creatable_in n h w c t p
    unfolding creatable_in
    header_wrong k = sym (pick_yes _ _ _ sizes ∙ pick_no _ _ _ (fails_of (h is 1 ∷ []) (λ b. k b.0)))

    module _ (b : h ≡ 1) where
      lengths_decide : pick (passes (lengths_of (sized n) w c t p)) (Ok (record { size = sized n; cpus = p })) (Err Answer.BadBuffers) ≡ creatable_in n h w c t p
      unfolding creatable_in
      lengths_decide = sym (pick_yes _ _ _ sizes ∙ pick_yes _ _ _ (passes_of (h is 1 ∷ []) (b, tt)))

      pub lengths_right : passes (lengths_of (sized n) w c t p) ≡ true → Ok (record { size = sized n; cpus = p }) ≡ creatable_in n h w c t p
      lengths_right k = sym (pick_yes _ _ _ k) ∙ lengths_decide

      pub lengths_wrong : passes (lengths_of (sized n) w c t p) ≡ false → Err Answer.BadBuffers ≡ creatable_in n h w c t p
      lengths_wrong k = sym (pick_no _ _ _ k) ∙ lengths_decide

-- ---- what they tell of the tables

module _ (n h : ℕ) (w c t p : List ℕ) where
  -- of a header slice of length h
  abbrev Ready : Result Shape Answer → Type 0
  Ready (Err a) = Unit {0}
  Ready (Ok s) = (h ≡ 1) × Fits s w c t p

  ready : Ready (creatable_in n h (length w) (length c) (length t) (length p))
  unfolding creatable_in
  ready =
      let l : List Check = lengths_of (sized n) (length w) (length c) (length t) (length p) in
      pick_elim Ready (passes (size_checks n))
      (λ a. pick_elim Ready (passes (h is 1 ∷ []))
      (λ b. pick_elim Ready (passes l) (λ k. ((all_passed (h is 1 ∷ []) b).0, record { lengths = all_passed l k; cpus = refl })) (λ k. tt))
      (λ b. tt))
      (λ a. tt)

  pub creatable_ready : {s : Shape} → creatable_in n h (length w) (length c) (length t) (length p) ≡ Ok s → (h ≡ 1) × Fits s w c t p
  creatable_ready e = subst Ready e ready

-- ---- the refusals of every step of create

-- the checks of a zone's five tables, for n huge frames
abbrev pub creatable_by : ℕ → List ℕ → List ℕ → List ℕ → List ℕ → List ℕ → Result Shape Answer
creatable_by n h w c t p = creatable_in n (length h) (length w) (length c) (length t) (length p)

module _ (n : ℕ) (h w c t p : List ℕ) where
  abbrev z : Zone
  z = zone h w c t p

  abbrev first : Plan → Plan
  first = guarded (not_created n z)

  abbrev Tells : Result Shape Answer → Type 0
  Tells (Err a) = (q : Plan) → first q ≡ refuse a
  Tells (Ok s) = (shaped n z ≡ shape_of s) × ((q : Plan) → first q ≡ q)

  -- a good size, and a header slice of length 1: the next ones tell
  size_passed : passes (size_checks n) ≡ true → (q : Plan) → first q ≡ guarded (no_header z ∷ bad_buffers (shaped n z) z ∷ []) q
  size_passed a q = passed_by (unless (size_checks n) Answer.BadSize) (no_header z ∷ bad_buffers (shaped n z) z ∷ []) q (ap not a)

  header_passed : passes (size_checks n) ≡ true → passes (header_checks z) ≡ true → (q : Plan) → first q ≡ guarded (bad_buffers (shaped n z) z ∷ []) q
  header_passed a b q = size_passed a q ∙ passed_by (no_header z) (bad_buffers (shaped n z) z ∷ []) q (ap not b)

  creatable_tells : Tells (creatable_by n h w c t p)
  unfolding creatable_in guarded
  creatable_tells = pick_elim Tells (passes (size_checks n))
      (λ a. pick_elim Tells (passes (header_checks z))
      (λ b. lengths_tell h w c t p Tells n (all_passed (size_checks n) a).0 (λ e f k. (e, (λ q. header_passed a b q ∙ f q))) (λ f q. header_passed a b q ∙ f q))
      (λ b q. size_passed a q ∙ pick_yes _ _ _ (ap not b)))
      (λ a q. pick_yes _ _ _ (ap not a))

  pub creatable_refused : {a : Answer} → creatable_by n h w c t p ≡ Err a → (l : List Refusal) (q : Plan) → guarded (not_created n z ++ l) q ≡ refuse a
  unfolding guarded
  creatable_refused e l q = subst Tells e creatable_tells (guarded l q)

  pub creatable_zone : {s : Shape} → creatable_by n h w c t p ≡ Ok s → (shaped n z ≡ shape_of s) × ((l : List Refusal) (q : Plan) → guarded (not_created n z ++ l) q ≡ guarded l q)
  unfolding guarded
  creatable_zone e = let k = subst Tells e creatable_tells in (k.0, (λ l q. k.1 (guarded l q)))
