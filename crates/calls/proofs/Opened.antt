-- What the checks of an open zone tell of a call's refusals: the first that stands, or none of them.
use mathlib.Core.Path.{◌≡◌, refl, sym, ap, subst, ◌∙◌}
use mathlib.Core.Bool.{Bool, true, false, not}
use mathlib.Core.List.{List, ◌∷◌, ◌++◌}
use Prim.Native.Nat.{ℕ, suc, ◌-◌, ◌≤◌, ◌<◌}
use native.Mathlib.Omega.{arith}
use lib.Dec.{eqb}
use lib.ListN.{length, get_or}
use borrow.Author.Tests.{eqb-true, eqb-false}
use Rattle.std.specs.Prelude.{Option, Some, None, Result as OkOr, Ok, Err}
use Rattle.laws.specs.Tests.{pick, Check, passes}
use Rattle.laws.proofs.Tests.{pick_elim, pick_yes, pick_no, all_passed, fails_of}
use Rattle.rules.specs.Numbers.{most_cpus, trees_of}
use Rattle.rules.specs.Entries.{header_says}
use Rattle.rules.specs.Zone.{Zone, header_of, header_huge, shaped, shape_of, stored}
use Rattle.rules.specs.Answers.{number}
use Rattle.rules.specs.Plan.{Plan, refuse, Refusal, guarded}
use Rattle.rules.specs.Checks.{is_malformed, is_clean, header_checks, length_checks, not_open}
use Rattle.rules.specs.declared.Header.{Header}
use Rattle.rules.proofs.Bounds.{header_sized}
use Rattle.rules.proofs.Ways.{allowed}
use Rattle.entries.specs.Sizes.{sized, lengths_of, by_header, zoned_in}
use Rattle.places.specs.Shapes as Shapes
use Rattle.calls.specs.Types.{Size, Answer, Zoned, Shape}
use Rattle.calls.specs.Results.{zone, result_of, done, checked_as, checked, Fits}

-- a call that stores nothing leaves the zone as it was
pub stores_nothing : (z : Zone) {a : Answer} {p : Plan} → p ≡ refuse a → result_of a z ≡ done z p
unfolding stored
stores_nothing z e = sym (ap (done z) e)

-- ---- one refusal: it stands, or the next ones tell
pub stands : (x : Refusal) (l : List Refusal) (q : Plan) → x.test ≡ true → guarded (x ∷ l) q ≡ refuse x.answer
unfolding guarded
stands x l q e = pick_yes _ _ _ e

pub passed_by : (x : Refusal) (l : List Refusal) (q : Plan) → x.test ≡ false → guarded (x ∷ l) q ≡ guarded l q
unfolding guarded
passed_by x l q e = pick_no _ _ _ e

-- ---- the refusals of every call on an open zone

-- the checks of a zone's five tables
abbrev pub checked_in : List ℕ → List ℕ → List ℕ → List ℕ → List ℕ → OkOr Shape Answer
checked_in h w c t p = checked h (length w) (length c) (length t) (length p)

-- what the header's entry d says
abbrev pub zoned_by : Option Header → OkOr Zoned Answer
zoned_by d = by_header d (Err Answer.NotAZone) (λ n. Ok (Zoned.Running (sized n))) (λ n. Ok (Zoned.Clean (sized n)))

module _ (h w c t p : List ℕ) where
  abbrev z : Zone
  z = zone h w c t p

  abbrev checked_by : OkOr Zoned Answer → OkOr Shape Answer
  checked_by x = checked_as x (length w) (length c) (length t) (length p)

  -- the refusal for the lengths that n huge frames ask for
  abbrev pub lengths_by : ℕ → Plan → Plan
  lengths_by n q = pick (not (passes (length_checks (shaped n z) z))) (refuse Answer.BadBuffers) q

  -- what is left of them where the header's entry says d
  abbrev guarded_by : Option Header → Plan → Plan
  guarded_by d q = pick (is_malformed d) (refuse Answer.NotAZone) (pick (is_clean d) (refuse Answer.Closed) (lengths_by (header_huge d) q))

  -- tables that fit n huge frames, and others: the refusal for their lengths is passed, or it stands
  pub lengths_tell : {A : Type 0} (Q : A → Type 0) (n : ℕ) → 0 < n → {x y : A} →
      (shaped n z ≡ Shapes.shape_of (record { size = sized n; cpus = length p }) → ((q : Plan) → lengths_by n q ≡ q) → Fits (record { size = sized n; cpus = length p }) w c t p → Q x) →
      (((q : Plan) → lengths_by n q ≡ refuse Answer.BadBuffers) → Q y) →
      Q (pick (passes (lengths_of (sized n) (length w) (length c) (length t) (length p))) x y)
  unfolding trees_of
  lengths_tell Q n n+ f k =
      let m : suc (n - 1) ≡ n = omega arith in
      let l : List Check = lengths_of (sized n) (length w) (length c) (length t) (length p) in
      let e : passes (length_checks (shaped n z) z) ≡ passes l = sym (ap (λ i. passes (length_checks (shaped i z) z)) m) in
      pick_elim Q (passes l)
      (λ b. f (sym (ap (λ i. shaped i z) m)) (λ q. pick_no _ _ _ (ap not (e ∙ b))) (record { lengths = all_passed l b; cpus = refl }))
      (λ b. k (λ q. pick_yes _ _ _ (ap not (e ∙ b))))

  -- of n huge frames, with the refusals before a plan
  abbrev Tells : ℕ → (Plan → Plan) → OkOr Shape Answer → Type 0
  Tells n f (Err a) = (q : Plan) → f q ≡ refuse a
  Tells n f (Ok s) = (shaped n z ≡ Shapes.shape_of s) × ((q : Plan) → f q ≡ q) × Fits s w c t p

  entry_tells : (d : Option Header) → (is_malformed d ≡ false → 0 < header_huge d) → Tells (header_huge d) (guarded_by d) (checked_by (zoned_by d))
  unfolding by_header checked_as is_malformed is_clean header_huge pick
  entry_tells None k = λ q. refl
  entry_tells (Some (Header.Clean n)) k = λ q. refl
  entry_tells (Some (Header.Running n)) k = lengths_tell (Tells n (guarded_by (Some (Header.Running n)))) n (k refl) (λ e f b. (e, f, b)) (λ f. f)

  checked_tells : Tells (shape_of z).huge (guarded (not_open z)) (checked_in h w c t p)
  unfolding zoned_in guarded header_of checked_as pick
  checked_tells = pick_elim (λ x. Tells (shape_of z).huge (guarded (not_open z)) (checked_by x)) (eqb (length h) 1)
      (λ b. rw (allowed (header_checks z) (eqb-true _ _ b, tt)) (entry_tells (header_says (get_or h 0 0)) (λ m. (header_sized (get_or h 0 0) m).0)))
      (λ b q. pick_yes _ _ _ (ap not (fails_of (header_checks z) (λ k. eqb-false _ _ b k.0))))

  pub checked_refused : {a : Answer} → checked_in h w c t p ≡ Err a → (l : List Refusal) (q : Plan) → guarded (not_open z ++ l) q ≡ refuse a
  unfolding guarded
  checked_refused e l q = subst (Tells (shape_of z).huge (guarded (not_open z))) e checked_tells (guarded l q)

  pub checked_open : {s : Shape} → checked_in h w c t p ≡ Ok s → (shape_of z ≡ Shapes.shape_of s) × ((l : List Refusal) (q : Plan) → guarded (not_open z ++ l) q ≡ guarded l q) × Fits s w c t p
  unfolding guarded
  checked_open e = let k = subst (Tells (shape_of z).huge (guarded (not_open z))) e checked_tells in (k.0, (λ l q. k.1 (guarded l q)), k.2)

  -- what is refused so has ended
  abbrev EndsRefused : OkOr Shape Answer → Type 0
  EndsRefused (Err a) = 2 ≤ number a
  EndsRefused (Ok s) = Unit {0}

  entry_ends : (d : Option Header) → EndsRefused (checked_by (zoned_by d))
  unfolding by_header checked_as
  entry_ends None = omega arith
  entry_ends (Some (Header.Running n)) = pick_elim EndsRefused (passes (lengths_of (sized n) (length w) (length c) (length t) (length p))) (λ b. tt) (λ b. omega arith)
  entry_ends (Some (Header.Clean n)) = omega arith

  pub refused_ends : {a : Answer} → checked_in h w c t p ≡ Err a → 2 ≤ number a
  unfolding zoned_in checked_as
  refused_ends e = subst EndsRefused e (pick_elim (λ x. EndsRefused (checked_by x)) (eqb (length h) 1) (λ b. entry_ends (header_says (get_or h 0 0))) (λ b. omega arith))

-- a header slice that says anything has one entry
pub one_entry : (h : List ℕ) {x : OkOr Zoned Answer} → zoned_in h ≡ x → (x ≡ Err Answer.BadBuffers → ⊥) → length h ≡ 1
unfolding zoned_in
one_entry h e k = go (eqb (length h) 1) refl
  where
    go : (b : Bool) → eqb (length h) 1 ≡ b → length h ≡ 1
    go true q = eqb-true _ _ q
    go false q = absurd (k (sym e ∙ pick_no _ _ _ q))

-- ---- as the code makes the checks

-- what the header says decides
pub told : {A : Type 0} (f : OkOr Zoned Answer → ℕ → ℕ → ℕ → ℕ → A) {x y : OkOr Zoned Answer} (h : List ℕ) (w c t p : ℕ) → x ≡ zoned_in h → x ≡ y → f y w c t p ≡ f (zoned_in h) w c t p
told f h w c t p e q = ap (λ v. f v w c t p) (sym q ∙ e)

-- a CPU table of the right length is short
pub few_cpus : (m : Size) (w c t p : ℕ) → passes (lengths_of m w c t p) ≡ true → p ≤ most_cpus
few_cpus m w c t p b = let k = all_passed (lengths_of m w c t p) b in omega (arith, k.1.1.1.1.0)
