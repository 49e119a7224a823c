-- A call on a record slice of its length and of another.
use mathlib.Core.Path.{◌≡◌, refl, sym, ap, ap₂, subst, ◌∙◌}
use mathlib.Core.Logic.{◌≢◌}
use mathlib.Core.Bool.{Bool, true, false, not}
use mathlib.Core.List.{List, [], ◌∷◌}
use Prim.Native.Nat.{ℕ, ◌≤◌, ◌<◌}
use native.Mathlib.Omega.{arith}
use lib.Dec.{eqb, ltb}
use lib.ListN.{length, get_or, set}
use borrow.Author.Tests.{eq-eqb, ne_eqb, eqb-true, eqb-false, ltb-true, ltb-false, not-true, not-false}
use Rattle.laws.specs.Fields.{join, width}
use Rattle.laws.specs.Tests.{pick, passes}
use Rattle.laws.specs.Tables.{Outcome, outcome}
use Rattle.laws.proofs.Tests.{pick_elim, pick_yes, pick_no, all_passed, passes_of, fails_of}
use Rattle.std.specs.Prelude.{Option, Some, None, Result as Said, Ok, Err}
use Rattle.rules.specs.Numbers.{most_huge}
use Rattle.rules.specs.Entries.{header_says}
use Rattle.rules.specs.Zone.{Zone, header_of}
use Rattle.rules.specs.Answers.{number, frame_of, by_next, record_of}
use Rattle.rules.specs.Plan.{Plan, refuse, guarded}
use Rattle.rules.specs.Checks.{header_checks, is_malformed, is_clean}
use Rattle.rules.specs.Create.{size_checks}
use Rattle.rules.specs.Step as rules
use Rattle.rules.specs.declared.Header.{Header}
use Rattle.rules.proofs.Ways.{allowed}
use Rattle.entries.specs.Sizes.{by_header, zoned_in}
use Rattle.entries.specs.declared.Zoned.{Zoned}
use Rattle.calls.specs.Results.{zone, Result, result_of, done, next_in}
use Rattle.calls.proofs.Opened.{zoned_by}
use Rattle.calls.proofs.Runs.{NextTells, next_tells}
use Rattle.records.specs.Encoding.{fields_of, encode}
use Rattle.capi.specs.Types.{Record, Answer, Words, Answered, Ran}
use Rattle.capi.specs.Calls.{answered_as, ran_as, laid_down, laid, handed_back, no_record, no_create_record, Called, called, made, followed, made_alone, length_for}

-- ---- the record slice

two : (l : List ℕ) (a b : ℕ) → length l ≡ 2 → set (set l 0 a) 1 b ≡ a ∷ b ∷ []
two [] a b e = absurd (omega arith)
two (x ∷ []) a b e = absurd (omega arith)
two (x ∷ y ∷ []) a b e = refl
two (x ∷ y ∷ v ∷ l) a b e = absurd (omega arith)

finished_words : encode Record.Finished ≡ record { first = 0; second = 0 }
unfolding encode fields_of join width
finished_words = refl

module _ (l : List ℕ) where
  -- a record's two words; the finished one's are zero
  pub laid_down_lem : (r : Record) {w : Words} → length l ≡ 2 → w ≡ encode r → set (set l 0 w.first) 1 w.second ≡ laid r l
  unfolding laid
  laid_down_lem r e q = two l _ _ e ∙ ap laid_down q ∙ sym (pick_yes _ _ _ (eq-eqb _ _ e))

  pub laid_finished : length l ≡ 2 → set (set l 0 0) 1 0 ≡ laid Record.Finished l
  laid_finished e = laid_down_lem Record.Finished e (sym finished_words)

  pub left_alone : (r : Record) → length l ≢ 2 → l ≡ laid r l
  unfolding laid
  left_alone r e = sym (pick_no _ _ _ (ne_eqb _ _ e))

  pub laid_length : (r : Record) → length (laid r l) ≡ length l
  unfolding laid
  laid_length r = pick_elim (λ (x : List ℕ). length x ≡ length l) (eqb (length l) 2) (λ b. sym (eqb-true _ _ b)) (λ b. refl)

-- the record that an answer hands back: the next one, or the finished one
module _ (a : Answer) (l : List ℕ) {m : Option Record} (n : m ≡ next_in a) {l' : List ℕ} where
  pub back_next : {r : Record} → m ≡ Some r → l' ≡ laid r l → l' ≡ handed_back a l
  back_next k q = q ∙ ap (λ r. laid r l) (sym (ap record_of (subst (NextTells a) (sym n ∙ k) (next_tells a))))

  pub back_last : m ≡ None → l' ≡ laid Record.Finished l → l' ≡ handed_back a l
  back_last k q = q ∙ ap (λ x. laid (by_next x Record.Finished (λ r. r)) l) (sym (subst (NextTells a) (sym n ∙ k) (next_tells a)))

-- ---- one call, and a run

module _ (e : Answer) (z : Zone) (l : List ℕ) where
  pub made_not : (p : Plan) {a : Answer} {s : Answered} → length l ≢ 2 → a ≡ e → s ≡ answered_as a → called s z l ≡ made e z l p
  unfolding made
  made_not p n q t = ap (λ v. called v z l) (t ∙ ap answered_as q) ∙ sym (pick_no _ _ _ (ne_eqb _ _ n))

  pub made_so : (p : Plan) {a : Answer} {z' : Zone} {l' : List ℕ} {s : Answered} → length l ≡ 2 → result_of a z' ≡ done z p → l' ≡ handed_back a l → s ≡ answered_as a → called s z' l' ≡ made e z l p
  unfolding made
  made_so p {a} {z'} n q h t = ap₂ (λ v k. called v z' k) t h ∙ ap (λ (o : Result). called (answered_as o.answer) o.zone (handed_back o.answer l)) q ∙ sym (pick_yes _ _ _ (eq-eqb _ _ n))

  pub followed_not : (x : rules.Ran) {a : Answer} {l' : List ℕ} {s : Ran} → length l ≢ 2 → a ≡ e → outcome s l' ≡ outcome (ran_as a 0) (handed_back a l) → called s z l' ≡ followed e z l x
  unfolding followed
  followed_not x {a} n q t = ap (λ (o : Outcome Ran). called o.said z o.table) t ∙ ap₂ (λ v k. called v z k) (ap (λ b. ran_as b 0) q) (sym (left_alone l (record_of a) n)) ∙ sym (pick_no _ _ _ (ne_eqb _ _ n))

  pub followed_so : (x : rules.Ran) {a : Answer} {k : ℕ} {z' : Zone} {l' : List ℕ} {s : Ran} → length l ≡ 2 → rules.ran a k z' ≡ x → outcome s l' ≡ outcome (ran_as a k) (handed_back a l) → called s z' l' ≡ followed e z l x
  unfolding followed
  followed_so x {a} {k} {z'} n q t = ap (λ (o : Outcome Ran). called o.said z' o.table) t ∙ ap (λ (o : rules.Ran). called (ran_as o.answer o.steps) o.zone (handed_back o.answer l)) q ∙ sym (pick_yes _ _ _ (eq-eqb _ _ n))

  -- a run that is told from the tables on that a part of it left
  pub followed_on : (x : rules.Ran) (z' : Zone) {w : rules.Ran} {o : Called Ran} → length l ≡ 2 → w ≡ x → o ≡ followed e z' l w → o ≡ followed e z l x
  unfolding followed
  followed_on x z' n q t = t ∙ pick_yes _ _ _ (eq-eqb _ _ n) ∙ ap (λ (o : rules.Ran). called (ran_as o.answer o.steps) o.zone (handed_back o.answer l)) q ∙ sym (pick_yes _ _ _ (eq-eqb _ _ n))

-- the run of the record that is lent
pub lent : (f : Zone → Record → Plan) (n : ℕ) (z : Zone) {r s : Record} → r ≡ s → rules.follow f n 0 (Answer.UnderWay r) z ≡ rules.follow f n 0 (Answer.UnderWay s) z
lent f n z e = ap (λ r. rules.follow f n 0 (Answer.UnderWay r) z) e

-- the step of the record that is lent
pub lent_step : (f : Zone → Record → Plan) (z : Zone) {a : Answer} {z' : Zone} {r s : Record} → r ≡ s → result_of a z' ≡ done z (f z r) → result_of a z' ≡ done z (f z s)
lent_step f z e q = q ∙ ap (λ x. done z (f z x)) e

-- a call without a record
pub made_alone_lem : (z : Zone) (p : Plan) {a : Answer} {z' : Zone} {s : Answered} → result_of a z' ≡ done z p → s ≡ answered_as a → called s z' [] ≡ made_alone z p
made_alone_lem z p {a} {z'} q t = ap (λ v. called v z' []) t ∙ ap (λ (o : Result). called (answered_as o.answer) o.zone []) q

-- number, frame and steps, with the record
pub run_told : (a : Answer) {n f k : ℕ} {l m : List ℕ} → n ≡ number a → f ≡ frame_of a → l ≡ m → outcome (record { number = n; frame = f; steps = k }) l ≡ outcome (ran_as a k) m
run_told a {k = k} p q h = rw (p, q, h) refl

-- two results that a call's contract permits are equal: what is said, the tables, the record slice
pub same_called : {A : Type 0} (o : Called A) (a b : A) (z y : Zone) (l m : List ℕ) → called a z l ≡ o → called b y m ≡ o → (a ≡ b) × (z ≡ y) × (l ≡ m)
same_called {A} o a b z y l m p q = (ap (λ (x : Called A). x.said) (p ∙ sym q), ap (λ (x : Called A). x.zone) (p ∙ sym q), ap (λ (x : Called A). x.rec) (p ∙ sym q))

-- ---- what comes before 8

abbrev pub before8 : Answer → Said Zoned Answer → Answer
before8 e (Err a) = a
before8 e (Ok (Zoned.Running m)) = Answer.BadBuffers
before8 e (Ok (Zoned.Clean m)) = e

entry_before : (e : Answer) (d : Option Header) → before8 e (zoned_by d) ≡ (pick (is_malformed d) (refuse Answer.NotAZone) (pick (is_clean d) (refuse e) (refuse Answer.BadBuffers))).answer
unfolding by_header is_malformed is_clean pick
entry_before e None = refl
entry_before e (Some (Header.Running n)) = refl
entry_before e (Some (Header.Clean n)) = refl

header_before : (e : Answer) (h : List ℕ) → before8 e (zoned_in h) ≡ no_record e h
unfolding no_record guarded header_of zoned_in
header_before e h =
    let z : Zone = zone h [] [] [] [] in
    pick_elim (λ x. before8 e x ≡ no_record e h) (eqb (length h) 1)
    (λ b. entry_before e (header_says (get_or h 0 0)) ∙ sym (ap (λ (q : Plan). q.answer) (pick_no _ _ _ (allowed (header_checks z) (eqb-true _ _ b, tt)))))
    (λ b. sym (ap (λ (q : Plan). q.answer) (pick_yes _ _ _ (ap not (fails_of (header_checks z) (λ k. eqb-false _ _ b k.0))))))

pub no_record_lem : (e : Answer) (h : List ℕ) {x y : Said Zoned Answer} → x ≡ zoned_in h → x ≡ y → before8 e y ≡ no_record e h
no_record_lem e h p q = ap (before8 e) (sym q ∙ p) ∙ header_before e h

-- ---- a number of huge frames

pub no_zone : (n : ℕ) → n ≡ 0 → true ≡ not (passes (size_checks n))
no_zone n e = sym (ap not (fails_of (size_checks n) (λ k. absurd (omega (arith, k.0, e)))))

pub too_many : (n : ℕ) → n ≢ 0 → ltb most_huge n ≡ not (passes (size_checks n))
too_many n e = go (ltb most_huge n) refl
  where
    go : (b : Bool) → ltb most_huge n ≡ b → b ≡ not (passes (size_checks n))
    go true q = let h : most_huge < n = ltb-true _ _ q in sym (ap not (fails_of (size_checks n) (λ k. absurd (omega (arith, k.1.0, h)))))
    go false q = let h : n ≤ most_huge = ltb-false _ _ q in sym (ap not (passes_of (size_checks n) (omega (arith, e), (omega (arith, h), tt))))

pub length_none : (n k : ℕ) → not (passes (size_checks n)) ≡ true → 0 ≡ length_for n k
unfolding length_for
length_none n k e = sym (pick_no _ _ _ (not-true _ e))

pub length_some : (n k : ℕ) → not (passes (size_checks n)) ≡ false → k ≡ length_for n k
unfolding length_for
length_some n k e = sym (pick_yes _ _ _ (not-false _ e))

pub sized_in : (n : ℕ) → not (passes (size_checks n)) ≡ false → n ≤ most_huge
sized_in n e = let k = all_passed (size_checks n) (not-false _ e) in omega (arith, k.1.0)

pub create_size : (n : ℕ) → not (passes (size_checks n)) ≡ true → Answer.BadSize ≡ no_create_record n
unfolding no_create_record guarded
create_size n e = sym (ap (λ (q : Plan). q.answer) (pick_yes _ _ _ e))

pub create_short : (n : ℕ) → not (passes (size_checks n)) ≡ false → Answer.BadBuffers ≡ no_create_record n
unfolding no_create_record guarded
create_short n e = sym (ap (λ (q : Plan). q.answer) (pick_no _ _ _ e))
