-- The search of the own tree: its children from the start child round to it again, and the words of a child.
use mathlib.Core.Path.{◌≡◌, refl, sym, ap, ◌∙◌}
use mathlib.Core.List.{List}
use Prim.Native.Nat.{ℕ, suc, ◌+◌, ◌-◌, ◌≤◌, ◌<◌}
use native.Mathlib.Omega.{arith}
use native.Mathlib.Numerals.{add-one}
use lib.Dec.{eqb, ltb}
use borrow.Author.Tests.{eq-eqb, ne_eqb, lt-ltb, le-ltb}
use Rattle.laws.specs.Tests.{pick, Passes}
use Rattle.laws.specs.Tables.{Outcome, outcome}
use Rattle.laws.proofs.Tests.{pick_elim, pick_yes, pick_no}
use Rattle.rules.specs.declared.Run.{Run}
use Rattle.rules.specs.Numbers.{child_words, Shape as Rules, children_of}
use Rattle.rules.specs.Ranges.{place_in, taking_in}
use Rattle.rules.specs.Zone.{Zone}
use Rattle.std.specs.Prelude.{Option, Some, None, Result, Ok, Err}
use Rattle.rules.specs.Plan.{plain, takes}
use Rattle.rules.specs.Blocks.{run_size, frame_at}
use Rattle.rules.specs.Lower.{claim, take_huge}
use Rattle.rules.specs.Take.{get, next_child, search_child, take}
use Rattle.rules.specs.Step.{step, Ran, follow}
use Rattle.entries.specs.Sizes as Sizes
use Rattle.places.specs.Shapes.{shape_of}
use Rattle.places.proofs.Ranges.{children_same}
use Rattle.calls.specs.Results.{zone, went_to, Opened}
use Rattle.child_stages.specs.Tables.{lent_children, in_children}
use Rattle.child_stages.specs.Answers.{claimed_answer}
use Rattle.child_stages.proofs.Rules.{claim_same, nine_same, next_round, next_on, claimed_made}
use Rattle.lower.specs.Steps.{claim_in, take_huge_in, take_run_in}
use Rattle.word_stages.specs.Tables.{lent_words}
use Rattle.word_stages.specs.Answers.{word_answer}
use Rattle.word_stages.proofs.Rules.{word_made}
use Rattle.get_runs.specs.Types.{Frame, Tree, Order, Block, Place, Taking, Record, Answer, Took, Fault, Shape, Way}
use Rattle.get_runs.specs.Claims.{no_child, claims_in, claimed}
use Rattle.upper.proofs.Runs.{Makes, still, goes}
use Rattle.get_runs.proofs.Steps.{fault_refused, child_step, word_step}

-- ---- a claim on a child of the own tree

module _ (g : Rules) (t : Tree) (k : ℕ) (l : List ℕ) {o : Order} {x : Outcome (Result Took Fault)} where
  pub claims_run : {r : Run} {n : ℕ} → o ≡ Order.Run r → n ≡ run_size r → x ≡ lent_children g t no_child (λ l. claim_in n l k) l → x ≡ lent_children g t no_child (λ l. claims_in o l k) l
  claims_run d e q = rw (d, ← e) q

  pub claims_nine : o ≡ Order.Nine → x ≡ lent_children g t no_child (λ l. take_huge_in l k) l → x ≡ lent_children g t no_child (λ l. claims_in o l k) l
  claims_nine d q = rw d q

module _ (g : Rules) (cpu : ℕ) (t : Tree) (i k : ℕ) (l : List ℕ) {s : Result Took Fault} {m : List ℕ} {a : Answer} where
  claim_made : (o : Order) → outcome s m ≡ lent_children g t no_child (λ l. claims_in o l k) l → a ≡ claimed_answer (get g cpu (claimed g o t i k)) (next_child g cpu o (Place.Own t) i k) s
      → outcome a m ≡ in_children g (take g cpu (Taking.Child o (Place.Own t) i k)) l
  unfolding take in_children search_child
  claim_made (Order.Run r) d e = claimed_made _ _ _ l (claim (run_size r)) _ _ plain (claim_same _ _ _ (run_size r)) d e
  claim_made Order.Nine d e = claimed_made _ _ _ l take_huge _ _ (takes _) (nine_same _ _ _) d e

-- ---- the words of a child

-- word j of the child, or eight words without a free run
abbrev pub word_at : Run → Tree → ℕ → ℕ → ℕ → Taking
word_at v t i k j = pick (ltb j child_words) (Taking.Word v (Place.Own t) i k j) (Taking.GiveBack v (Place.Own t) i k)

module _ (v : Run) (t : Tree) (i k j : ℕ) where
  word_at_lem : j < 8 → word_at v t i k j ≡ Taking.Word v (Place.Own t) i k j
  word_at_lem l = pick_yes _ _ _ (lt-ltb j 8 l)

  -- the record that is handed back
  module _ (cpu fuel n : ℕ) (z : Zone) {y : Ran} (e : follow step (fuel - n) n (Answer.UnderWay (Record.Get cpu (word_at v t i k j))) z ≡ y) where
    pub word_stays : j < 8 → went_to step fuel (Way.Goes (Record.Get cpu (Taking.Word v (Place.Own t) i k j)) n) z ≡ y
    unfolding went_to
    word_stays l = rw (word_at_lem l) at e

    pub words_done : 8 ≤ j → went_to step fuel (Way.Goes (Record.Get cpu (Taking.GiveBack v (Place.Own t) i k)) n) z ≡ y
    unfolding went_to
    words_done l = rw (pick_no _ _ _ (le-ltb j 8 l)) at e

module _ (s : Shape) (cpu : ℕ) (v : Run) (t : Tree) (i k j : ℕ) where
  word_in : Passes (taking_in (shape_of s) cpu (Taking.Child (Order.Run v) (Place.Own t) i k)) → j < 8 → Passes (taking_in (shape_of s) cpu (Taking.Word v (Place.Own t) i k j))
  unfolding taking_in place_in
  word_in h l = (h.0, (h.1.0, (h.1.1.0, (l, tt))))

  -- a full word: the next
  word_full : word_answer (shape_of s) cpu v (Place.Own t) i k j (Ok None) ≡ get (shape_of s) cpu (word_at v t i k (j + 1))
  word_full = rw (add-one j) (pick_elim (λ x. x ≡ get (shape_of s) cpu (word_at v t i k (suc j))) (ltb (suc j) 8)
      (λ b. sym (ap (get (shape_of s) cpu) (pick_yes _ _ _ b))) (λ b. sym (ap (get (shape_of s) cpu) (pick_no _ _ _ b))))

  -- what the lower level says of the word is the step
  module _ {h w c ts p : List ℕ} (o : Opened s cpu h w c ts p) (b : Passes (taking_in (shape_of s) cpu (Taking.Child (Order.Run v) (Place.Own t) i k))) (fuel n : ℕ) (l : n < fuel) (d : j < 8)
      {x : Result (Option ℕ) Fault} {m : List ℕ} (e : outcome x m ≡ lent_words (shape_of s) t (Err Fault.NoChild) (λ l. take_run_in (run_size v) l k j) w) where
    word_told : Makes (zone h w c ts p) (Record.Get cpu (word_at v t i k j)) (word_answer (shape_of s) cpu v (Place.Own t) i k j x) (zone h m c ts p)
    word_told = rw (word_at_lem v t i k j d) (word_step o v (Place.Own t) i k j (word_in b d) (word_made (shape_of s) cpu v (Place.Own t) i k j w e refl))

    abbrev Before : Ran
    Before = follow step (fuel - n) n (get (shape_of s) cpu (word_at v t i k j)) (zone h w c ts p)

    pub word_next : {u : Option ℕ} → x ≡ Ok u → u ≡ None → follow step (fuel - (n + 1)) (n + 1) (get (shape_of s) cpu (word_at v t i k (j + 1))) (zone h m c ts p) ≡ Before
    word_next q r = goes fuel n _ _ word_told l (ap (word_answer (shape_of s) cpu v (Place.Own t) i k j) (q ∙ ap Ok r) ∙ word_full)

    pub word_found : {u : Option ℕ} (a : ℕ) {f : Frame} {y : Ran} → x ≡ Ok u → u ≡ Some a → f ≡ frame_at (shape_of s) t k j a → y ≡ follow step (fuel - (n + 1)) (n + 1) (get (shape_of s) cpu (Taking.Last (Block.Run v f))) (zone h m c ts p) → y ≡ Before
    word_found a q r g f = f ∙ goes fuel n _ _ word_told l (ap (word_answer (shape_of s) cpu v (Place.Own t) i k j) (q ∙ ap Ok r) ∙ ap (λ f. get (shape_of s) cpu (Taking.Last (Block.Run v f))) (sym g))

    pub word_stands : {u : Fault} → x ≡ Err u → went_to step fuel (Way.Goes (Record.Get cpu (Taking.Word v (Place.Own t) i k j)) n) (zone h m c ts p) ≡ Before
    word_stands {u} q = ap (λ x. went_to step fuel (Way.Goes (Record.Get cpu x) n) (zone h m c ts p)) (sym (word_at_lem v t i k j d)) ∙ still fuel n _ _ word_told (rw q (fault_refused u))

-- ---- the children of the own tree

-- a tree has 32 children at most
pub kids_few : (s : Shape) (t : Tree) {n : ℕ} → n ≡ children_of (Sizes.shape_of s.size) t.0 → n ≤ 32
unfolding children_of
kids_few s t e = omega arith

-- the stage that follows a claim, for an order known by an equation
pub as_claimed : (g : Rules) (cpu : ℕ) (t : Tree) (i k n m : ℕ) (z : Zone) {y : Ran} {o q : Order} → o ≡ q → y ≡ follow step n m (get g cpu (claimed g q t i k)) z → y ≡ follow step n m (get g cpu (claimed g o t i k)) z
as_claimed g cpu t i k n m z q e = e ∙ ap (λ o. follow step n m (get g cpu (claimed g o t i k)) z) (sym q)

module _ (s : Shape) (cpu : ℕ) (q : Order) (t : Tree) (i k : ℕ) (b : Passes (taking_in (shape_of s) cpu (Taking.Child q (Place.Own t) i k))) where
  pub child_few : k < 32
  unfolding taking_in place_in children_of
  child_few = let l = b.1.1.0 in omega arith

  -- the search at child d, or back at the start child
  abbrev pub child_at : ℕ → Answer
  child_at d = pick (eqb d i) (get (shape_of s) cpu (Taking.Fail q (Place.Own t))) (get (shape_of s) cpu (Taking.Child q (Place.Own t) i d))

  -- d is the child after this one, round to the first
  pub record Turned (d : ℕ) : Type 0 where
    pub next : next_child (shape_of s) cpu q (Place.Own t) i k ≡ child_at d
    pub inside : Passes (taking_in (shape_of s) cpu (Taking.Child q (Place.Own t) i d))

  module _ {n d : ℕ} (e : n ≡ children_of (Sizes.shape_of s.size) t.0) where
    pub turned_round : k + 1 ≡ n → d ≡ 0 → Turned d
    unfolding taking_in place_in
    turned_round r z = record { next = next_round (shape_of s) cpu q (Place.Own t) i k (e ∙ children_same s t.0) r ∙ ap child_at (sym z); inside = let l = b.1.1.0 in (b.0, (b.1.0, (omega arith, tt))) }

    pub turned_on : (k + 1 ≡ n → ⊥) → d ≡ k + 1 → Turned d
    unfolding taking_in place_in
    turned_on r z = record { next = next_on (shape_of s) cpu q (Place.Own t) i k (e ∙ children_same s t.0) r ∙ ap child_at (sym z); inside = let l = b.1.1.0 in let m = e ∙ children_same s t.0 in let u : k + 1 < n = omega arith in (b.0, (b.1.0, (omega arith, tt))) }

  -- what the lower level says of the child is the step
  module _ {h w c ts p : List ℕ} (o : Opened s cpu h w c ts p) (fuel n : ℕ) (l : n < fuel) {x : Result Took Fault} {m : List ℕ} (e : outcome x m ≡ lent_children (shape_of s) t no_child (λ l. claims_in q l k) c) where
    abbrev answer : Result Took Fault → Answer
    answer = claimed_answer (get (shape_of s) cpu (claimed (shape_of s) q t i k)) (next_child (shape_of s) cpu q (Place.Own t) i k)

    child_told : Makes (zone h w c ts p) (Record.Get cpu (Taking.Child q (Place.Own t) i k)) (answer x) (zone h w m ts p)
    child_told = child_step o q (Place.Own t) i k b (claim_made (shape_of s) cpu t i k c q e refl)

    abbrev Search : Ran
    Search = follow step (fuel - n) n (get (shape_of s) cpu (Taking.Child q (Place.Own t) i k)) (zone h w c ts p)

    pub child_taken : {y : Ran} → x ≡ Ok Took.Taken → y ≡ follow step (fuel - (n + 1)) (n + 1) (get (shape_of s) cpu (claimed (shape_of s) q t i k)) (zone h w m ts p) → y ≡ Search
    child_taken r f = f ∙ goes fuel n _ _ child_told l (ap answer r)

    pub child_stands : {u : Fault} → x ≡ Err u → went_to step fuel (Way.Goes (Record.Get cpu (Taking.Child q (Place.Own t) i k)) n) (zone h w m ts p) ≡ Search
    child_stands {u} r = still fuel n _ _ child_told (rw r (fault_refused u))

    module _ {d : ℕ} (r : x ≡ Ok Took.Passed) (f : Turned d) where
      pub search_fails : d ≡ i → went_to step fuel (Way.Goes (Record.Get cpu (Taking.Fail q (Place.Own t))) (n + 1)) (zone h w m ts p) ≡ Search
      unfolding went_to
      search_fails z = goes fuel n _ _ child_told l (ap answer r ∙ (f.next ∙ pick_yes _ _ _ (eq-eqb d i z)))

      pub search_goes : (d ≡ i → ⊥) → follow step (fuel - (n + 1)) (n + 1) (get (shape_of s) cpu (Taking.Child q (Place.Own t) i d)) (zone h w m ts p) ≡ Search
      search_goes z = goes fuel n _ _ child_told l (ap answer r ∙ (f.next ∙ pick_no _ _ _ (ne_eqb d i z)))
