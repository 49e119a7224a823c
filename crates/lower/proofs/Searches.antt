-- The plain search turn by turn: its definition unfolded once at each kind of turn, and the invariants of its two loops.
use Rattle.std.specs.Prelude.{Option, Some, None, Result, Ok, Err}
use mathlib.Core.Path.{◌≡◌, refl, sym, ap, ◌∙◌}
use mathlib.Core.List.{List}
use Prim.Native.Nat.{ℕ, suc, ◌+◌, ◌-◌, ◌*◌, ◌/◌, ◌≤◌, ◌<◌}
use native.Mathlib.Nat.{sub-zero}
use native.Mathlib.Numerals.{add-one}
use native.Mathlib.Omega.{arith}
use lib.Dec.{eqb}
use lib.ListN.{length}
use borrow.Author.Tests.{lt-ltb, le-ltb, lt-leb, le-leb, eq-eqb, ne_eqb, eqb-false}
use Rattle.laws.specs.Tables.{Outcome, outcome}
use Rattle.laws.proofs.Tests.{pick_elim, pick_yes, pick_no}
use Rattle.rules.specs.Conversions.{frame}
use Rattle.rules.specs.Lower.{keep, Lowered, child_says, claim, give_count, take_run}
use Rattle.rules.specs.Plan.{by_took, by_bit}
use Rattle.rules.proofs.Guards.{child_elim}
use Rattle.lower.specs.Types.{Frame, Took, Fault}
use Rattle.lower.specs.Tables.{step_at}
use Rattle.lower.specs.Steps.{claim_in, give_in}
use Rattle.lower.specs.Search.{Search, search, search_words, next_of, search_from, search_in}
use Rattle.lower.proofs.Tables.{step_there, step_length, step_kept}

-- an entry that is not claimed stays as it was, and so does a word without a free run
claim_keeps : (s x : ℕ) → ((claim s x).said ≡ Ok Took.Taken → ⊥) → (claim s x).change ≡ keep
unfolding claim
claim_keeps s x =
    let Q : Lowered (Result Took Fault) → Type 0 = λ l. (l.said ≡ Ok Took.Taken → ⊥) → l.change ≡ keep in
    child_elim Q (child_says x) (λ e h. refl) (λ k e. pick_elim Q _ (λ b h. absurd (h refl)) (λ b h. refl)) (λ e h. refl)

run_keeps : (s w : ℕ) → (take_run s w).said ≡ None → (take_run s w).change ≡ keep
unfolding take_run
run_keeps s w = pick_elim (λ (l : Lowered (Option ℕ)). l.said ≡ None → l.change ≡ keep) _ (λ b e. let z : ◌≡◌ {A = ℕ} 0 1 = cc in absurd (omega arith)) (λ b e. refl)

-- ---- the turn of child c, by what its claim says

-- a claim is refused at a malformed child alone
claim_fault : (s x : ℕ) {f : Fault} → (claim s x).said ≡ Err f → f ≡ Fault.Damaged
unfolding claim
claim_fault s x {f} =
    let Q : Lowered (Result Took Fault) → Type 0 = λ l. l.said ≡ Err f → f ≡ Fault.Damaged in
    child_elim Q (child_says x) (λ e h. cc) (λ k e. pick_elim Q _ (λ b h. absurd cc) (λ b h. absurd cc)) (λ e h. absurd cc)

module _ (s : ℕ) (cs ws : List ℕ) (c d : ℕ) {a : Result Took Fault} {m : List ℕ} (e : outcome a m ≡ step_at (claim s) cs c) where
  claim_kept : (a ≡ Ok Took.Taken → ⊥) → m ≡ cs
  claim_kept h = step_kept (claim s) cs c e (λ q. claim_keeps s _ (λ p. h (sym q ∙ p)))

  turn : search_from s (suc d) cs ws c ≡ by_took a (search_words s 8 m ws c 0 (search_from s d (step_at (give_count s) m c).table ws (next_of (length cs) c))) (search_from s d cs ws (next_of (length cs) c)) (search (Err Fault.Damaged) cs ws)
  unfolding search_from
  turn = rw (← e) refl

  turn_taken : a ≡ Ok Took.Taken → search_from s (suc d) cs ws c ≡ search_words s 8 m ws c 0 (search_from s d (step_at (give_count s) m c).table ws (next_of (length cs) c))
  unfolding by_took
  turn_taken p = turn ∙ rw p refl

  turn_passed : a ≡ Ok Took.Passed → search_from s (suc d) cs ws c ≡ search_from s d m ws (next_of (length cs) c)
  unfolding by_took
  turn_passed p = turn ∙ rw (p, claim_kept (λ q. absurd cc)) refl

  turn_refused : {f : Fault} → a ≡ Err f → search_from s (suc d) cs ws c ≡ search (Err f) m ws
  unfolding by_took step_at
  turn_refused p = turn ∙ rw (p, claim_kept (λ q. absurd cc), claim_fault s _ (sym (ap (λ (o : Outcome (Result Took Fault)). o.said) e) ∙ p)) refl

-- ---- word w of child c, by what its taking says

module _ (s : ℕ) (cs ws : List ℕ) (c w : ℕ) {b : Option ℕ} {vs : List ℕ} (e : outcome b vs ≡ step_at (take_run s) ws (8 * c + w)) where
  word_kept : b ≡ None → vs ≡ ws
  word_kept p = step_kept (take_run s) ws (8 * c + w) e (λ q. run_keeps s _ (q ∙ p))

  word : (d : ℕ) (after : Search) → search_words s (suc d) cs ws c w after ≡ by_bit b (λ k. search (Ok (Some (frame (512 * c + (64 * w + k))))) cs vs) (search_words s d cs ws c (suc w) after)
  unfolding search_words
  word d after = rw (← e) refl

  word_found : (d : ℕ) {k : ℕ} (f : Frame) → b ≡ Some k → f.0 ≡ 512 * c + (64 * w + k) → (after : Search) → search_words s (suc d) cs ws c w after ≡ search (Ok (Some f)) cs vs
  unfolding by_bit
  word_found d f p q after = word d after ∙ rw (p, ← q) refl

  word_full : (d : ℕ) → b ≡ None → (after : Search) → search_words s (suc d) cs ws c w after ≡ search_words s d cs vs c (w + 1) after
  unfolding by_bit
  word_full d p after = word d after ∙ rw (p, word_kept p, add-one) refl

words_end : (s : ℕ) (cs ws : List ℕ) (c w : ℕ) (after : Search) → search_words s 0 cs ws c w after ≡ after
unfolding search_words
words_end s cs ws c w after = refl

-- ---- the whole search

module _ (s : ℕ) (cs ws : List ℕ) (c : ℕ) where
  search_end : search_from s 0 cs ws c ≡ search (Ok None) cs ws
  unfolding search_from
  search_end = refl

  pub search_too_many : 65536 < length cs → search (Err Fault.TooMany) cs ws ≡ search_in s cs ws c
  unfolding search_in
  search_too_many k = sym (pick_no _ _ _ (lt-leb (length cs) 65536 k))

  module _ (k : length cs ≤ 65536) where
    pub search_no_child : length cs ≤ c → search (Err Fault.NoChild) cs ws ≡ search_in s cs ws c
    unfolding search_in
    search_no_child h = sym (pick_yes _ _ _ (le-leb (length cs) 65536 k) ∙ pick_no _ _ _ (le-ltb c (length cs) h))

    pub search_no_field : c < length cs → length ws / 8 < length cs → search (Err Fault.NoField) cs ws ≡ search_in s cs ws c
    unfolding search_in
    search_no_field h l = sym (pick_yes _ _ _ (le-leb (length cs) 65536 k) ∙ pick_yes _ _ _ (lt-ltb c (length cs) h) ∙ pick_no _ _ _ (lt-leb (length cs) (length ws / 8) l))

    search_whole : c < length cs → length cs ≤ length ws / 8 → search_from s (length cs) cs ws c ≡ search_in s cs ws c
    unfolding search_in
    search_whole h l = sym (pick_yes _ _ _ (le-leb (length cs) 65536 k) ∙ pick_yes _ _ _ (lt-ltb c (length cs) h) ∙ pick_yes _ _ _ (le-leb (length cs) (length ws / 8) l))

-- ---- the next child

pub next_wraps : (n c x : ℕ) → c + 1 ≡ n → x ≡ 0 → x ≡ next_of n c
next_wraps n c x h e = e ∙ sym (pick_yes _ _ _ (eq-eqb (suc c) n (omega arith)))

pub next_follows : (n c x : ℕ) → (c + 1 ≡ n → ⊥) → x ≡ c + 1 → x ≡ next_of n c
next_follows n c x h e = e ∙ omega arith ∙ sym (pick_no _ _ _ (ne_eqb (suc c) n (omega arith)))

next_below : (n c : ℕ) → c < n → next_of n c < n
next_below n c h = pick_elim (λ x. x < n) (eqb (suc c) n) (λ b. omega arith) (λ b. omega (arith, eqb-false (suc c) n b))

-- ---- the loop over a child's words: those passed had no free run, so what is left is all of them, whatever follows

pub record Words (s : ℕ) (cs ws₀ : List ℕ) (found₀ : Option Frame) (c : ℕ) (ws : List ℕ) (found : Option Frame) (w : ℕ) : Type 0 where
  pub same_words : ws ≡ ws₀
  pub none_yet : found ≡ found₀
  pub left : (after : Search) → search_words s 8 cs ws₀ c 0 after ≡ search_words s (8 - w) cs ws c w after

pub words_start : (s : ℕ) (cs ws : List ℕ) (found : Option Frame) (c : ℕ) → Words s cs ws found c ws found 0
words_start s cs ws found c = record { same_words = refl; none_yet = refl; left = λ after. refl }

module _ {s : ℕ} {cs ws₀ ws vs : List ℕ} {found₀ found : Option Frame} {c w : ℕ} {b : Option ℕ} (i : Words s cs ws₀ found₀ c ws found w) (h : w < 8) (e : outcome b vs ≡ step_at (take_run s) ws (8 * c + w)) where
  one_less : 8 - w ≡ suc (8 - (w + 1))
  one_less = omega arith

  pub words_full : b ≡ None → Words s cs ws₀ found₀ c vs found (w + 1)
  words_full p = record {
    same_words = word_kept s cs ws c w e p ∙ i.same_words;
    none_yet = i.none_yet;
    left = λ after. i.left after ∙ rw one_less (word_full s cs ws c w e _ p after);
  }

  words_found : {k : ℕ} (f : Frame) → b ≡ Some k → f.0 ≡ 512 * c + (64 * w + k) → (after : Search) → search_words s 8 cs ws₀ c 0 after ≡ search (Ok (Some f)) cs vs
  words_found f p q after = i.left after ∙ rw one_less (word_found s cs ws c w e _ f p q after)

-- ---- the loop over the children: those passed gave nothing, so what is left is the whole search

pub record Turns (s : ℕ) (cs₀ ws₀ : List ℕ) (start n : ℕ) (cs ws : List ℕ) (found : Option Frame) (c t : ℕ) : Type 0 where
  pub none_yet : found ≡ None
  pub all : length cs ≡ n
  pub words_all : length ws ≡ length ws₀
  pub fields : n ≤ length ws / 8
  pub below : c < n
  pub left : search_from s (n - t) cs ws c ≡ search_in s cs₀ ws₀ start

pub turns_start : (s : ℕ) (cs ws : List ℕ) (c : ℕ) → length cs ≤ 65536 → c < length cs → length cs ≤ length ws / 8 → Turns s cs ws c (length cs) cs ws None c 0
turns_start s cs ws c l h k = record { none_yet = refl; all = refl; words_all = refl; fields = k; below = h; left = rw sub-zero (search_whole s cs ws c l h k) }

module _ {s : ℕ} {cs₀ ws₀ cs ws : List ℕ} {start n c t : ℕ} {found : Option Frame} (i : Turns s cs₀ ws₀ start n cs ws found c t) where
  pub turns_end : n ≤ t → search (Ok found) cs ws ≡ search_in s cs₀ ws₀ start
  turns_end h =
      let z : n - t ≡ 0 = omega arith in
      rw (i.none_yet, ← search_end s cs ws c, ← z) i.left

  module _ (h : t < n) where
    -- a turn on: what the search is at this turn, and the next child
    turned_to : (r : Search) → search_from s (suc (n - (t + 1))) cs ws c ≡ r → r ≡ search_in s cs₀ ws₀ start
    turned_to r q =
        let z : n - t ≡ suc (n - (t + 1)) = omega arith in
        sym q ∙ rw z at i.left

    next_turn : {ks vs : List ℕ} {g : Option Frame} → g ≡ found → length ks ≡ length cs → vs ≡ ws → search_from s (suc (n - (t + 1))) cs ws c ≡ search_from s (n - (t + 1)) ks vs (next_of (length cs) c)
        → Turns s cs₀ ws₀ start n ks vs g (next_of n c) (t + 1)
    next_turn p k q r = record {
      none_yet = p ∙ i.none_yet;
      all = k ∙ i.all;
      words_all = ap length q ∙ i.words_all;
      fields = omega (arith, ap length q);
      below = next_below n c i.below;
      left = turned_to _ (rw i.all at r);
    }

    -- child c claimed, by the size as the code has it
    module _ {size : ℕ} (is : size ≡ s) {a : Result Took Fault} {m : List ℕ} (claimed : outcome a m ≡ claim_in size cs c) where
      e : outcome a m ≡ step_at (claim s) cs c
      e = step_there (claim s) cs c (Err Fault.NoChild) (omega (arith, i.all, i.below)) (rw is at claimed)

      pub turns_refused : {f : Fault} → a ≡ Err f → search (Err f) m ws ≡ search_in s cs₀ ws₀ start
      turns_refused p = turned_to _ (turn_refused s cs ws c _ e p)

      pub turns_passed : a ≡ Ok Took.Passed → Turns s cs₀ ws₀ start n m ws found (next_of n c) (t + 1)
      turns_passed p = next_turn refl (step_length (claim s) cs c e) refl (turn_passed s cs ws c _ e p)

      module _ (p : a ≡ Ok Took.Taken) {vs : List ℕ} {g : Option Frame} {w : ℕ} (j : Words s m ws found c vs g w) where
        pub turns_found : w < 8 → {b : Option ℕ} {us : List ℕ} → outcome b us ≡ step_at (take_run s) vs (8 * c + w) → {k : ℕ} (f : Frame) → b ≡ Some k → f.0 ≡ 512 * c + (64 * w + k)
            → search (Ok (Some f)) m us ≡ search_in s cs₀ ws₀ start
        turns_found l x f q r = turned_to _ (turn_taken s cs ws c _ e p ∙ words_found j l x f q r _)

        pub turns_given : 8 ≤ w → {o : Result Unit Fault} {ks : List ℕ} → outcome o ks ≡ give_in size m c → Turns s cs₀ ws₀ start n ks vs g (next_of n c) (t + 1)
        turns_given l given =
            let x = step_there (give_count s) m c (Err Fault.NoChild) (omega (arith, i.all, i.below, step_length (claim s) cs c e)) (rw is at given) in
            let z : 8 - w ≡ 0 = omega arith in
            next_turn j.none_yet (step_length (give_count s) m c x ∙ step_length (claim s) cs c e) j.same_words
            (turn_taken s cs ws c _ e p ∙ j.left _ ∙ rw (z, words_end, ← x, j.same_words) refl)

-- ---- two results that the search's contract permits are equal
pub same_search : (o : Search) (f g : Result (Option Frame) Fault) (cs ds ws vs : List ℕ) → search f cs ws ≡ o → search g ds vs ≡ o → (f ≡ g) × (cs ≡ ds) × (ws ≡ vs)
same_search o f g cs ds ws vs p q = (ap (λ (x : Search). x.found) (p ∙ sym q), ap (λ (x : Search). x.children) (p ∙ sym q), ap (λ (x : Search). x.words) (p ∙ sym q))
