-- The stages on words, from what the lower level says of a tree's part.
use mathlib.Core.Path.{◌≡◌, refl, sym, ◌∙◌}
use mathlib.Core.Bool.{Bool, true, false}
use mathlib.Core.List.{List}
use Prim.Native.Nat.{ℕ, suc, ◌+◌, ◌*◌, ◌/◌, ◌≤◌, ◌<◌}
use native.Mathlib.Numerals.{add-one}
use native.Mathlib.Omega.{arith}
use Rattle.std.specs.Prelude.{Option, Some, None, Result, Ok, Err}
use lib.Dec.{ltb}
use lib.ListN.{length}
use borrow.Author.Tests.{le-leb, ltb-true, ltb-false, lt-ltb, le-ltb}
use Rattle.laws.specs.Tests.{pick, passes}
use Rattle.laws.specs.Tables.{Outcome, outcome, wrapped}
use Rattle.laws.proofs.Tests.{pick_elim, pick_yes, pick_no, true_false, all_passed}
use Rattle.rules.specs.Numbers.{Shape, per_tree, children_of}
use Rattle.rules.specs.Blocks.{run_size, bit_of, tree_of_block, child_of_block, frame_at}
use Rattle.rules.specs.Ranges.{block_in}
use Rattle.rules.specs.Places.{place_tree}
use Rattle.rules.specs.Take.{get, search_word, take}
use Rattle.rules.specs.Lower.{Lowered, take_run, clear_run}
use Rattle.rules.specs.Plan.{Mark, plain, takes, Made, by_bit, lowered, on_gave}
use Rattle.rules.proofs.Sizes.{bit_ends}
use Rattle.lower.specs.Tables.{step_at}
use Rattle.lower.specs.Steps.{take_run_in, clear_run_in}
use Rattle.places.specs.Shapes.{block_at_in, ranged}
use Rattle.places.specs.declared.BlockAt.{BlockAt}
use Rattle.lending.specs.Tables.{lent, made_in}
use Rattle.lending.specs.Answers.{given_answer}
use Rattle.lending.proofs.Lending.{answered, lent_refused, lent_made, run_same, block_there}
use Rattle.word_stages.specs.Types.{Frame, Run, Block, Place, Taking, Fault, Answer}
use Rattle.word_stages.specs.Tables.{lent_words, in_words, eighth}
use Rattle.word_stages.specs.Answers.{word_answer}

-- ---- the change is the lower level's, the answer is of what it said

word_same : (g : Shape) (cpu : ℕ) (r : Run) (p : Place) (s c w x : ℕ) → ((take_run (run_size r) x).change ≡ (search_word g cpu r p s c w x).change) × (word_answer g cpu r p s c w (Ok (take_run (run_size r) x).said) ≡ (search_word g cpu r p s c w x).answer)
unfolding search_word by_bit
word_same g cpu r p s c w x = go (take_run (run_size r) x) (take_run (run_size r) x).said
  where
    go : (o : Lowered (Option ℕ)) (y : Option ℕ) → let m : Made ℕ = by_bit y (λ b. lowered o (word_answer g cpu r p s c w (Ok (Some b))) (takes (Block.Run r (frame_at g (place_tree p) c w b)))) (lowered o (word_answer g cpu r p s c w (Ok None)) plain) in (o.change ≡ m.change) × (word_answer g cpu r p s c w (Ok y) ≡ m.answer)
    go o (Some b) = (refl, refl)
    go o None = (refl, refl)

-- ---- the next word

module _ (g : Shape) (cpu : ℕ) (r : Run) (p : Place) (s c w : ℕ) where
  pub full_next : w < 7 → get g cpu (Taking.Word r p s c (w + 1)) ≡ word_answer g cpu r p s c w (Ok None)
  full_next h = rw (add-one w) (sym (pick_yes _ _ _ (lt-ltb (suc w) 8 (omega arith))))

  pub full_last : 7 ≤ w → get g cpu (Taking.GiveBack r p s c) ≡ word_answer g cpu r p s c w (Ok None)
  full_last h = sym (pick_no _ _ _ (le-ltb (suc w) 8 (omega arith)))

-- ---- steps on a word

-- a part of n fields has word w of field c where it has field c
field_word : (c w n k : ℕ) → w < 8 → k ≡ 8 * n → ltb c (k / 8) ≡ ltb (8 * c + w) (8 * n)
field_word c w n k h e = go (ltb (8 * c + w) (8 * n)) refl
  where
    go : (b : Bool) → ltb (8 * c + w) (8 * n) ≡ b → ltb c (k / 8) ≡ b
    go true t = lt-ltb c (k / 8) (omega (arith, ltb-true (8 * c + w) (8 * n) t))
    go false t = le-ltb c (k / 8) (omega (arith, ltb-false (8 * c + w) (8 * n) t))

take_run_at : (k c w n : ℕ) (v : List ℕ) → w < 8 → length v ≡ 8 * n → take_run_in k v c w ≡ pick (ltb (8 * c + w) (8 * n)) (wrapped Ok (step_at (take_run k) v (8 * c + w))) (outcome (Err Fault.NoChild) v)
unfolding take_run_in pick
take_run_at k c w n v h e = rw (lt-ltb w 8 h, field_word c w n (length v) h e)

clear_run_at : (s c w b n : ℕ) (v : List ℕ) → w < 8 → b + s ≤ 64 → length v ≡ 8 * n → clear_run_in s v c w b ≡ pick (ltb (8 * c + w) (8 * n)) ((step_at (clear_run s b) v (8 * c + w))) (outcome (Err Fault.NoChild) v)
unfolding clear_run_in pick
clear_run_at s c w b n v h k e = rw (lt-ltb w 8 h, le-leb (b + s) 64 k, field_word c w n (length v) h e)

-- a word past the eighth answers 11
module _ (g : Shape) (cpu : ℕ) (r : Run) (p : Place) (b c w : ℕ) where
  word_past : (v : List ℕ) → 8 ≤ w → wrapped (word_answer g cpu r p b c w) (take_run_in (run_size r) v c w) ≡ outcome Answer.BadRecord v
  unfolding take_run_in pick
  word_past v h = rw (le-ltb w 8 h) (pick_elim (λ y. wrapped (word_answer g cpu r p b c w) y ≡ outcome Answer.BadRecord v) (ltb c (length v / 8)) (λ t. refl) (λ t. refl))

  pub word_made : (l : List ℕ) {s : Result (Option ℕ) Fault} {m : List ℕ} {a : Answer} → outcome s m ≡ lent_words g (place_tree p) (Err Fault.NoChild) (λ v. take_run_in (run_size r) v c w) l → a ≡ word_answer g cpu r p b c w s → outcome a m ≡ eighth w (in_words g (take g cpu (Taking.Word r p b c w))) l
  unfolding in_words take eighth
  word_made l d e =
      answered (word_answer g cpu r p b c w) d e
      ∙ pick_elim (λ y. wrapped (word_answer g cpu r p b c w) (lent_words g (place_tree p) (Err Fault.NoChild) (λ v. take_run_in (run_size r) v c w) l) ≡ y) (ltb w 8)
      (λ t. lent_made (Err Fault.NoChild) (word_answer g cpu r p b c w) refl _ _ (λ v. take_run_in (run_size r) v c w) l Ok (take_run (run_size r)) (search_word g cpu r p b c w) (word_same g cpu r p b c w) (8 * c + w) (take_run_at (run_size r) c w _ _ (ltb-true w 8 t)))
      (λ t. lent_refused (Err Fault.NoChild) (word_answer g cpu r p b c w) refl _ _ (λ v. take_run_in (run_size r) v c w) l (word_past _ (ltb-false w 8 t)))

cleared_made : (z a n c w b : ℕ) (l : List ℕ) (x : Answer) (q : Mark) {s : Result Unit Fault} {m : List ℕ} {r : Answer} → w < 8 → b + z ≤ 64 → outcome s m ≡ lent (Err Fault.NoChild) a (8 * n) (λ v. clear_run_in z v c w b) l → r ≡ given_answer x s → outcome r m ≡ made_in a (8 * n) (8 * c + w) (λ v. on_gave (clear_run z b v) x q) l
cleared_made z a n c w b l x q h k d e =
    answered (given_answer x) d e
    ∙ lent_made (Err Fault.NoChild) (given_answer x) refl a (8 * n) (λ v. clear_run_in z v c w b) l (λ s. s) (clear_run z b) _ (λ v. run_same x q z b v) (8 * c + w) (clear_run_at z c w b n _ h k)

-- ---- a block's word

-- a run that the zone has ends in its word
pub run_fits : (g : Shape) (v : Run) (f : Frame) {r : Option BlockAt} {at : BlockAt} → r ≡ block_at_in g (Block.Run v f) → r ≡ Some at → bit_of f + run_size v ≤ 64
unfolding block_at_in pick
run_fits g v f {r} {at} e q = go (passes (block_in g (Block.Run v f))) refl e
  where
    go : (b : Bool) → passes (block_in g (Block.Run v f)) ≡ b → r ≡ pick b (Some (record { tree = tree_of_block g (Block.Run v f); child = child_of_block g (Block.Run v f) })) None → bit_of f + run_size v ≤ 64
    go true p x = bit_ends v f.0 (all_passed (block_in g (Block.Run v f)) p).1.0
    go false p x = true_false (cc)

module _ (g : Shape) (l : List ℕ) (b : Block) (f : List ℕ → Outcome Answer) {r : Option BlockAt} {at : BlockAt} (e : r ≡ block_at_in g b) (q : r ≡ Some at) {s : Result Unit Fault} {m : List ℕ} {a : Answer} (x : Answer) (k : Mark) (z : a ≡ given_answer x s) where
  -- a run of the block's words cleared
  pub cleared_there : (y i : ℕ) {w : ℕ} → w < 8 → i + y ≤ 64 → outcome s m ≡ lent_words g at.tree (Err Fault.NoChild) (λ v. clear_run_in y v at.child w i) l → made_in (8 * ((tree_of_block g b).0 * per_tree g)) (8 * children_of g (tree_of_block g b).0) (8 * child_of_block g b + w) (λ v. on_gave (clear_run y i v) x k) l ≡ f l → outcome a m ≡ ranged g b f l
  cleared_there y i {w} h j d = block_there g b f l e (λ t c. made_in (8 * (t.0 * per_tree g)) (8 * children_of g t.0) (8 * c + w) (λ v. on_gave (clear_run y i v) x k) l) q (cleared_made y _ _ _ w i l x k h j d z)
