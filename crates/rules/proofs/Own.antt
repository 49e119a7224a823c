-- The lower level's invariant: words and children agree with what is owned and with what is under way. It knows no CPU and no record.
use Rattle.std.specs.Prelude.{Some}
use mathlib.Core.Path.{◌≡◌, refl, sym, ap, ◌∙◌}
use mathlib.Core.Logic.{◌≢◌}
use mathlib.Core.Bool.{true, false}
use mathlib.Core.List.{List}
use Prim.Native.Nat.{ℕ, suc, ◌+◌, ◌-◌, ◌*◌, ◌/◌, ◌%◌, ◌^◌, ◌≤◌, ◌<◌}
use native.Mathlib.Omega.{arith}
use native.Mathlib.Nat.{add-zero}
use lib.ListN.{length, get_or, set, length-set}
use Rattle.laws.specs.Tests.{pick}
use Rattle.laws.specs.Sum.{sum_to, run, at}
use Rattle.laws.specs.Words.{bit, bits, ones}
use Rattle.laws.proofs.Tests.{pick_elim, pick_yes, pick_no}
use Rattle.laws.proofs.Sum.{placed, here, elsewhere, at_same, at_other, sum_ext, sum_zero}
use Rattle.laws.proofs.Words.{bit_le}
use Rattle.rules.specs.Types.{ChildEntry}
use Rattle.rules.specs.Numbers.{child_frames, child_words, word_bits}
use Rattle.rules.specs.Lower.{child_says, count_word, flagged_word, well_formed, is_flagged, count_in, zero_bits}
use Rattle.rules.proofs.Layouts.{count_again, flagged_again}
use Rattle.rules.proofs.Created.{all_set}
use Rattle.rules.proofs.Fields.{counts_entry, flagged_entry, counts, flagged, says, zero_bits_lem, zero_frames, empty_bit, bits_set, bits_clear, frames_set, zeros_lost}

-- ---- what the tables say: a child's flag and its free frames, a frame's bit
abbrev pub flag_of_lem : List ℕ → ℕ → ℕ
flag_of_lem cs c = pick (is_flagged (get_or cs c 0)) 1 0

unfoldable pub free_of : List ℕ → List ℕ → ℕ → ℕ
free_of cs ws c = pick (is_flagged (get_or cs c 0)) 0 (zero_bits ws c)

abbrev pub bit_at : List ℕ → ℕ → ℕ
bit_at ws f = bit (f % word_bits) (get_or ws (f / word_bits) 0)

-- ---- low c: zero bits of child c that its count leaves out; base f: owners of frame f; whole c: owners of child c as a whole
pub record Owned (n : ℕ) (cs ws : List ℕ) (low base whole : ℕ → ℕ) : Type 0 where
  pub children : length cs ≡ n
  pub words : length ws ≡ child_words * n
  -- no child breaks its layout
  pub formed : (c : ℕ) → c < n → well_formed (get_or cs c 0) ≡ true
  -- a count and what is under way below it are the free frames
  pub counts : (c : ℕ) → c < n → count_in (get_or cs c 0) + low c ≡ free_of cs ws c
  -- a flag stands over an empty field
  pub empty : (c : ℕ) → c < n → flag_of_lem cs c ≡ 1 → zero_bits ws c ≡ child_frames
  -- a bit is set for one owner, and so is a flag
  pub bits : (f : ℕ) → f < child_frames * n → bit_at ws f ≡ base f
  pub flags : (c : ℕ) → c < n → flag_of_lem cs c ≡ whole c

-- ---- one child, by what its entry x says: over a field with z zero bits, l of them under way, and w owners of the child as a whole
data Child (x z l w : ℕ) : Type 0 where
  counted : (k : ℕ) → child_says x ≡ Some (ChildEntry.Counts k) → k + l ≡ z → w ≡ 0 → Child x z l w
  taken : child_says x ≡ Some ChildEntry.Flagged → l ≡ 0 → z ≡ child_frames → w ≡ 1 → Child x z l w

known : {x z l w : ℕ} → Child x z l w → (well_formed x ≡ true) × (count_in x + l ≡ pick (is_flagged x) 0 z) × (pick {A = ℕ} (is_flagged x) 1 0 ≡ 1 → z ≡ child_frames) × (pick (is_flagged x) 1 0 ≡ w)
unfolding pick
known {x} (counted k e p q) = let f = counts_entry x k e in rw (f.0, f.1, f.2) (refl, p, λ r. absurd (omega arith), sym q)
known {x} (taken e p q r) = let f = flagged_entry x e in rw (f.0, f.1, f.2) (refl, omega arith, λ m. q, sym r)

-- zero bits come and go with what is under way
moved : {x z l w z' l' : ℕ} → Child x z l w → z' ≤ child_frames → z' + l ≡ z + l' → Child x z' l' w
moved (counted k e p q) h m = counted k e (omega arith) q
moved (taken e p q r) h m = taken e (omega arith) (omega arith) r

owned : (n : ℕ) (cs ws : List ℕ) (low base whole : ℕ → ℕ) → length cs ≡ n → length ws ≡ child_words * n
    → ((c : ℕ) → c < n → Child (get_or cs c 0) (zero_bits ws c) (low c) (whole c)) → ((f : ℕ) → f < child_frames * n → bit_at ws f ≡ base f) → Owned n cs ws low base whole
unfolding free_of
owned n cs ws low base whole a b k q = record { children = a; words = b; formed = λ c h. (known (k c h)).0; counts = λ c h. (known (k c h)).1; empty = λ c h. (known (k c h)).2; bits = q; flags = λ c h. (known (k c h)).3 }

-- child c's field loses d zero bits, and c has no flag
field_free : (cs ws ws' : List ℕ) (c d : ℕ) → is_flagged (get_or cs c 0) ≡ false → ((x : ℕ) → zero_bits ws' x + at c d x ≡ zero_bits ws x) → (x : ℕ) → free_of cs ws' x + at c d x ≡ free_of cs ws x
unfolding free_of pick
field_free cs ws ws' c d e q x = elim (placed c d x) [
  | here p r ↦ rw (← p, e) (q c)
  | elsewhere p r ↦ rw r (omega (arith, ap (λ z. pick (is_flagged (get_or cs x 0)) 0 z) (rw (r, add-zero) at (q x))))
]

-- the same tables, with sums that come to the same
pub owned_same : (n : ℕ) (cs ws : List ℕ) (low base whole : ℕ → ℕ) → Owned n cs ws low base whole → (low' base' whole' : ℕ → ℕ)
    → ((x : ℕ) → low' x ≡ low x) → ((f : ℕ) → base' f ≡ base f) → ((c : ℕ) → whole' c ≡ whole c) → Owned n cs ws low' base' whole'
owned_same n cs ws low base whole o low' base' whole' p q r = record {
  children = o.children;
  words = o.words;
  formed = o.formed;
  counts = λ c h. ap (λ x. count_in (get_or cs c 0) + x) (p c) ∙ o.counts c h;
  empty = o.empty;
  bits = λ f h. o.bits f h ∙ sym (q f);
  flags = λ c h. o.flags c h ∙ sym (r c);
}

module _ (n : ℕ) (cs ws : List ℕ) (low base whole : ℕ → ℕ) (o : Owned n cs ws low base whole) where
  -- ---- what a child's entry tells
  when_counts : (c k : ℕ) → c < n → child_says (get_or cs c 0) ≡ Some (ChildEntry.Counts k) → (k + low c ≡ zero_bits ws c) × (whole c ≡ 0)
  unfolding free_of pick
  when_counts c k h e = let f = counts_entry _ k e in (rw (f.1, f.2) at (o.counts c h), sym (rw f.1 at (o.flags c h)))

  when_flagged : (c : ℕ) → c < n → child_says (get_or cs c 0) ≡ Some ChildEntry.Flagged → (low c ≡ 0) × (zero_bits ws c ≡ child_frames) × (whole c ≡ 1)
  unfolding free_of pick
  when_flagged c h e = let f = flagged_entry _ e in (omega (arith, rw (f.1, f.2) at (o.counts c h)), o.empty c h (rw f.1 refl), sym (rw f.1 at (o.flags c h)))

  child : (c : ℕ) → c < n → Child (get_or cs c 0) (zero_bits ws c) (low c) (whole c)
  child c h = elim (says _ (o.formed c h)) [
    | counts k e ↦ let p = when_counts c k h e in counted k e p.0 p.1
    | flagged e ↦ let p = when_flagged c h e in taken e p.0 p.1 p.2
  ]

  unflagged : (c : ℕ) → c < n → (low c ≡ 0 → zero_bits ws c ≡ child_frames → ⊥) → is_flagged (get_or cs c 0) ≡ false
  unflagged c h f = elim (child c h) [
    | counted k e p q ↦ (counts_entry _ k e).1
    | taken e p q r ↦ absurd (f p q)
  ]

  -- ---- a store of a child, and of a word
  child_stored : (c v : ℕ) (low' whole' : ℕ → ℕ) → c < n → Child v (zero_bits ws c) (low' c) (whole' c) → ((x : ℕ) → c ≢ x → (low x ≡ low' x) × (whole x ≡ whole' x)) → Owned n (set cs c v) ws low' base whole'
  child_stored c v low' whole' h k e = owned n (set cs c v) ws low' base whole' (length-set cs c v ∙ o.children) o.words
      (all_set (λ x y. Child y (zero_bits ws x) (low' x) (whole' x)) cs c v n (omega (arith, o.children)) k (λ x m q. let r = e x (λ p. q (sym p)) in rw (r.0, r.1) at (child x m)))
      o.bits

  word_stored : (p v : ℕ) (low' base' : ℕ → ℕ) → ((x : ℕ) → zero_bits (set ws p v) x + low x ≡ zero_bits ws x + low' x) → ((f : ℕ) → f < child_frames * n → bit_at (set ws p v) f ≡ base' f) → Owned n cs (set ws p v) low' base' whole
  word_stored p v low' base' e q = owned n cs (set ws p v) low' base' whole o.children (length-set ws p v ∙ o.words) (λ c h. moved (child c h) (zero_bits_lem (set ws p v) c) (e c)) q

  -- the free frames after a store of child c: of c, and of the others
  stored_free : (Q : ℕ → ℕ → Type 0) (c v : ℕ) → c < n → Q c (pick (is_flagged v) 0 (zero_bits ws c)) → ((x : ℕ) → c ≢ x → Q x (free_of cs ws x)) → (x : ℕ) → Q x (free_of (set cs c v) ws x)
  unfolding free_of
  stored_free Q c v h k q x = all_set (λ j y. Q j (pick (is_flagged y) 0 (zero_bits ws j))) cs c v (suc x) (omega (arith, o.children)) k (λ j m r. q j (λ p. r (sym p))) x (omega arith)

  word_in : (c i : ℕ) → c < n → i < child_words → child_words * c + i < length ws
  word_in c i h k = omega (arith, o.words)

  -- ---- one law for each kind of store

  -- a count changes, and what is under way with it: claim, give back, raise
  pub count_stored : (c k k' : ℕ) (low' : ℕ → ℕ) → c < n → child_says (get_or cs c 0) ≡ Some (ChildEntry.Counts k) → k' ≤ child_frames
      → ((x : ℕ) → low' x + at c k' x ≡ low x + at c k x) → Owned n (set cs c (count_word k')) ws low' base whole
  count_stored c k k' low' h e l q =
      let p = when_counts c k h e in
      child_stored c (count_word k') low' whole h
      (counted k' (count_again k' l) (omega (arith, q c, at_same c k, at_same c k')) p.1)
      (λ x m. (omega (arith, q x, at_other c k x m, at_other c k' x m), refl))

  -- a child wholly free becomes flagged: the taking store of a huge frame
  pub flag_stored : (c : ℕ) (whole' : ℕ → ℕ) → c < n → child_says (get_or cs c 0) ≡ Some (ChildEntry.Counts child_frames)
      → ((x : ℕ) → whole' x ≡ whole x + at c 1 x) → Owned n (set cs c flagged_word) ws low base whole'
  flag_stored c whole' h e q =
      let p = when_counts c child_frames h e in
      let z = zero_bits_lem ws c in
      child_stored c flagged_word low whole' h
      (taken flagged_again (omega arith) (omega arith) (omega (arith, q c, at_same c 1)))
      (λ x m. (refl, omega (arith, q x, at_other c 1 x m)))

  -- a flagged child becomes wholly free: the clearing store of a huge frame
  pub flag_cleared : (c : ℕ) (whole' : ℕ → ℕ) → c < n → child_says (get_or cs c 0) ≡ Some ChildEntry.Flagged
      → ((x : ℕ) → whole' x + at c 1 x ≡ whole x) → Owned n (set cs c (count_word child_frames)) ws low base whole'
  flag_cleared c whole' h e q =
      let p = when_flagged c h e in
      child_stored c (count_word child_frames) low whole' h
      (counted child_frames (count_again child_frames (omega arith)) (omega arith) (omega (arith, q c, at_same c 1)))
      (λ x m. (refl, omega (arith, q x, at_other c 1 x m)))

  -- s zero bits of word i of child c, under way there, are set: the taking store
  pub bits_stored : (c i s b : ℕ) (low' base' : ℕ → ℕ) → c < n → i < child_words → b + s ≤ word_bits → 0 < s → s ≤ low c → bits s b (get_or ws (child_words * c + i) 0) ≡ 0
      → ((x : ℕ) → low' x + at c s x ≡ low x) → ((f : ℕ) → base' f ≡ base f + run s (c * child_frames + i * word_bits + b) f)
      → Owned n cs (set ws (child_words * c + i) (get_or ws (child_words * c + i) 0 + ones s b)) low' base' whole
  bits_stored c i s b low' base' h k l s+ u e q r =
      let m = bits_set ws (child_words * c + i) s b (word_in c i h k) l e in
      word_stored (child_words * c + i) _ low' base'
      (λ x. omega (arith, zeros_lost c i s b ws _ k l m x, q x))
      (λ f j. omega (arith, frames_set c i s b ws _ k l m f, o.bits f j, r f))

  -- s set bits of word i of child c are cleared, and are under way there: the clearing store
  pub bits_cleared : (c i s b : ℕ) (low' base' : ℕ → ℕ) → c < n → i < child_words → b + s ≤ word_bits → 0 < s → bits s b (get_or ws (child_words * c + i) 0) ≡ 2 ^ s - 1
      → ((x : ℕ) → low' x ≡ low x + at c s x) → ((f : ℕ) → base' f + run s (c * child_frames + i * word_bits + b) f ≡ base f)
      → Owned n cs (set ws (child_words * c + i) (get_or ws (child_words * c + i) 0 - ones s b)) low' base' whole
  bits_cleared c i s b low' base' h k l s+ e q r =
      let m = bits_clear ws (child_words * c + i) s b (word_in c i h k) l e in
      word_stored (child_words * c + i) _ low' base'
      (λ x. omega (arith, zeros_lost c i s b _ ws k l m x, q x))
      (λ f j. omega (arith, frames_set c i s b _ ws k l m f, o.bits f j, r f))

  -- ---- what the stores do to the free frames of any child x
  pub count_free : (c k k' : ℕ) → c < n → child_says (get_or cs c 0) ≡ Some (ChildEntry.Counts k) → k' ≤ child_frames → (x : ℕ) → free_of (set cs c (count_word k')) ws x ≡ free_of cs ws x
  unfolding free_of
  count_free c k k' h e l = stored_free (λ x y. y ≡ free_of cs ws x) c (count_word k') h (rw ((counts_entry _ k e).1, (counts_entry _ k' (count_again k' l)).1)) (λ x m. refl)

  pub flag_free : (c : ℕ) → c < n → child_says (get_or cs c 0) ≡ Some (ChildEntry.Counts child_frames) → (x : ℕ) → free_of (set cs c flagged_word) ws x + at c child_frames x ≡ free_of cs ws x
  unfolding free_of pick
  flag_free c h e =
      let p = when_counts c child_frames h e in
      let z = zero_bits_lem ws c in
      stored_free (λ x y. y + at c child_frames x ≡ free_of cs ws x) c flagged_word h
      (rw ((counts_entry _ child_frames e).1, (flagged_entry _ flagged_again).1) (omega (arith, at_same c child_frames)))
      (λ x m. omega (arith, at_other c child_frames x m))

  pub unflag_free : (c : ℕ) → c < n → child_says (get_or cs c 0) ≡ Some ChildEntry.Flagged → (x : ℕ) → free_of (set cs c (count_word child_frames)) ws x ≡ free_of cs ws x + at c child_frames x
  unfolding free_of pick
  unflag_free c h e =
      let p = when_flagged c h e in
      stored_free (λ x y. y ≡ free_of cs ws x + at c child_frames x) c (count_word child_frames) h
      (rw ((flagged_entry _ e).1, (counts_entry _ child_frames (count_again child_frames (omega arith))).1) (omega (arith, at_same c child_frames)))
      (λ x m. omega (arith, at_other c child_frames x m))

  pub set_free : (c i s b : ℕ) → c < n → i < child_words → b + s ≤ word_bits → 0 < s → s ≤ low c → bits s b (get_or ws (child_words * c + i) 0) ≡ 0
      → (x : ℕ) → free_of cs (set ws (child_words * c + i) (get_or ws (child_words * c + i) 0 + ones s b)) x + at c s x ≡ free_of cs ws x
  set_free c i s b h k l s+ u e = field_free cs ws _ c s (unflagged c h (λ p q. omega arith)) (zeros_lost c i s b ws _ k l (bits_set ws (child_words * c + i) s b (word_in c i h k) l e))

  pub clear_free : (c i s b : ℕ) → c < n → i < child_words → b + s ≤ word_bits → 0 < s → bits s b (get_or ws (child_words * c + i) 0) ≡ 2 ^ s - 1
      → (x : ℕ) → free_of cs (set ws (child_words * c + i) (get_or ws (child_words * c + i) 0 - ones s b)) x ≡ free_of cs ws x + at c s x
  clear_free c i s b h k l s+ e x =
      let ws' : List ℕ = set ws (child_words * c + i) (get_or ws (child_words * c + i) 0 - ones s b) in
      let m = zeros_lost c i s b ws' ws k l (bits_clear ws (child_words * c + i) s b (word_in c i h k) l e) in
      sym (field_free cs ws' ws c s (unflagged c h (λ p q. omega (arith, m c, at_same c s, zero_bits_lem ws' c))) m x)

  -- ---- what follows
  pub free_most : (c : ℕ) → free_of cs ws c ≤ child_frames
  unfolding free_of
  free_most c = pick_elim (λ y. y ≤ child_frames) (is_flagged (get_or cs c 0)) (λ e. omega arith) (λ e. zero_bits_lem ws c)

  -- a flagged child has nobody under way, and a child with something under way is not flagged
  pub low_clear : (c : ℕ) → c < n → 0 < low c → (k : ℕ) × (child_says (get_or cs c 0) ≡ Some (ChildEntry.Counts k)) × (k + low c ≡ free_of cs ws c)
  unfolding free_of
  low_clear c h l = elim (child c h) [
    | counted k e p q ↦ (k, e, p ∙ sym (pick_no _ 0 (zero_bits ws c) (counts_entry _ k e).1))
    | taken e p q r ↦ absurd (omega arith)
  ]

  -- an owner's bit and flag are set
  pub base_bit : (f : ℕ) → f < child_frames * n → base f ≡ 1 → bit_at ws f ≡ 1
  base_bit f h e = o.bits f h ∙ e

  pub whole_flag : (c : ℕ) → c < n → whole c ≡ 1 → child_says (get_or cs c 0) ≡ Some ChildEntry.Flagged
  whole_flag c h e = elim (child c h) [
    | counted k f p q ↦ absurd (omega arith)
    | taken f p q r ↦ f
  ]

-- ---- after a cut: counts say nothing, until a recount
pub record Survived (n : ℕ) (cs ws : List ℕ) (base whole : ℕ → ℕ) : Type 0 where
  pub children : length cs ≡ n
  pub words : length ws ≡ child_words * n
  pub formed : (c : ℕ) → c < n → well_formed (get_or cs c 0) ≡ true
  pub empty : (c : ℕ) → c < n → flag_of_lem cs c ≡ 1 → zero_bits ws c ≡ child_frames
  pub bits : (f : ℕ) → f < child_frames * n → bit_at ws f ≡ base f
  pub flags : (c : ℕ) → c < n → flag_of_lem cs c ≡ whole c

module _ (n : ℕ) (cs ws : List ℕ) (base whole : ℕ → ℕ) (o : Survived n cs ws base whole) where
  -- a frame has one owner at most; a taken frame is an owned one
  pub taken_owned : (f : ℕ) → f < child_frames * n → pick (is_flagged (get_or cs (f / child_frames) 0)) 1 (bit_at ws f) ≡ base f + whole (f / child_frames)
  taken_owned f h =
      let c : ℕ = f / child_frames in
      let k : c < n = omega arith in
      pick_elim (λ y. y ≡ base f + whole c) (is_flagged (get_or cs c 0))
      (λ e. let g : flag_of_lem cs c ≡ 1 = pick_yes _ 1 0 e in omega (arith, g, o.flags c k, o.bits f h, empty_bit ws f (o.empty c k g)))
      (λ e. let g : flag_of_lem cs c ≡ 0 = pick_no _ 1 0 e in omega (arith, g, o.flags c k, o.bits f h))

  pub owned_once : (f : ℕ) → f < child_frames * n → base f + whole (f / child_frames) ≤ 1
  owned_once f h = rw (← (taken_owned f h)) (pick_elim (λ y. y ≤ 1) (is_flagged (get_or cs (f / child_frames) 0)) (λ e. omega arith) (λ e. bit_le _ _))

  -- a child's free frames are those that nobody owns
  pub free_unowned : (c : ℕ) → c < n → free_of cs ws c ≡ sum_to child_frames (λ i. 1 - (base (child_frames * c + i) + whole c))
  unfolding free_of
  free_unowned c h = pick_elim (λ y. y ≡ sum_to child_frames (λ i. 1 - (base (child_frames * c + i) + whole c))) (is_flagged (get_or cs c 0))
      (λ e. let g : flag_of_lem cs c ≡ 1 = pick_yes _ 1 0 e in sym (sum_zero child_frames (λ i. 1 - (base (child_frames * c + i) + whole c)) (λ i m. omega (arith, g, o.flags c h))))
      (λ e. let g : flag_of_lem cs c ≡ 0 = pick_no _ 1 0 e in zero_frames ws c ∙ sum_ext child_frames _ _ (λ i m. omega (arith, g, o.flags c h, o.bits (child_frames * c + i) (omega arith))))

  pub survived_owned : ((c : ℕ) → c < n → count_in (get_or cs c 0) ≡ free_of cs ws c) → Owned n cs ws (λ c. 0) base whole
  survived_owned h = record { children = o.children; words = o.words; formed = o.formed; counts = λ c l. omega (arith, h c l); empty = o.empty; bits = o.bits; flags = o.flags }

pub owned_survived : (n : ℕ) (cs ws : List ℕ) (low base whole : ℕ → ℕ) → Owned n cs ws low base whole → Survived n cs ws base whole
owned_survived n cs ws low base whole o = record { children = o.children; words = o.words; formed = o.formed; empty = o.empty; bits = o.bits; flags = o.flags }
