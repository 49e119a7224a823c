-- Encoding and decoding undo each other.
use mathlib.Core.Path.{◌≡◌, refl, ap₂, ◌∙◌}
use mathlib.Core.Logic.{◌≢◌}
use mathlib.Core.Bool.{true}
use mathlib.Core.List.{[], ◌∷◌}
use Prim.Native.Nat.{ℕ, ◌<◌}
use native.Mathlib.Omega.{arith}
use native.Mathlib.Nat.{mod-eq_of_lt}
use borrow.Author.Tests.{eq-eqb, eqb-true, lt-ltb}
use Rattle.laws.specs.Tests.{pick}
use Rattle.laws.specs.Fields.{join, Fit}
use Rattle.laws.proofs.Tests.{pick_elim, pick_yes, and_both, both_and}
use Rattle.laws.proofs.Fields.{split_join}
use Rattle.rules.specs.Entries.{field}
use Rattle.rules.specs.Blocks.{exponent}
use Rattle.rules.specs.Begin.{order_number, runs, run_of, order_of}
use Rattle.rules.proofs.Sizes.{order_again}
use Rattle.records.specs.Types.{Run, Order, Block, Pass, Found, Place, Taking, Giving, Creating, Opening, Record, Words, Head, Tail, Spot}
use Rattle.records.specs.Layout.{first_layout, second_layout, spot_nowhere, tree_spot, from_spot, pass_spot, found_spot, place_spot, block_order, block_number}
use Rattle.records.specs.Encoding.{fields_held, fields_searched, fields_blocked, fields_numbered, taking_fields, giving_fields, creating_fields, opening_fields, fields_of, BlockFits, SecondFits, joined, Encodes, encode}
use Rattle.records.specs.Decoding.{head_of, tail_of, pass_at, found_at, place_at, block_in, taking_at, giving_at, creating_at, opening_at, read_at, read, same_words, decode}
use Rattle.records.specs.Inverse.{Inverse}
use Rattle.records.proofs.Fits.{range_fits, finished_fits}

-- ---- the parts of a record, from their numbers

-- what a place's tail is, with any hand
abbrev tail_at : Spot → ℕ → Tail
tail_at p h = record { tree = p.tree; base = p.base; hand = h; from = p.from }

order_back : (o : Order) → order_of (order_number o) ≡ o
order_back o = (order_again o).1

run_back : (r : Run) → run_of (exponent r) ≡ r
unfolding run_of pick
run_back Run.One = refl
run_back Run.Two = refl
run_back Run.Four = refl
run_back Run.Eight = refl
run_back Run.Sixteen = refl
run_back Run.ThirtyTwo = refl
run_back Run.SixtyFour = refl

run_below : (r : Run) → exponent r < runs
run_below Run.One = omega arith
run_below Run.Two = omega arith
run_below Run.Four = omega arith
run_below Run.Eight = omega arith
run_below Run.Sixteen = omega arith
run_below Run.ThirtyTwo = omega arith
run_below Run.SixtyFour = omega arith

pass_back : (p : Pass) (h : ℕ) → pass_at (pass_spot p).kind (tail_at (pass_spot p) h) ≡ p
unfolding pass_at pass_spot pick
pass_back (Pass.Near t b) h = refl
pass_back (Pass.Partial t) h = refl
pass_back (Pass.Free t) h = refl
pass_back (Pass.Any t) h = refl

found_back : (f : Found) (h : ℕ) → found_at (found_spot f).kind (tail_at (found_spot f) h) ≡ f
unfolding found_at pass_at found_spot pass_spot pick
found_back (Found.Pass (Pass.Near t b)) h = refl
found_back (Found.Pass (Pass.Partial t)) h = refl
found_back (Found.Pass (Pass.Free t)) h = refl
found_back (Found.Pass (Pass.Any t)) h = refl
found_back (Found.Steal j t) h = refl

place_back : (p : Place) (h : ℕ) → place_at (place_spot p).kind (tail_at (place_spot p) h) ≡ p
unfolding place_at found_at pass_at place_spot found_spot pass_spot pick
place_back (Place.Own t) h = refl
place_back (Place.Found (Found.Pass (Pass.Near t b))) h = refl
place_back (Place.Found (Found.Pass (Pass.Partial t))) h = refl
place_back (Place.Found (Found.Pass (Pass.Free t))) h = refl
place_back (Place.Found (Found.Pass (Pass.Any t))) h = refl
place_back (Place.Found (Found.Steal j t)) h = refl

block_back : (b : Block) → BlockFits b → block_in (block_order b) (block_number b) ≡ b
unfolding block_in block_order block_number pick
block_back (Block.Run r f) h = pick_yes _ _ _ (lt-ltb _ _ (run_below r)) ∙ rw (run_back r) refl
block_back (Block.Whole i) h = rw (mod-eq_of_lt h) refl

-- ---- the fields of joined words

abbrev head_at : ℕ → ℕ → ℕ → ℕ → ℕ → ℕ → ℕ → Head
head_at s u o k a c w = record { stage = s; cpu = u; order = o; kind = k; start = a; child = c; word = w }

head_back : (s u o k a c w : ℕ) → Fit first_layout (s ∷ u ∷ o ∷ k ∷ a ∷ c ∷ w ∷ 0 ∷ []) → head_of (join first_layout (s ∷ u ∷ o ∷ k ∷ a ∷ c ∷ w ∷ 0 ∷ [])) ≡ head_at s u o k a c w
unfolding field
head_back s u o k a c w h = rw (split_join first_layout _ h) refl

tail_back : (t b h j : ℕ) → Fit second_layout (t ∷ b ∷ h ∷ j ∷ 0 ∷ []) → tail_of (join second_layout (t ∷ b ∷ h ∷ j ∷ 0 ∷ [])) ≡ record { tree = t; base = b; hand = h; from = j }
unfolding field
tail_back t b h j l = rw (split_join second_layout _ l) refl

-- ---- what is read of joined fields

held_back : (s u : ℕ) (o : Order) (p : Spot) (h : ℕ) → Fit first_layout (fields_held s u o p h).first → SecondFits (fields_held s u o p h).second
    → read (joined (fields_held s u o p h)) ≡ read_at (head_at s u (order_number o) p.kind 0 0 0) (tail_at p h) (joined (fields_held s u o p h)).second
unfolding read
held_back s u o p h a b = rw (head_back s u (order_number o) p.kind 0 0 0 a, tail_back p.tree p.base h p.from b) refl

searched_back : (s u : ℕ) (o : Order) (p : Place) (m c w : ℕ) → Fit first_layout (fields_searched s u o p m c w).first → SecondFits (fields_searched s u o p m c w).second
    → read (joined (fields_searched s u o p m c w)) ≡ read_at (head_at s u (order_number o) (place_spot p).kind m c w) (tail_at (place_spot p) 0) (joined (fields_searched s u o p m c w)).second
unfolding read
searched_back s u o p m c w a b = rw (head_back s u (order_number o) (place_spot p).kind m c w a, tail_back (place_spot p).tree (place_spot p).base 0 (place_spot p).from b) refl

blocked_back : (s u : ℕ) (b : Block) → Fit first_layout (fields_blocked s u b).first → read (joined (fields_blocked s u b)) ≡ read_at (head_at s u (block_order b) 0 0 0 0) (tail_of (block_number b)) (block_number b)
unfolding read
blocked_back s u b a = rw (head_back s u (block_order b) 0 0 0 0 a) refl

numbered_back : (s x : ℕ) → Fit first_layout (fields_numbered s x).first → read (joined (fields_numbered s x)) ≡ read_at (head_at s 0 0 0 0 0 0) (tail_of x) x
unfolding read
numbered_back s x a = rw (head_back s 0 0 0 0 0 0 a) refl

taking_back : (u : ℕ) (s : Taking) → Fit first_layout (taking_fields u s).first → SecondFits (taking_fields u s).second → read (joined (taking_fields u s)) ≡ Record.Get u s
unfolding taking_fields found_spot read_at taking_at pick
taking_back u (Taking.Own o) a b = held_back 1 u o spot_nowhere 0 a b ∙ rw (order_back o) refl
taking_back u (Taking.TakeCount o t) a b = held_back 2 u o (tree_spot t) 0 a b ∙ rw (order_back o) refl
taking_back u (Taking.FillEntry o t h) a b = held_back 3 u o (tree_spot t) h a b ∙ rw (order_back o) refl
taking_back u (Taking.ReturnHand o t h) a b = held_back 4 u o (tree_spot t) h a b ∙ rw (order_back o) refl
taking_back u (Taking.LookAgain o t) a b = held_back 5 u o (tree_spot t) 0 a b ∙ rw (order_back o) refl
taking_back u (Taking.Release o p) a b = held_back 6 u o (place_spot p) 0 a b ∙ rw (order_back o, place_back p 0) refl
taking_back u (Taking.Unreserve o p h) a b = held_back 7 u o (place_spot p) h a b ∙ rw (order_back o, place_back p h) refl
taking_back u (Taking.Try o p) a b = held_back 8 u o (pass_spot p) 0 a b ∙ rw (order_back o, pass_back p 0) refl
taking_back u (Taking.Write o f h) a b = held_back 9 u o (found_spot f) h a b ∙ rw (order_back o, found_back f h) refl
taking_back u (Taking.Steal o j) a b = held_back 10 u o (from_spot j) 0 a b ∙ rw (order_back o) refl
taking_back u (Taking.StealCount o j t h) a b = held_back 11 u o (found_spot (Found.Steal j t)) h a b ∙ rw (order_back o) refl
taking_back u (Taking.Child o p s c) a b = searched_back 12 u o p s c 0 a b ∙ rw (order_back o, place_back p 0) refl
taking_back u (Taking.Word r p s c w) a b = searched_back 13 u (Order.Run r) p s c w a b ∙ rw (run_back r, place_back p 0) refl
taking_back u (Taking.GiveBack r p s c) a b = searched_back 14 u (Order.Run r) p s c 0 a b ∙ rw (run_back r, place_back p 0) refl
taking_back u (Taking.Last b) a h = blocked_back 15 u b a ∙ rw (block_back b h) refl
taking_back u (Taking.Fail o p) a b = held_back 16 u o (place_spot p) 0 a b ∙ rw (order_back o, place_back p 0) refl
taking_back u Taking.NoRoom a b = held_back 17 u (Order.Run Run.One) spot_nowhere 0 a b

giving_back : (u : ℕ) (s : Giving) → Fit first_layout (giving_fields u s).first → SecondFits (giving_fields u s).second → read (joined (giving_fields u s)) ≡ Record.Put u s
unfolding giving_fields block_order block_number read_at giving_at pick
giving_back u (Giving.Clear b) a h = blocked_back 18 u b a ∙ rw (block_back b h) refl
giving_back u (Giving.Raise r f) a h = blocked_back 19 u (Block.Run r f) a ∙ rw (run_back r) refl
giving_back u (Giving.ToEntry b) a h = blocked_back 20 u b a ∙ rw (block_back b h) refl
giving_back u (Giving.ToTree b) a h = blocked_back 21 u b a ∙ rw (block_back b h) refl

creating_back : (s : Creating) → Fit first_layout (creating_fields s).first → SecondFits (creating_fields s).second → read (joined (creating_fields s)) ≡ Record.Create s
unfolding creating_fields read_at creating_at pick
creating_back (Creating.Words i) a h = numbered_back 22 i a ∙ rw (mod-eq_of_lt h) refl
creating_back (Creating.Children i) a h = numbered_back 23 i.0 a ∙ rw (mod-eq_of_lt h) refl
creating_back (Creating.Trees t) a b = held_back 24 0 (Order.Run Run.One) (tree_spot t) 0 a b
creating_back (Creating.Cpus j) a b = held_back 25 j (Order.Run Run.One) spot_nowhere 0 a b
creating_back Creating.Header a b = held_back 26 0 (Order.Run Run.One) spot_nowhere 0 a b

opening_back : (s : Opening) → Fit first_layout (opening_fields s).first → SecondFits (opening_fields s).second → read (joined (opening_fields s)) ≡ Record.Open s
unfolding opening_fields read_at opening_at pick
opening_back (Opening.Children i) a h = numbered_back 27 i.0 a ∙ rw (mod-eq_of_lt h) refl
opening_back (Opening.Trees t) a b = held_back 28 0 (Order.Run Run.One) (tree_spot t) 0 a b
opening_back (Opening.Cpus j) a b = held_back 29 j (Order.Run Run.One) spot_nowhere 0 a b

record_back : (r : Record) → Fit first_layout (fields_of r).first → SecondFits (fields_of r).second → read (encode r) ≡ r
unfolding encode fields_of read_at pick
record_back Record.Finished a b = held_back 0 0 (Order.Run Run.One) spot_nowhere 0 a b
record_back (Record.Get u s) a b = taking_back u s a b
record_back (Record.Put u s) a b = giving_back u s a b
record_back (Record.Create s) a b = creating_back s a b
record_back (Record.Open s) a b = opening_back s a b

-- ---- the two theorems

same_self : (w : Words) → same_words w w ≡ true
unfolding same_words
same_self w = both_and _ _ (eq-eqb w.first w.first refl) (eq-eqb w.second w.second refl)

same_words_lem : (v w : Words) → same_words v w ≡ true → v ≡ w
unfolding same_words
same_words_lem v w e = let p = and_both _ _ e in ap₂ (λ (a b : ℕ). record { first = a; second = b }) (eqb-true _ _ p.0) (eqb-true _ _ p.1)

pub read_back : (r : Record) → Fit first_layout (fields_of r).first → SecondFits (fields_of r).second → decode (encode r) ≡ r
unfolding decode
read_back r a b = rw (record_back r a b) (pick_yes _ _ _ (same_self (encode r)))

pub one_encoding : (w : Words) → decode w ≢ Record.Finished → encode (decode w) ≡ w
unfolding decode
one_encoding w = pick_elim (λ r. r ≢ Record.Finished → encode r ≡ w) (same_words (encode (read w)) w) (λ e n. same_words_lem _ w e) (λ e n. absurd (n refl))

pub inverse : Inverse
inverse = record {
  back = read_back;
  ranged = λ n c a b r h. let f = range_fits n c a b r h in read_back r f.first f.second;
  finished = read_back Record.Finished finished_fits.first finished_fits.second;
  once = one_encoding;
}

-- ---- the code's return: words that hold a record's fields

pub encoded : (r : Record) {w : Words} → Encodes (fields_of r) w → (w ≡ encode r) × (decode w ≡ r)
unfolding encode
encoded r {w} e = (e.words, rw e.words (read_back r e.first e.second))
