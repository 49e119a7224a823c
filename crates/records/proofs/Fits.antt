-- A record in range fits the fields of its two words, in a zone of up to 65,536 huge frames and 64 CPUs.
use mathlib.Core.Logic.{inl, inr}
use Prim.Native.Nat.{ℕ, suc, ◌^◌, ◌≤◌, ◌<◌}
use native.Mathlib.Omega.{arith}
use Rattle.laws.specs.Tests.{Passes}
use Rattle.laws.specs.Fields.{width, Fit}
use Rattle.laws.proofs.Tests.{passes_left, passes_right}
use Rattle.laws.proofs.Fields.{join_fits}
use Rattle.rules.specs.Numbers.{Shape, trees_of, children_of, capacity}
use Rattle.rules.specs.Begin.{order_number}
use Rattle.rules.specs.Ranges.{block_in, pass_in, found_in, place_in, taking_in, giving_in, creating_in, opening_in, step_range, create_range, open_range}
use Rattle.rules.specs.Places.{found_tree, place_tree}
use Rattle.rules.proofs.Shapes.{kids_most}
use Rattle.records.specs.Types.{Run, Order, Block, Pass, Found, Place, Taking, Giving, Creating, Opening, Record, Spot}
use Rattle.records.specs.Layout.{first_layout, second_layout, spot_nowhere, from_spot, pass_spot, found_spot, place_spot, block_order, block_number}
use Rattle.records.specs.Encoding.{Second, packed, block, short, Fields, fields_held, fields_searched, fields_blocked, fields_numbered, taking_fields, giving_fields, creating_fields, opening_fields, fields_of, join_second, BlockFits, SecondFits, encode}
use Rattle.rules.specs.Bounds.{zone_shape}
use Rattle.records.specs.Inverse.{InRange}

-- every field fits its width
pub record Fits (f : Fields) : Type 0 where
  pub first : Fit first_layout f.first
  pub second : SecondFits f.second

-- ---- fields within the numbers of a zone

pub order_small : (o : Order) → order_number o < 10
order_small (Order.Run Run.One) = omega arith
order_small (Order.Run Run.Two) = omega arith
order_small (Order.Run Run.Four) = omega arith
order_small (Order.Run Run.Eight) = omega arith
order_small (Order.Run Run.Sixteen) = omega arith
order_small (Order.Run Run.ThirtyTwo) = omega arith
order_small (Order.Run Run.SixtyFour) = omega arith
order_small Order.Nine = omega arith

block_small : (b : Block) → block_order b < 10
unfolding block_order
block_small (Block.Run r f) = order_small (Order.Run r)
block_small (Block.Whole h) = omega arith

-- a place of a zone: its trees and the CPU stolen from
record Sited (p : Spot) : Type 0 where
  pub kind : p.kind < 7
  pub tree : p.tree < 2048
  pub base : p.base < 2048
  pub from : p.from < 64

nowhere : Sited spot_nowhere
nowhere = record { kind = omega arith; tree = omega arith; base = omega arith; from = omega arith }

held_fits : (s u : ℕ) (o : Order) (p : Spot) (h : ℕ) → s < 30 → u < 64 → Sited p → h ≤ 16384 → Fits (fields_held s u o p h)
held_fits s u o p h a b q c = record {
  first = (omega arith, (omega arith, (omega (arith, order_small o), (omega arith, (omega arith, (omega arith, (omega arith, (omega arith, tt))))))));
  second = (omega arith, (omega arith, (omega arith, (omega arith, (omega arith, tt)))));
}

searched_fits : (s u : ℕ) (o : Order) (p : Place) (a c w : ℕ) → s < 30 → u < 64 → Sited (place_spot p) → a < 32 → c < 32 → w < 8 → Fits (fields_searched s u o p a c w)
searched_fits s u o p a c w i j q k l m = record {
  first = (omega arith, (omega arith, (omega (arith, order_small o), (omega arith, (omega arith, (omega arith, (omega arith, (omega arith, tt))))))));
  second = (omega arith, (omega arith, (omega arith, (omega arith, (omega arith, tt)))));
}

blocked_fits : (s u : ℕ) (b : Block) → s < 30 → u < 64 → BlockFits b → Fits (fields_blocked s u b)
blocked_fits s u b i j f = record { first = (omega arith, (omega arith, (omega (arith, block_small b), (omega arith, (omega arith, (omega arith, (omega arith, (omega arith, tt)))))))); second = f }

numbered_fits : (s x : ℕ) → s < 30 → x < 524288 → Fits (fields_numbered s x)
numbered_fits s x i j = record { first = (omega arith, (omega arith, (omega arith, (omega arith, (omega arith, (omega arith, (omega arith, (omega arith, tt)))))))); second = omega arith }

-- ---- records in range

module _ (n c : ℕ) (few : n ≤ 65536) (few_cpus_lem : c ≤ 64) where
  abbrev g : Shape
  g = zone_shape n c

  trees_few : trees_of g ≤ 2048
  unfolding trees_of
  trees_few = omega arith

  hand_few : (t h : ℕ) → h < suc (capacity g t) → h ≤ 16384
  hand_few t h l = omega (arith, kids_most g (omega arith) t)

  child_few : (t i : ℕ) → i < children_of g t → i < 32
  child_few t i l = omega (arith, kids_most g (omega arith) t)

  tree_sited : (k t : ℕ) → k < 7 → t < trees_of g → Sited (record { kind = k; tree = t; base = 0; from = 0 })
  tree_sited k t a l = record { kind = a; tree = omega (arith, trees_few); base = omega arith; from = omega arith }

  pass_sited : (p : Pass) → Passes (pass_in g p) → Sited (pass_spot p)
  unfolding pass_in pass_spot
  pass_sited (Pass.Near t b) h = record { kind = omega arith; tree = omega (arith, trees_few, h.0); base = omega (arith, trees_few, h.1.0); from = omega arith }
  pass_sited (Pass.Partial t) h = tree_sited 3 t.0 (omega arith) h.0
  pass_sited (Pass.Free t) h = tree_sited 4 t.0 (omega arith) h.0
  pass_sited (Pass.Any t) h = tree_sited 5 t.0 (omega arith) h.0

  module _ (u : ℕ) (own : u < c) where
    from_sited : (j : ℕ) → j < c → Sited (from_spot j)
    from_sited j l = record { kind = omega arith; tree = omega arith; base = omega arith; from = omega arith }

    found_sited : (f : Found) → Passes (found_in g u f) → Sited (found_spot f)
    unfolding found_in found_spot
    found_sited (Found.Pass p) h = pass_sited p h
    found_sited (Found.Steal j t) h = record { kind = omega arith; tree = omega (arith, trees_few, h.1.1.0); base = omega arith; from = omega (arith, h.0) }

    place_sited : (p : Place) → Passes (place_in g u p) → Sited (place_spot p)
    unfolding place_in place_spot
    place_sited (Place.Own t) h = tree_sited 1 t.0 (omega arith) h.0
    place_sited (Place.Found f) h = found_sited f h

    block_fits : (b : Block) → Passes (block_in g b) → BlockFits b
    block_fits (Block.Run r f) h = omega (arith, h.0)
    block_fits (Block.Whole x) h = omega (arith, h.0)

    u_few : u < 64
    u_few = omega arith

    -- a search at a place, from its start child and child
    search_fits : (s : ℕ) (o : Order) (p : Place) (a i w : ℕ) → s < 30 → Passes (place_in g u p) → a < children_of g (place_tree p).0 → i < children_of g (place_tree p).0 → w < 8 → Fits (fields_searched s u o p a i w)
    search_fits s o p a i w k h x y z = searched_fits s u o p a i w k u_few (place_sited p h) (child_few (place_tree p).0 a x) (child_few (place_tree p).0 i y) z

    taking_fits : (s : Taking) → Passes (taking_in g u s) → Fits (taking_fields u s)
    unfolding taking_in taking_fields found_in
    taking_fits (Taking.Own o) h = held_fits 1 u o _ 0 (omega arith) u_few nowhere (omega arith)
    taking_fits (Taking.TakeCount o t) h = held_fits 2 u o _ 0 (omega arith) u_few (tree_sited 0 t.0 (omega arith) h.0) (omega arith)
    taking_fits (Taking.FillEntry o t k) h = held_fits 3 u o _ k (omega arith) u_few (tree_sited 0 t.0 (omega arith) h.0) (hand_few t.0 k h.1.0)
    taking_fits (Taking.ReturnHand o t k) h = held_fits 4 u o _ k (omega arith) u_few (tree_sited 0 t.0 (omega arith) h.0) (hand_few t.0 k h.1.0)
    taking_fits (Taking.LookAgain o t) h = held_fits 5 u o _ 0 (omega arith) u_few (tree_sited 0 t.0 (omega arith) h.0) (omega arith)
    taking_fits (Taking.Release o p) h = held_fits 6 u o _ 0 (omega arith) u_few (place_sited p h) (omega arith)
    taking_fits (Taking.Unreserve o p k) h = held_fits 7 u o _ k (omega arith) u_few (place_sited p (passes_left (place_in g u p) _ h)) (hand_few (place_tree p).0 k (passes_right (place_in g u p) _ h).0)
    taking_fits (Taking.Try o p) h = held_fits 8 u o _ 0 (omega arith) u_few (pass_sited p h) (omega arith)
    taking_fits (Taking.Write o f k) h = held_fits 9 u o _ k (omega arith) u_few (found_sited f (passes_left (found_in g u f) _ h)) (hand_few (found_tree f).0 k (passes_right (found_in g u f) _ h).0)
    taking_fits (Taking.Steal o j) h = held_fits 10 u o _ 0 (omega arith) u_few (from_sited j h.0) (omega arith)
    taking_fits (Taking.StealCount o j t k) h = held_fits 11 u o _ k (omega arith) u_few (found_sited (Found.Steal j t) (h.0, (h.1.0, (h.1.1.0, tt)))) (hand_few t.0 k h.1.1.1.0)
    taking_fits (Taking.Child o p a i) h = let e = passes_right (place_in g u p) _ h in search_fits 12 o p a i 0 (omega arith) (passes_left (place_in g u p) _ h) e.0 e.1.0 (omega arith)
    taking_fits (Taking.Word r p a i w) h = let e = passes_right (place_in g u p) _ h in search_fits 13 (Order.Run r) p a i w (omega arith) (passes_left (place_in g u p) _ h) e.0 e.1.0 e.1.1.0
    taking_fits (Taking.GiveBack r p a i) h = let e = passes_right (place_in g u p) _ h in search_fits 14 (Order.Run r) p a i 0 (omega arith) (passes_left (place_in g u p) _ h) e.0 e.1.0 (omega arith)
    taking_fits (Taking.Last b) h = blocked_fits 15 u b (omega arith) u_few (block_fits b h)
    taking_fits (Taking.Fail o p) h = held_fits 16 u o _ 0 (omega arith) u_few (place_sited p h) (omega arith)
    taking_fits Taking.NoRoom h = held_fits 17 u (Order.Run Run.One) _ 0 (omega arith) u_few nowhere (omega arith)

    giving_fits : (s : Giving) → Passes (giving_in g s) → Fits (giving_fields u s)
    unfolding giving_in giving_fields
    giving_fits (Giving.Clear b) h = blocked_fits 18 u b (omega arith) u_few (block_fits b h)
    giving_fits (Giving.Raise r f) h = blocked_fits 19 u (Block.Run r f) (omega arith) u_few (block_fits (Block.Run r f) h)
    giving_fits (Giving.ToEntry b) h = blocked_fits 20 u b (omega arith) u_few (block_fits b h)
    giving_fits (Giving.ToTree b) h = blocked_fits 21 u b (omega arith) u_few (block_fits b h)

  creating_fits : (s : Creating) → Passes (creating_in g s) → Fits (creating_fields s)
  unfolding creating_in creating_fields
  creating_fits (Creating.Words i) h = numbered_fits 22 i (omega arith) (omega (arith, h.0))
  creating_fits (Creating.Children x) h = numbered_fits 23 x.0 (omega arith) (omega (arith, h.0))
  creating_fits (Creating.Trees t) h = held_fits 24 0 (Order.Run Run.One) _ 0 (omega arith) (omega arith) (tree_sited 0 t.0 (omega arith) h.0) (omega arith)
  creating_fits (Creating.Cpus j) h = held_fits 25 j (Order.Run Run.One) _ 0 (omega arith) (omega (arith, h.0)) nowhere (omega arith)
  creating_fits Creating.Header h = held_fits 26 0 (Order.Run Run.One) _ 0 (omega arith) (omega arith) nowhere (omega arith)

  opening_fits : (s : Opening) → Passes (opening_in g s) → Fits (opening_fields s)
  unfolding opening_in opening_fields
  opening_fits (Opening.Children x) h = numbered_fits 27 x.0 (omega arith) (omega (arith, h.0))
  opening_fits (Opening.Trees t) h = held_fits 28 0 (Order.Run Run.One) _ 0 (omega arith) (omega arith) (tree_sited 0 t.0 (omega arith) h.0) (omega arith)
  opening_fits (Opening.Cpus j) h = held_fits 29 j (Order.Run Run.One) _ 0 (omega arith) (omega (arith, h.0)) nowhere (omega arith)

  pub range_fits : (r : Record) → InRange g r → Fits (fields_of r)
  unfolding step_range create_range open_range fields_of
  range_fits (Record.Get u s) (inl h) = taking_fits u h.0 s h.1
  range_fits (Record.Put u s) (inl h) = giving_fits u h.0 s h.1
  range_fits (Record.Create s) (inr (inl h)) = creating_fits s h
  range_fits (Record.Open s) (inr (inr h)) = opening_fits s h
  range_fits Record.Finished (inl h) = absurd (omega (arith, h.0))
  range_fits Record.Finished (inr (inl h)) = absurd (omega (arith, h.0))
  range_fits Record.Finished (inr (inr h)) = absurd (omega (arith, h.0))
  range_fits (Record.Create s) (inl h) = absurd (omega (arith, h.0))
  range_fits (Record.Open s) (inl h) = absurd (omega (arith, h.0))
  range_fits (Record.Get u s) (inr (inl h)) = absurd (omega (arith, h.0))
  range_fits (Record.Put u s) (inr (inl h)) = absurd (omega (arith, h.0))
  range_fits (Record.Open s) (inr (inl h)) = absurd (omega (arith, h.0))
  range_fits (Record.Get u s) (inr (inr h)) = absurd (omega (arith, h.0))
  range_fits (Record.Put u s) (inr (inr h)) = absurd (omega (arith, h.0))
  range_fits (Record.Create s) (inr (inr h)) = absurd (omega (arith, h.0))

-- the finished record's fields are all zero
pub finished_fits : Fits (fields_of Record.Finished)
unfolding fields_of
finished_fits = held_fits 0 0 (Order.Run Run.One) _ 0 (omega arith) (omega arith) nowhere (omega arith)

-- ---- fields that fit make words of 64 bits

block_word : (b : Block) → BlockFits b → block_number b < 2 ^ 64
unfolding block_number
block_word (Block.Run r f) h = h
block_word (Block.Whole x) h = omega arith

second_word : (x : Second) → SecondFits x → join_second x < 2 ^ 64
unfolding width
second_word (packed l) h = join_fits second_layout l h
second_word (block b) h = block_word b h
second_word (short x) h = omega arith

pub words_fit : (r : Record) → Fits (fields_of r) → ((encode r).first < 2 ^ 64) × ((encode r).second < 2 ^ 64)
unfolding encode width
words_fit r f = (join_fits first_layout (fields_of r).first f.first, second_word (fields_of r).second f.second)
