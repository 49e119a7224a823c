-- The record that two words are the encoding of.
use Rattle.std.specs.Prelude.{Bool, ◌&&◌, ℕ, ◌%◌, ◌^◌, eqb, ltb}
use Rattle.laws.specs.Tests.{pick}
use Rattle.rules.specs.Entries.{field}
use Rattle.rules.specs.Conversions.{frame, huge, tree}
use Rattle.rules.specs.Begin.{runs, run_of, order_of}
use Rattle.records.specs.Types.{Block, Pass, Found, Place, Taking, Giving, Creating, Opening, Record, Words, Head, Tail}
use Rattle.records.specs.Layout.{first_layout, second_layout}
use Rattle.records.specs.Encoding.{encode}

abbrev pub head_of : ℕ → Head
head_of x =
    record {
      stage = field first_layout 0 x;
      cpu = field first_layout 1 x;
      order = field first_layout 2 x;
      kind = field first_layout 3 x;
      start = field first_layout 4 x;
      child = field first_layout 5 x;
      word = field first_layout 6 x;
    }

abbrev pub tail_of : ℕ → Tail
tail_of x = record { tree = field second_layout 0 x; base = field second_layout 1 x; hand = field second_layout 2 x; from = field second_layout 3 x }

abbrev pub short_in : ℕ → ℕ
short_in x = x % 2 ^ 32

unfoldable pub pass_at : ℕ → Tail → Pass
pass_at k t = pick (eqb k 2) (Pass.Near (tree t.tree) (tree t.base)) (pick (eqb k 3) (Pass.Partial (tree t.tree)) (pick (eqb k 4) (Pass.Free (tree t.tree)) (Pass.Any (tree t.tree))))

unfoldable pub found_at : ℕ → Tail → Found
found_at k t = pick (eqb k 6) (Found.Steal t.from (tree t.tree)) (Found.Pass (pass_at k t))

unfoldable pub place_at : ℕ → Tail → Place
place_at k t = pick (eqb k 1) (Place.Own (tree t.tree)) (Place.Found (found_at k t))

unfoldable pub block_in : ℕ → ℕ → Block
block_in o x = pick (ltb o runs) (Block.Run (run_of o) (frame x)) (Block.Whole (huge (short_in x)))

unfoldable pub taking_at : Head → Tail → ℕ → Taking
taking_at h t x =
    pick (eqb h.stage 1)
    (Taking.Own (order_of h.order))
    (pick (eqb h.stage 2)
    (Taking.TakeCount (order_of h.order) (tree t.tree))
    (pick (eqb h.stage 3)
    (Taking.FillEntry (order_of h.order) (tree t.tree) t.hand)
    (pick (eqb h.stage 4)
    (Taking.ReturnHand (order_of h.order) (tree t.tree) t.hand)
    (pick (eqb h.stage 5)
    (Taking.LookAgain (order_of h.order) (tree t.tree))
    (pick (eqb h.stage 6)
    (Taking.Release (order_of h.order) (place_at h.kind t))
    (pick (eqb h.stage 7)
    (Taking.Unreserve (order_of h.order) (place_at h.kind t) t.hand)
    (pick (eqb h.stage 8)
    (Taking.Try (order_of h.order) (pass_at h.kind t))
    (pick (eqb h.stage 9)
    (Taking.Write (order_of h.order) (found_at h.kind t) t.hand)
    (pick (eqb h.stage 10)
    (Taking.Steal (order_of h.order) t.from)
    (pick (eqb h.stage 11)
    (Taking.StealCount (order_of h.order) t.from (tree t.tree) t.hand)
    (pick (eqb h.stage 12)
    (Taking.Child (order_of h.order) (place_at h.kind t) h.start h.child)
    (pick (eqb h.stage 13)
    (Taking.Word (run_of h.order) (place_at h.kind t) h.start h.child h.word)
    (pick (eqb h.stage 14)
    (Taking.GiveBack (run_of h.order) (place_at h.kind t) h.start h.child)
    (pick (eqb h.stage 15) (Taking.Last (block_in h.order x)) (pick (eqb h.stage 16) (Taking.Fail (order_of h.order) (place_at h.kind t)) Taking.NoRoom)))))))))))))))

unfoldable pub giving_at : Head → ℕ → Giving
giving_at h x =
    pick (eqb h.stage 18)
    (Giving.Clear (block_in h.order x))
    (pick (eqb h.stage 19) (Giving.Raise (run_of h.order) (frame x)) (pick (eqb h.stage 20) (Giving.ToEntry (block_in h.order x)) (Giving.ToTree (block_in h.order x))))

unfoldable pub creating_at : Head → Tail → ℕ → Creating
creating_at h t x =
    pick (eqb h.stage 22)
    (Creating.Words (short_in x))
    (pick (eqb h.stage 23)
    (Creating.Children (huge (short_in x)))
    (pick (eqb h.stage 24) (Creating.Trees (tree t.tree)) (pick (eqb h.stage 25) (Creating.Cpus h.cpu) Creating.Header)))

unfoldable pub opening_at : Head → Tail → ℕ → Opening
opening_at h t x = pick (eqb h.stage 27) (Opening.Children (huge (short_in x))) (pick (eqb h.stage 28) (Opening.Trees (tree t.tree)) (Opening.Cpus h.cpu))

-- the one record that two words may be the encoding of
unfoldable pub read_at : Head → Tail → ℕ → Record
read_at h t x =
    pick (eqb h.stage 0)
    Record.Finished
    (pick (ltb h.stage 18)
    (Record.Get h.cpu (taking_at h t x))
    (pick (ltb h.stage 22) (Record.Put h.cpu (giving_at h x)) (pick (ltb h.stage 27) (Record.Create (creating_at h t x)) (Record.Open (opening_at h t x)))))

unfoldable pub read : Words → Record
read w = read_at (head_of w.first) (tail_of w.second) w.second

-- words that are no record's are read as the finished one
unfoldable pub same_words : Words → Words → Bool
same_words v w = eqb v.first w.first && eqb v.second w.second

unfoldable pub decode : Words → Record
decode w = pick (same_words (encode (read w)) w) (read w) Record.Finished
