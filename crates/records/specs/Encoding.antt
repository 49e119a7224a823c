-- A record's two words, by its fields.
use Rattle.std.specs.Prelude.{◌≡◌, List, [], ◌∷◌, ℕ, ◌^◌, ◌<◌}
use Rattle.laws.specs.Fields.{join, Fit}
use Rattle.rules.specs.Begin.{order_number}
use Rattle.records.specs.Types.{Run, Order, Block, Found, Place, Taking, Giving, Creating, Opening, Record, Words, Spot}
use Rattle.records.specs.Layout.{first_layout, second_layout, spot_nowhere, tree_spot, from_spot, pass_spot, found_spot, place_spot, block_order, block_number}

-- the second word: fields, a block's number, or one of 32 bits
pub data Second : Type 0 where
  packed : (l : List ℕ) → Second
  block : (b : Block) → Second
  short : (x : ℕ) → Second

pub record Fields : Type 0 where
  pub first : List ℕ
  pub second : Second

abbrev pub fields_held : ℕ → ℕ → Order → Spot → ℕ → Fields
fields_held s u o p h = record { first = s ∷ u ∷ order_number o ∷ p.kind ∷ 0 ∷ 0 ∷ 0 ∷ 0 ∷ []; second = packed (p.tree ∷ p.base ∷ h ∷ p.from ∷ 0 ∷ []) }

abbrev pub fields_searched : ℕ → ℕ → Order → Place → ℕ → ℕ → ℕ → Fields
fields_searched s u o p a c w = record { first = s ∷ u ∷ order_number o ∷ (place_spot p).kind ∷ a ∷ c ∷ w ∷ 0 ∷ []; second = packed ((place_spot p).tree ∷ (place_spot p).base ∷ 0 ∷ (place_spot p).from ∷ 0 ∷ []) }

abbrev pub fields_blocked : ℕ → ℕ → Block → Fields
fields_blocked s u b = record { first = s ∷ u ∷ block_order b ∷ 0 ∷ 0 ∷ 0 ∷ 0 ∷ 0 ∷ []; second = block b }

abbrev pub fields_numbered : ℕ → ℕ → Fields
fields_numbered s x = record { first = s ∷ 0 ∷ 0 ∷ 0 ∷ 0 ∷ 0 ∷ 0 ∷ 0 ∷ []; second = short x }

-- one line a stage: its number, and what it needs
unfoldable pub taking_fields : ℕ → Taking → Fields
taking_fields u (Taking.Own o) = fields_held 1 u o spot_nowhere 0
taking_fields u (Taking.TakeCount o t) = fields_held 2 u o (tree_spot t) 0
taking_fields u (Taking.FillEntry o t h) = fields_held 3 u o (tree_spot t) h
taking_fields u (Taking.ReturnHand o t h) = fields_held 4 u o (tree_spot t) h
taking_fields u (Taking.LookAgain o t) = fields_held 5 u o (tree_spot t) 0
taking_fields u (Taking.Release o p) = fields_held 6 u o (place_spot p) 0
taking_fields u (Taking.Unreserve o p h) = fields_held 7 u o (place_spot p) h
taking_fields u (Taking.Try o p) = fields_held 8 u o (pass_spot p) 0
taking_fields u (Taking.Write o f h) = fields_held 9 u o (found_spot f) h
taking_fields u (Taking.Steal o j) = fields_held 10 u o (from_spot j) 0
taking_fields u (Taking.StealCount o j t h) = fields_held 11 u o (found_spot (Found.Steal j t)) h
taking_fields u (Taking.Child o p s c) = fields_searched 12 u o p s c 0
taking_fields u (Taking.Word r p s c w) = fields_searched 13 u (Order.Run r) p s c w
taking_fields u (Taking.GiveBack r p s c) = fields_searched 14 u (Order.Run r) p s c 0
taking_fields u (Taking.Last b) = fields_blocked 15 u b
taking_fields u (Taking.Fail o p) = fields_held 16 u o (place_spot p) 0
taking_fields u Taking.NoRoom = fields_held 17 u (Order.Run Run.One) spot_nowhere 0

unfoldable pub giving_fields : ℕ → Giving → Fields
giving_fields u (Giving.Clear b) = fields_blocked 18 u b
giving_fields u (Giving.Raise r f) = fields_blocked 19 u (Block.Run r f)
giving_fields u (Giving.ToEntry b) = fields_blocked 20 u b
giving_fields u (Giving.ToTree b) = fields_blocked 21 u b

unfoldable pub creating_fields : Creating → Fields
creating_fields (Creating.Words i) = fields_numbered 22 i
creating_fields (Creating.Children h) = fields_numbered 23 h.0
creating_fields (Creating.Trees t) = fields_held 24 0 (Order.Run Run.One) (tree_spot t) 0
creating_fields (Creating.Cpus j) = fields_held 25 j (Order.Run Run.One) spot_nowhere 0
creating_fields Creating.Header = fields_held 26 0 (Order.Run Run.One) spot_nowhere 0

unfoldable pub opening_fields : Opening → Fields
opening_fields (Opening.Children h) = fields_numbered 27 h.0
opening_fields (Opening.Trees t) = fields_held 28 0 (Order.Run Run.One) (tree_spot t) 0
opening_fields (Opening.Cpus j) = fields_held 29 j (Order.Run Run.One) spot_nowhere 0

unfoldable pub fields_of : Record → Fields
fields_of Record.Finished = fields_held 0 0 (Order.Run Run.One) spot_nowhere 0
fields_of (Record.Get u s) = taking_fields u s
fields_of (Record.Put u s) = giving_fields u s
fields_of (Record.Create s) = creating_fields s
fields_of (Record.Open s) = opening_fields s

-- ---- the words, and fields that fit in them

-- x is the word of the values, and each of them fits its field
pub record Joins (layout vs : List ℕ) (x : ℕ) : Type 0 where
  pub word : x ≡ join layout vs
  pub fit : Fit layout vs

abbrev pub join_second : Second → ℕ
join_second (packed l) = join second_layout l
join_second (block b) = block_number b
join_second (short x) = x

abbrev pub BlockFits : Block → Type 0
BlockFits (Block.Run r f) = f.0 < 2 ^ 64
BlockFits (Block.Whole h) = h.0 < 2 ^ 32

abbrev pub SecondFits : Second → Type 0
SecondFits (packed l) = Fit second_layout l
SecondFits (block b) = BlockFits b
SecondFits (short x) = x < 2 ^ 32

abbrev pub joined : Fields → Words
joined f = record { first = join first_layout f.first; second = join_second f.second }

-- the words are those of the fields, and every field fits
pub record Encodes (f : Fields) (w : Words) : Type 0 where
  pub words : w ≡ joined f
  pub first : Fit first_layout f.first
  pub second : SecondFits f.second

unfoldable pub encode : Record → Words
encode r = joined (fields_of r)
