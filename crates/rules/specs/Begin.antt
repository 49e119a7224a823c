-- Beginnings: 9, 10, 8, 7, 3, 4, 5. A refused beginning begins nothing.
use Rattle.std.specs.Prelude.{Bool, true, not, [], ◌∷◌, ◌++◌, ℕ, ◌*◌, ◌%◌, eqb, leb, ltb}
use Rattle.laws.specs.Tests.{pick}
use Rattle.rules.specs.Numbers.{child_frames}
use Rattle.rules.specs.Blocks.{exponent, size, block_at}
use Rattle.rules.specs.Zone.{Zone, shape_of, nothing}
use Rattle.rules.specs.Plan.{Plan, says, Refusal, on, guarded}
use Rattle.rules.specs.Checks.{not_open}
use Rattle.rules.specs.Types.{Frame, Run, Order, Taking, Giving, Record, Answer}

-- the number of an order, and the order of a number that is one's
abbrev pub order_number : Order → ℕ
order_number (Order.Run r) = exponent r
order_number Order.Nine = 9

-- orders 0 to 6 are runs
abbrev pub runs : ℕ
runs = 7

unfoldable pub is_order : ℕ → Bool
is_order n = pick (ltb n runs) true (eqb n (order_number Order.Nine))

unfoldable pub run_of : ℕ → Run
run_of n =
    pick (eqb n 0)
    Run.One
    (pick (eqb n 1) Run.Two (pick (eqb n 2) Run.Four (pick (eqb n 3) Run.Eight (pick (eqb n 4) Run.Sixteen (pick (eqb n 5) Run.ThirtyTwo Run.SixtyFour)))))

unfoldable pub order_of : ℕ → Order
order_of n = pick (ltb n runs) (Order.Run (run_of n)) Order.Nine

abbrev pub bad_cpu : Zone → ℕ → Refusal
bad_cpu z cpu = on (leb (shape_of z).cpus cpu) Answer.BadCpu

abbrev pub bad_order : ℕ → Refusal
bad_order o = on (not (is_order o)) Answer.BadOrder

abbrev pub bad_frame : Zone → Frame → Refusal
bad_frame z f = on (leb ((shape_of z).huge * child_frames) f.0) Answer.BadFrame

abbrev pub misaligned : ℕ → Frame → Refusal
misaligned o f = on (not (eqb (f.0 % size (order_of o)) 0)) Answer.Misaligned

unfoldable pub begin_get : Zone → ℕ → ℕ → Plan
begin_get z cpu o = guarded (not_open z ++ (bad_cpu z cpu ∷ bad_order o ∷ [])) (says nothing (Answer.UnderWay (Record.Get cpu (Taking.Own (order_of o)))))

unfoldable pub begin_put : Zone → ℕ → Frame → ℕ → Plan
begin_put z cpu f o = guarded (not_open z ++ (bad_cpu z cpu ∷ bad_order o ∷ bad_frame z f ∷ misaligned o f ∷ [])) (says nothing (Answer.UnderWay (Record.Put cpu (Giving.Clear (block_at (order_of o) f)))))
