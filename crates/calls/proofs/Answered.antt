-- What stages have in common: an answer known by an equation, and an order's size against a hand.
use mathlib.Core.Path.{◌≡◌, ap, ◌∙◌}
use mathlib.Core.Bool.{true, false}
use mathlib.Core.List.{List}
use Prim.Native.Nat.{ℕ, ◌≤◌, ◌<◌}
use lib.Dec.{leb}
use borrow.Author.Tests.{lt-leb, le-leb}
use Rattle.laws.specs.Tables.{Outcome, outcome}
use Rattle.rules.specs.Blocks.{size}
use Rattle.calls.specs.Types.{Order, Taking, Record, Answer}

-- an answer known by an equation
pub answered : {r a : Answer} {x : List ℕ} {o : Outcome Answer} → r ≡ a → outcome a x ≡ o → outcome r x ≡ o
answered {x = x} p q = ap (λ r. outcome r x) p ∙ q

-- the get goes on with a stage known by an equation
pub goes_on_lem : {r : Answer} {cpu : ℕ} {u v : Taking} → r ≡ Answer.UnderWay (Record.Get cpu u) → u ≡ v → r ≡ Answer.UnderWay (Record.Get cpu v)
goes_on_lem {cpu = cpu} p q = p ∙ ap (λ u. Answer.UnderWay (Record.Get cpu u)) q

-- the order's size is at most the hand, or not
pub size_within : (n h : ℕ) (o : Order) → n ≡ size o → n ≤ h → leb (size o) h ≡ true
size_within n h o e p = rw (← e) (le-leb _ _ p)

pub size_above : (n h : ℕ) (o : Order) → n ≡ size o → h < n → leb (size o) h ≡ false
size_above n h o e p = rw (← e) (lt-leb _ _ p)
