-- What the numbers of a beginning come to is one only: a refusal ends, so that it is no record under way.
use mathlib.Core.Path.{◌≡◌, ap}
use Prim.Native.Nat.{ℕ, ◌≤◌}
use native.Mathlib.Omega.{arith}
use Rattle.std.specs.Prelude.{Result, Ok, Err}
use Rattle.rules.specs.Zone.{Zone}
use Rattle.rules.specs.Plan.{Plan}
use Rattle.rules.specs.Answers.{number}
use Rattle.rules.specs.Begin.{begin_get, begin_put}
use Rattle.calls.specs.Results.{result_of, done}
use Rattle.calls.proofs.Same.{same_result}
use Rattle.begins.specs.Types.{Frame, Order, Block, Record, Answer, Shape, Getting, Putting}
use Rattle.begins.specs.Begun.{GetsBy, PutsBy, Gets, Puts}

module _ (z : Zone) (p : Plan) where
  same_answer : {a b : Answer} → result_of a z ≡ done z p → result_of b z ≡ done z p → a ≡ b
  same_answer {a} {b} e q = (same_result (done z p) a b _ _ e q).0

  not_both : {B : Type 0} {a : Answer} {r : Record} → (2 ≤ number a) × (result_of a z ≡ done z p) → result_of (Answer.UnderWay r) z ≡ done z p → B
  not_both e q = let n = ap number (same_answer e.1 q) in absurd (omega (arith, e.0, n))

same_got : {s t : Shape} {i j : ℕ} {k l : Order} → s ≡ t → i ≡ j → k ≡ l → ◌≡◌ {A = Getting} (record { shape = s; cpu = i; order = k }) (record { shape = t; cpu = j; order = l })
same_got p q r = rw (p, q, r)

same_put : {s t : Shape} {i j : ℕ} {b d : Block} → s ≡ t → i ≡ j → b ≡ d → ◌≡◌ {A = Putting} (record { shape = s; cpu = i; block = b }) (record { shape = t; cpu = j; block = d })
same_put p q r = rw (p, q, r)

-- two results that the contract of `get_of` permits are equal
pub same_getting : (z : Zone) (cpu o : ℕ) (x y : Result Getting Answer) → Gets z cpu o x → Gets z cpu o y → x ≡ y
same_getting z cpu o x y p q = go x y p.come q.come
  where
    go : (x y : Result Getting Answer) → GetsBy z cpu o x → GetsBy z cpu o y → x ≡ y
    go (Err a) (Err b) e f = ap Err (same_answer z (begin_get z cpu o) e.1 f.1)
    go (Err a) (Ok h) e f = not_both z (begin_get z cpu o) e f.1
    go (Ok g) (Err a) e f = not_both z (begin_get z cpu o) f e.1
    go (Ok g) (Ok h) e f = let u = same_answer z (begin_get z cpu o) e.1 f.1 in ap Ok (same_got (cc (e.0.checks, f.0.checks)) (cc) (cc))

-- the same for `put_of`
pub same_putting : (z : Zone) (cpu : ℕ) (f : Frame) (o : ℕ) (x y : Result Putting Answer) → Puts z cpu f o x → Puts z cpu f o y → x ≡ y
same_putting z cpu f o x y p q = go x y p.come q.come
  where
    go : (x y : Result Putting Answer) → PutsBy z cpu f o x → PutsBy z cpu f o y → x ≡ y
    go (Err a) (Err b) d e = ap Err (same_answer z (begin_put z cpu f o) d.1 e.1)
    go (Err a) (Ok h) d e = not_both z (begin_put z cpu f o) d e.1
    go (Ok g) (Err a) d e = not_both z (begin_put z cpu f o) e d.1
    go (Ok g) (Ok h) d e = let u = same_answer z (begin_put z cpu f o) d.1 e.1 in ap Ok (same_put (cc (d.0.checks, e.0.checks)) (cc) (cc))
