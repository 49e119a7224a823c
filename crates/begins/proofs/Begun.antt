-- Beginnings: what the numbers of a call tell of its refusals.
use mathlib.Core.Path.{◌≡◌, refl, sym, ap, ◌∙◌}
use mathlib.Core.Bool.{Bool, true, false, not}
use mathlib.Core.List.{List, [], ◌∷◌, ◌++◌}
use Prim.Native.Nat.{ℕ, ◌*◌, ◌%◌, ◌≤◌, ◌<◌}
use native.Mathlib.Omega.{arith}
use lib.Dec.{eqb}
use borrow.Author.Tests.{le-leb, lt-leb, lt-ltb, le-ltb, eq-eqb, ne_eqb}
use Rattle.std.specs.Prelude.{Option, Some, None, Ok, Err, ok_or}
use Rattle.laws.specs.Tests.{pick}
use Rattle.laws.proofs.Tests.{pick_elim, pick_yes, pick_no}
use Rattle.rules.specs.Numbers.{child_frames}
use Rattle.rules.specs.Blocks.{size, block_at}
use Rattle.rules.specs.Zone.{Zone, shape_of}
use Rattle.rules.specs.Answers.{number}
use Rattle.rules.specs.Plan.{Plan, refuse, Refusal, guarded}
use Rattle.rules.specs.Checks.{not_open}
use Rattle.rules.specs.Begin.{is_order, run_of, order_of, bad_cpu, bad_order, bad_frame, misaligned, begin_get, begin_put}
use Rattle.rules.specs.Conversions as Conversions
use Rattle.rules.specs.declared.Block.{Block}
use Rattle.rules.specs.declared.Taking.{Taking}
use Rattle.entries.specs.Sizes.{huge_of}
use Rattle.begins.specs.Types.{Frame, Run, Order, Giving, Record, Answer, Shape}
use Rattle.calls.specs.Results.{zone, result_of, done}
use Rattle.begins.specs.Orders.{order_at_in, block_of_in}
use Rattle.calls.proofs.Opened.{stores_nothing, stands, passed_by, checked_in, checked_refused, checked_open, refused_ends}

-- ---- orders

-- as the code tells them apart
pub order_run : (o : ℕ) {r : Run} → o < 7 → r ≡ run_of o → Some (Order.Run r) ≡ order_at_in o
unfolding order_at_in is_order order_of pick
order_run o l e = rw (lt-ltb o 7 l, e)

pub order_nine : (o : ℕ) → o ≡ 9 → Some Order.Nine ≡ order_at_in o
unfolding order_at_in is_order order_of pick
order_nine o e = rw e

pub order_none : (o : ℕ) → 7 ≤ o → (o ≡ 9 → ⊥) → None ≡ order_at_in o
unfolding order_at_in is_order pick
order_none o a b = rw (le-ltb o 7 a, ne_eqb o 9 b)

-- what they tell
no_order : (o : ℕ) → order_at_in o ≡ None → not (is_order o) ≡ true
unfolding order_at_in
no_order o = pick_elim (λ x. x ≡ None → not (is_order o) ≡ true) (is_order o) (λ b e. let n : ◌≡◌ {A = ℕ} 0 1 = cc in absurd (omega arith)) (λ b e. ap not b)

an_order : (o : ℕ) {k : Order} → order_at_in o ≡ Some k → (not (is_order o) ≡ false) × (order_of o ≡ k)
unfolding order_at_in
an_order o {k} = pick_elim (λ x. x ≡ Some k → (not (is_order o) ≡ false) × (order_of o ≡ k)) (is_order o) (λ b e. (ap not b, cc)) (λ b e. let n : ◌≡◌ {A = ℕ} 0 1 = cc in absurd (omega arith))

-- an order that the code refuses
pub order_refused : (o : ℕ) {x : Option Order} {a : Answer} → x ≡ order_at_in o → Err a ≡ ok_or x Answer.BadOrder → (order_at_in o ≡ None) × (a ≡ Answer.BadOrder)
order_refused o {x} {a} e q = go x e q
  where
    go : (x : Option Order) → x ≡ order_at_in o → Err a ≡ ok_or x Answer.BadOrder → (order_at_in o ≡ None) × (a ≡ Answer.BadOrder)
    go None e q = (sym e, cc)
    go (Some k) e q = cc

-- a put of a frame of the zone: 5, or its first stage
abbrev put_of : ℕ → Frame → Order → Answer
put_of cpu f o = pick (eqb (f.0 % size o) 0) (Answer.UnderWay (Record.Put cpu (Giving.Clear (block_at o f)))) Answer.Misaligned

-- a refusal by a failed test, as a choice of answers
refused_unless : (b : Bool) (x y : Answer) → pick (not b) (refuse y) (refuse x) ≡ refuse (pick b x y)
unfolding pick
refused_unless true x y = refl
refused_unless false x y = refl

-- ---- the refusals of a beginning
module _ (h w c t p : List ℕ) (cpu o : ℕ) where
  abbrev z : Zone
  z = zone h w c t p

  abbrev got : Plan
  got = refuse (Answer.UnderWay (Record.Get cpu (Taking.Own (order_of o))))

  pub get_refused : {a : Answer} → checked_in h w c t p ≡ Err a → (2 ≤ number a) × (result_of a z ≡ done z (begin_get z cpu o))
  unfolding begin_get
  get_refused e = (refused_ends h w c t p e, stores_nothing z (checked_refused h w c t p e (bad_cpu z cpu ∷ bad_order o ∷ []) got))

  module _ (f : Frame) where
    abbrev put : Plan
    put = refuse (Answer.UnderWay (Record.Put cpu (Giving.Clear (block_at (order_of o) f))))

    pub put_refused : {a : Answer} → checked_in h w c t p ≡ Err a → (2 ≤ number a) × (result_of a z ≡ done z (begin_put z cpu f o))
    unfolding begin_put
    put_refused e = (refused_ends h w c t p e, stores_nothing z (checked_refused h w c t p e (bad_cpu z cpu ∷ bad_order o ∷ bad_frame z f ∷ misaligned o f ∷ []) put))

  -- past the refusals of every call
  module _ {s : Shape} (e : checked_in h w c t p ≡ Ok s) where
    no_cpu : s.cpus ≤ cpu → (l : List Refusal) (q : Plan) → guarded (not_open z ++ (bad_cpu z cpu ∷ l)) q ≡ refuse Answer.BadCpu
    no_cpu b l q = let k = checked_open h w c t p e in k.1 (bad_cpu z cpu ∷ l) q ∙ stands (bad_cpu z cpu) l q (le-leb _ _ (rw k.2.cpus at b))

    a_cpu : cpu < s.cpus → (l : List Refusal) (q : Plan) → guarded (not_open z ++ (bad_cpu z cpu ∷ l)) q ≡ guarded l q
    a_cpu b l q = let k = checked_open h w c t p e in k.1 (bad_cpu z cpu ∷ l) q ∙ passed_by (bad_cpu z cpu) l q (lt-leb _ _ (rw k.2.cpus at b))

    bad_order_lem : cpu < s.cpus → order_at_in o ≡ None → (l : List Refusal) (q : Plan) → guarded (not_open z ++ (bad_cpu z cpu ∷ bad_order o ∷ l)) q ≡ refuse Answer.BadOrder
    bad_order_lem b n l q = a_cpu b (bad_order o ∷ l) q ∙ stands (bad_order o) l q (no_order o n)

    good_order : cpu < s.cpus → {k : Order} → order_at_in o ≡ Some k → (l : List Refusal) (q : Plan) → guarded (not_open z ++ (bad_cpu z cpu ∷ bad_order o ∷ l)) q ≡ guarded l q
    good_order b n l q = a_cpu b (bad_order o ∷ l) q ∙ passed_by (bad_order o) l q (an_order o n).0

    huge_same : (shape_of z).huge ≡ huge_of s.size
    huge_same = ap (λ g. g.huge) (checked_open h w c t p e).0

    pub get_bad_cpu : s.cpus ≤ cpu → result_of Answer.BadCpu z ≡ done z (begin_get z cpu o)
    unfolding begin_get
    get_bad_cpu b = stores_nothing z (no_cpu b (bad_order o ∷ []) got)

    pub get_bad_order : cpu < s.cpus → order_at_in o ≡ None → result_of Answer.BadOrder z ≡ done z (begin_get z cpu o)
    unfolding begin_get
    get_bad_order b n = stores_nothing z (bad_order_lem b n [] got)

    pub get_begun : cpu < s.cpus → {k : Order} → order_at_in o ≡ Some k → result_of (Answer.UnderWay (Record.Get cpu (Taking.Own k))) z ≡ done z (begin_get z cpu o)
    unfolding begin_get guarded
    get_begun b n = stores_nothing z (good_order b n [] got ∙ ap (λ k. refuse (Answer.UnderWay (Record.Get cpu (Taking.Own k)))) (an_order o n).1)

    module _ (f : Frame) where
      pub put_bad_cpu : s.cpus ≤ cpu → result_of Answer.BadCpu z ≡ done z (begin_put z cpu f o)
      unfolding begin_put
      put_bad_cpu b = stores_nothing z (no_cpu b (bad_order o ∷ bad_frame z f ∷ misaligned o f ∷ []) (put f))

      pub put_bad_order : cpu < s.cpus → order_at_in o ≡ None → result_of Answer.BadOrder z ≡ done z (begin_put z cpu f o)
      unfolding begin_put
      put_bad_order b n = stores_nothing z (bad_order_lem b n (bad_frame z f ∷ misaligned o f ∷ []) (put f))

      pub put_bad_frame : cpu < s.cpus → {k : Order} → order_at_in o ≡ Some k → {n : ℕ} → n ≡ huge_of s.size → n * child_frames ≤ f.0 → result_of Answer.BadFrame z ≡ done z (begin_put z cpu f o)
      unfolding begin_put
      put_bad_frame b n m l = stores_nothing z (good_order b n (bad_frame z f ∷ misaligned o f ∷ []) (put f) ∙ stands (bad_frame z f) (misaligned o f ∷ []) (put f) (le-leb _ _ (rw (m, ← huge_same) at l)))

      module _ (b : cpu < s.cpus) {k : Order} (n : order_at_in o ≡ Some k) {m : ℕ} (q : m ≡ huge_of s.size) (l : f.0 < m * child_frames) where
        put_lem : {a : Answer} → a ≡ put_of cpu f k → result_of a z ≡ done z (begin_put z cpu f o)
        unfolding begin_put guarded
        put_lem r = stores_nothing z
            (good_order b n (bad_frame z f ∷ misaligned o f ∷ []) (put f) ∙ passed_by (bad_frame z f) (misaligned o f ∷ []) (put f) (lt-leb _ _ (rw (q, ← huge_same) at l)) ∙ refused_unless (eqb (f.0 % size (order_of o)) 0) _ _ ∙ ap (λ k. refuse (put_of cpu f k)) (an_order o n).1 ∙ ap refuse (sym r))

        pub put_misaligned : {a : Answer} → block_of_in f k ≡ Err a → (2 ≤ number a) × (result_of a z ≡ done z (begin_put z cpu f o))
        unfolding block_of_in pick
        put_misaligned {a} e = let r = go (eqb (f.0 % size k) 0) e in (r.0, put_lem r.1)
          where
            go : (x : Bool) → pick x (Ok (block_at k f)) (Err Answer.Misaligned) ≡ Err a → (2 ≤ number a) × (a ≡ pick x (Answer.UnderWay (Record.Put cpu (Giving.Clear (block_at k f)))) Answer.Misaligned)
            go true e = cc
            go false e = let m : Answer.Misaligned ≡ a = cc in rw (← m) (omega arith, refl)

        pub put_begun : {d : Block} → block_of_in f k ≡ Ok d → result_of (Answer.UnderWay (Record.Put cpu (Giving.Clear d))) z ≡ done z (begin_put z cpu f o)
        unfolding block_of_in pick
        put_begun {d} e = put_lem (go (eqb (f.0 % size k) 0) e)
          where
            go : (x : Bool) → pick x (Ok (block_at k f)) (Err Answer.Misaligned) ≡ Ok d → Answer.UnderWay (Record.Put cpu (Giving.Clear d)) ≡ pick x (Answer.UnderWay (Record.Put cpu (Giving.Clear (block_at k f)))) Answer.Misaligned
            go true e = cc
            go false e = cc

-- ---- the block of a frame of the zone, by its order
module _ (f : Frame) (o : Order) {s : ℕ} (e : s ≡ size o) where
  pub block_wrong : (f.0 % s ≡ 0 → ⊥) → Err Answer.Misaligned ≡ block_of_in f o
  unfolding block_of_in
  block_wrong n = sym (pick_no _ _ _ (ne_eqb _ _ (rw e at n)))

  pub block_run : {r : Run} → f.0 % s ≡ 0 → o ≡ Order.Run r → Ok (Block.Run r f) ≡ block_of_in f o
  unfolding block_of_in
  block_run n q = ap (λ x. Ok (block_at x f)) (sym q) ∙ sym (pick_yes _ _ _ (eq-eqb _ _ (rw e at n)))

  pub block_nine : f.0 % s ≡ 0 → o ≡ Order.Nine → Ok (Block.Whole (Conversions.huge_of f)) ≡ block_of_in f o
  unfolding block_of_in
  block_nine n q = ap (λ x. Ok (block_at x f)) (sym q) ∙ sym (pick_yes _ _ _ (eq-eqb _ _ (rw e at n)))
