-- A zone's numbers by its size, and what the code's tests tell of a list of checks.
use mathlib.Core.Path.{◌≡◌, refl, sym, ap, ◌∙◌}
use mathlib.Core.Bool.{Bool, true, false}
use mathlib.Core.List.{List, [], ◌∷◌, ◌++◌, append_assoc}
use Prim.Native.Nat.{ℕ, suc}
use lib.Dec.{ltb, leb, leb-suc-suc}
use Rattle.laws.specs.Tests.{pick, Check, ◌below◌, pass, passes, Passes}
use Rattle.laws.proofs.Tests.{pick_elim, pick_yes, pick_no, passes_of}
use Rattle.rules.specs.Numbers.{trees_of, children_of, capacity}
use Rattle.entries.specs.Sizes as Sizes
use Rattle.places.specs.Types.{Shape}
use Rattle.places.specs.Shapes.{shape_of}

-- trees, children and capacity do not hang on the CPU table's length
pub trees_same : (s : Shape) → trees_of (Sizes.shape_of s.size) ≡ trees_of (shape_of s)
unfolding trees_of
trees_same s = refl

pub children_same : (s : Shape) (t : ℕ) → children_of (Sizes.shape_of s.size) t ≡ children_of (shape_of s) t
unfolding children_of
children_same s t = refl

pub capacity_same : (s : Shape) (t : ℕ) → capacity (Sizes.shape_of s.size) t ≡ capacity (shape_of s) t
unfolding children_of
capacity_same s t = refl

-- a list of one check
pub one_check : (x : Check) → pass x ≡ passes (x ∷ [])
unfolding passes
one_check x = pick_elim (λ y. pass x ≡ y) (pass x) (λ e. e) (λ e. e)

pub below_check : (a : ℕ) {b n : ℕ} → b ≡ n → ltb a b ≡ passes (a below n ∷ [])
below_check a e = ap (ltb a) e ∙ one_check _

pub upto_check : (a : ℕ) {b n : ℕ} → b ≡ n → leb a b ≡ passes (a below suc n ∷ [])
upto_check a e = sym (leb-suc-suc a _) ∙ below_check a (ap suc e)

-- two lists in a row, as two tests
pick_row : (t u v : Bool) → pick t (pick u v false) false ≡ pick (pick t u false) v false
unfolding pick
pick_row true u v = refl
pick_row false u v = refl

passes_append : (a b : List Check) → passes (a ++ b) ≡ pick (passes a) (passes b) false
unfolding passes pick
passes_append [] b = refl
passes_append (x ∷ a) b = rw (passes_append a b) (pick_row (pass x) (passes a) (passes b))

-- t is the first list's test: where it passes the second list tells, where it fails the row fails
pub then_tells : (a b : List Check) {t r : Bool} → t ≡ passes a → t ≡ true → r ≡ passes b → r ≡ passes (a ++ b)
then_tells a b p q e = e ∙ sym (passes_append a b ∙ pick_yes _ _ _ (sym p ∙ q))

pub then_fails : (a b : List Check) {t : Bool} → t ≡ passes a → t ≡ false → t ≡ passes (a ++ b)
then_fails a b p q = q ∙ sym (passes_append a b ∙ pick_no _ _ _ (sym p ∙ q))

-- three in a row, where t is the test of the first two
pub third_tells : (a b d : List Check) {t r : Bool} → t ≡ passes (a ++ b) → t ≡ true → r ≡ passes d → r ≡ passes (a ++ (b ++ d))
third_tells a b d p q e = then_tells (a ++ b) d p q e ∙ ap passes (append_assoc a b d)

pub third_fails : (a b d : List Check) {t : Bool} → t ≡ passes (a ++ b) → t ≡ false → t ≡ passes (a ++ (b ++ d))
third_fails a b d p q = then_fails (a ++ b) d p q ∙ ap passes (append_assoc a b d)

-- the last check, where those before it are passed
pub last_check : (a : List Check) (x : Check) → Passes a → pass x ≡ passes (a ++ (x ∷ []))
last_check a x h = then_tells a _ (sym (passes_of a h)) refl (one_check x)
