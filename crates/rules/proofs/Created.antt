-- Create run to its end: table after table is filled, and the header is stored last.
use mathlib.Core.Path.{◌≡◌, refl, sym, ap, ◌∙◌}
use mathlib.Core.Logic.{◌≢◌}
use mathlib.Core.List.{List, [], ◌∷◌}
use Prim.Native.Nat.{ℕ, zero, suc, ◌+◌, ◌-◌, ◌*◌, ◌<◌, min}
use native.Mathlib.Nat.{le_of_suc-le-suc}
use native.Mathlib.Omega.{arith}
use native.Mathlib.Decide.{ℕ_discrete}
use lib.ListN.{length, get_or, set, replicate, length-set}
use lib.Seq.{ext_get_or, get_or-set_same, get_or-set_other}
use Rattle.laws.specs.Tests.{Passes}
use Rattle.rules.specs.Types.{CpuEntry, Creating, Record, Answer}
use Rattle.rules.specs.Numbers.{child_words, format1, Shape, trees_of, capacity}
use Rattle.rules.specs.Entries.{tree_word, cpu_word}
use Rattle.rules.specs.Lower.{fresh_word, fresh_child}
use Rattle.rules.specs.Zone.{Zone, shaped, Store, stored}
use Rattle.rules.specs.Ranges.{creating_in, create_range}
use Rattle.rules.specs.Step.{after}
use Rattle.rules.specs.Create.{not_created, creating, create_zone, create_stage, create_act, create_step, create_steps}
use Rattle.rules.specs.Fresh.{listed, fresh, Fitting, creates, Created}
use Rattle.rules.proofs.Shapes.{some_tree}
use Rattle.rules.proofs.Ways.{guarded_none, allowed, onward, Way, goes, over, way}

-- ---- tables

-- what holds of the entry stored and of the others
pub all_set : (Q : ℕ → ℕ → Type 0) (l : List ℕ) (i v m : ℕ) → i < length l → Q i v → ((j : ℕ) → j < m → j ≢ i → Q j (get_or l j 0)) → (j : ℕ) → j < m → Q j (get_or (set l i v) j 0)
all_set Q l i v m h x y j k = elim (ℕ_discrete j i) [
  | yes e ↦ rw (e, get_or-set_same l i v 0 h) x
  | no q ↦ rw (get_or-set_other l i j v 0 q) (y j k q)
]

-- a header slice of length 1
pub set_only : (l : List ℕ) (v : ℕ) → length l ≡ 1 → set l 0 v ≡ v ∷ []
set_only [] v e = absurd (omega arith)
set_only (x ∷ []) v e = refl
set_only (x ∷ (y ∷ l)) v e = absurd (omega arith)

-- n entries, and those before entry i are f's
pub record Filled (f : ℕ → ℕ) (n : ℕ) (l : List ℕ) (i : ℕ) : Type 0 where
  pub size : length l ≡ n
  pub same : (j : ℕ) → j < i → get_or l j 0 ≡ f j

pub not_filled : (f : ℕ → ℕ) (n : ℕ) (l : List ℕ) → length l ≡ n → Filled f n l 0
not_filled f n l e = record { size = e; same = λ j h. absurd (omega arith) }

pub one_more : (f : ℕ → ℕ) (n : ℕ) (l : List ℕ) (i : ℕ) → i < n → Filled f n l i → Filled f n (set l i (f i)) (suc i)
one_more f n l i h k = record { size = length-set l i (f i) ∙ k.size; same = all_set (λ j x. x ≡ f j) l i (f i) (suc i) (omega (arith, k.size)) refl (λ j m q. k.same j (omega arith)) }

pub length_listed : (n : ℕ) (f : ℕ → ℕ) → length (listed n f) ≡ n
unfolding listed
length_listed zero f = refl
length_listed (suc n) f = ap suc (length_listed n (λ i. f (suc i)))

pub get_or_listed : (n : ℕ) (f : ℕ → ℕ) (i : ℕ) → i < n → get_or (listed n f) i 0 ≡ f i
unfolding listed
get_or_listed zero f i h = absurd (omega arith)
get_or_listed (suc n) f zero h = refl
get_or_listed (suc n) f (suc i) h = get_or_listed n (λ i. f (suc i)) i (le_of_suc-le-suc h)

listed_same : (n v : ℕ) → listed n (λ i. v) ≡ replicate n v
unfolding listed
listed_same zero v = refl
listed_same (suc n) v = ap (λ l. v ∷ l) (listed_same n v)

pub filled : (f : ℕ → ℕ) (n : ℕ) (l : List ℕ) → Filled f n l n → l ≡ listed n f
filled f n l h = ext_get_or 0 l (listed n f) (h.size ∙ sym (length_listed n f)) (λ i m. let k : i < n = omega (arith, h.size) in h.same i k ∙ sym (get_or_listed n f i k))

pub listed_ext : (n : ℕ) (f h : ℕ → ℕ) → ((i : ℕ) → i < n → f i ≡ h i) → listed n f ≡ listed n h
listed_ext n f h e = filled h n (listed n f) (record { size = length_listed n f; same = λ i l. get_or_listed n f i l ∙ e i l })

pub filled_same : (v n : ℕ) (l : List ℕ) → Filled (λ i. v) n l n → l ≡ replicate n v
filled_same v n l h = filled (λ i. v) n l h ∙ listed_same n v

-- ---- the run

-- how far the tables of a zone of shape g are filled
record Stands (g : Shape) (w c t j : ℕ) (z : Zone) : Type 0 where
  pub header : z.header ≡ 0 ∷ []
  pub words : Filled (λ i. fresh_word) (child_words * g.huge) z.words w
  pub children : Filled (λ i. fresh_child) g.huge z.children c
  pub trees : Filled (λ i. tree_word 0 (capacity g i)) (trees_of g) z.trees t
  pub cpus : Filled (λ i. 0) g.cpus z.cpus j

module _ (n : ℕ) (z₀ : Zone) (fit : Fitting n z₀) where
  abbrev g : Shape
  g = shaped n z₀

  trees+ : 0 < trees_of g
  trees+ = some_tree g (omega arith) fit.size.0

  -- all steps but the first
  abbrev total : ℕ
  total = child_words * n + n + trees_of g + g.cpus + 1

  -- a stage with d steps left
  abbrev At : ℕ → Creating → Zone → Type 0
  At d (Creating.Words i) z = (i < child_words * n) × (i + d ≡ total) × Stands g i 0 0 0 z
  At d (Creating.Children c) z = (c.0 < n) × (c.0 + d ≡ n + trees_of g + g.cpus + 1) × Stands g (child_words * n) c.0 0 0 z
  At d (Creating.Trees t) z = (t.0 < trees_of g) × (t.0 + d ≡ trees_of g + g.cpus + 1) × Stands g (child_words * n) n t.0 0 z
  At d (Creating.Cpus j) z = (j < g.cpus) × (j + d ≡ g.cpus + 1) × Stands g (child_words * n) n (trees_of g) j z
  At d Creating.Header z = (d ≡ 1) × Stands g (child_words * n) n (trees_of g) g.cpus z

  header_zero : (d : ℕ) (s : Creating) (z : Zone) → At d s z → z.header ≡ 0 ∷ []
  header_zero d (Creating.Words i) z h = h.2.header
  header_zero d (Creating.Children c) z h = h.2.header
  header_zero d (Creating.Trees t) z h = h.2.header
  header_zero d (Creating.Cpus j) z h = h.2.header
  header_zero d Creating.Header z h = h.1.header

  abbrev Whole : Zone → Type 0
  Whole z = z ≡ fresh g

  abbrev Creates : ℕ → Answer → Zone → Type 0
  Creates = Way Record.Create At Whole

  on : (d : ℕ) (s : Creating) (z : Zone) → 0 < d → At d s z → Creates d (creating s) z
  on = goes Record.Create At Whole

  -- a stage in range is not refused
  step_is : {w c t j : ℕ} (z : Zone) → Stands g w c t j z → (s : Creating) → Passes (creating_in g s) → create_step n z (Record.Create s) ≡ create_stage g s
  unfolding create_step create_act create_range
  step_is z h s k = rw h.cpus.size (guarded_none _ _ (allowed _ fit.size, (allowed _ (ap length h.header, tt), (allowed _ (h.words.size, (h.children.size, (h.trees.size, fit.tables.1.1.1))), (allowed _ k, tt)))))

  first : Creates total (create_zone n z₀).answer (after z₀ (create_zone n z₀))
  unfolding create_zone stored
  first = rw (guarded_none (not_created n z₀) _ (allowed _ fit.size, (allowed _ fit.header, (allowed _ fit.tables, tt)))) (on total (Creating.Words 0) _ (omega arith) (
    omega (arith, fit.size.0),
    omega arith,
    record {
      header = set_only z₀.header 0 fit.header.0;
      words = not_filled _ _ _ fit.tables.0;
      children = not_filled _ _ _ fit.tables.1.0;
      trees = not_filled _ _ _ fit.tables.1.1.0;
      cpus = not_filled _ _ _ refl;
    },
  ))

  next : (d : ℕ) (s : Creating) (z : Zone) → At (suc d) s z → Creates d (create_step n z (Record.Create s)).answer (after z (create_step n z (Record.Create s)))
  unfolding creating_in create_stage stored cpu_word fresh
  next d (Creating.Words i) z (l, e, h) =
      let z' : Zone = stored format1 z (Store.word i fresh_word) in
      let h' : Stands g (suc i) 0 0 0 z' = record { header = h.header; words = one_more _ _ _ i l h.words; children = h.children; trees = h.trees; cpus = h.cpus } in
      rw (step_is z h (Creating.Words i) (l, tt)) (on d _ z' (omega arith) (onward (λ s. At d s z') i _ l (λ m. (m, omega arith, h')) (λ q. (fit.size.0, omega arith, rw q at h'))))
  next d (Creating.Children c) z (l, e, h) =
      let z' : Zone = stored format1 z (Store.child c.0 fresh_child) in
      let h' : Stands g (child_words * n) (suc c.0) 0 0 z' = record { header = h.header; words = h.words; children = one_more _ _ _ _ l h.children; trees = h.trees; cpus = h.cpus } in
      rw (step_is z h (Creating.Children c) (l, tt)) (on d _ z' (omega arith) (onward (λ s. At d s z') c.0 _ l (λ m. (m, omega arith, h')) (λ q. (trees+, omega arith, rw q at h'))))
  next d (Creating.Trees t) z (l, e, h) =
      let z' : Zone = stored format1 z (Store.tree t.0 0 (capacity g t.0)) in
      let h' : Stands g (child_words * n) n (suc t.0) 0 z' = record { header = h.header; words = h.words; children = h.children; trees = one_more _ _ _ _ l h.trees; cpus = h.cpus } in
      rw (step_is z h (Creating.Trees t) (l, tt)) (on d _ z' (omega arith) (onward (λ s. At d s z') t.0 _ l (λ m. (m, omega arith, h')) (λ q. (fit.tables.1.1.1.0, omega arith, rw q at h'))))
  next d (Creating.Cpus j) z (l, e, h) =
      let z' : Zone = stored format1 z (Store.cpu j CpuEntry.Absent) in
      let h' : Stands g (child_words * n) n (trees_of g) (suc j) z' = record { header = h.header; words = h.words; children = h.children; trees = h.trees; cpus = one_more _ _ _ j l h.cpus } in
      rw (step_is z h (Creating.Cpus j) (l, tt)) (on d _ z' (omega arith) (onward (λ s. At d s z') j _ l (λ m. (m, omega arith, h')) (λ q. (omega arith, rw q at h'))))
  next d Creating.Header z (e, h) = rw (step_is z h Creating.Header tt) (over Record.Create At Whole d _ (omega arith)
      (rw (h.header, filled_same _ _ _ h.words, filled_same _ _ _ h.children, filled _ _ _ h.trees, filled_same _ _ _ h.cpus)))

  run : (fuel : ℕ) → Creates (total - fuel) (creates n z₀ fuel).answer (creates n z₀ fuel).zone × ((creates n z₀ fuel).steps ≡ 1 + min total fuel)
  run fuel = way Record.Create At Whole (create_step n) next fuel total 1 _ _ first

  pub created : Created n z₀
  created =
      let e : total - create_steps g ≡ 0 = omega arith in
      let r = rw e at (run (create_steps g)).0 in
      record {
        answer = r.0;
        steps = omega (arith, (run (create_steps g)).1);
        zone = r.1;
        unborn = λ k h. let q : total - k ≡ suc (total - suc k) = omega arith in let s = rw q at (run k).0 in header_zero _ s.0 _ s.2;
      }
