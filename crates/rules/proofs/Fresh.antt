-- A zone not yet made; open run to its end or cut on the way: table after table becomes what open leaves; and the runs together.
use Rattle.std.specs.Prelude.{Some}
use mathlib.Core.Path.{◌≡◌, refl, sym, ap, ◌∙◌}
use mathlib.Core.Bool.{Bool, true, false, not}
use mathlib.Core.List.{List, [], ◌∷◌}
use Prim.Native.Nat.{ℕ, zero, suc, ◌+◌, ◌-◌, ◌≤◌, ◌<◌, min}
use native.Mathlib.Omega.{arith}
use native.Mathlib.Decide.{dec_lt}
use lib.ListN.{length, get_or}
use lib.Seq.{get_or-set_other}
use borrow.Author.Tests.{not-false}
use Rattle.laws.specs.Tests.{pick, Passes}
use Rattle.laws.proofs.Tests.{pick_elim, pick_yes, pick_no, every_all, every_at, and_both}
use Rattle.laws.proofs.Parts.{part_at}
use Rattle.laws.proofs.Sum.{sum_ext}
use Rattle.rules.specs.Types.{Header, CpuEntry, Opening, Record, Answer}
use Rattle.rules.specs.Numbers.{most_huge, format1, Shape, per_tree, trees_of}
use Rattle.rules.specs.Conversions.{huge, tree}
use Rattle.rules.specs.Answers.{number}
use Rattle.rules.specs.Entries.{running, header_word, tree_word, cpu_word}
use Rattle.rules.specs.Lower.{well_formed, count_in, recount, part_sum}
use Rattle.rules.specs.Zone.{Zone, header_of, header_huge, shape_of, Store, stored}
use Rattle.rules.specs.Plan.{Plan, says, Refusal, guarded}
use Rattle.rules.specs.Checks.{header_checks, length_checks, is_malformed, is_clean, is_running, no_header, not_a_zone}
use Rattle.rules.specs.Ranges.{opening_in, open_range}
use Rattle.rules.specs.Begin.{begin_get, begin_put}
use Rattle.rules.specs.Step.{step, after}
use Rattle.rules.specs.Create.{done}
use Rattle.rules.specs.Open.{child_at, zeros_at, children_formed, flags_empty, child_count, opening, open_sound, open_zone, opening_sound, open_step_sound, open_stage, open_act, open_step, close_zone}
use Rattle.rules.specs.Fresh.{Unborn, opens, steps_of_open, Opened, Runs}
use Rattle.rules.specs.Reopen.{child_after, tree_after}
use Rattle.rules.proofs.Computed.{by_computation}
use Rattle.rules.proofs.Guards.{guarded_elim, not_refused}
use Rattle.rules.proofs.Shapes.{some_tree, child_in_lem, huge_is, number_in}
use Rattle.rules.proofs.Bounds.{header_sized}
use Rattle.rules.proofs.Fields.{zero_bits_lem, recounted}
use Rattle.rules.proofs.Layouts.{running_again}
use Rattle.rules.proofs.Ways.{guarded_none, allowed, onward, Way, goes, over, way}
use Rattle.rules.proofs.Created.{Filled, not_filled, one_more, set_only, created}

-- ---- a zone not yet made

second_refuses : (x y : Refusal) (l : List Refusal) (p : Plan) → x.test ≡ false → y.test ≡ true → (guarded (x ∷ (y ∷ l)) p).answer ≡ y.answer
unfolding guarded
second_refuses x y l p e h = ap (λ (q : Plan). q.answer) (pick_no x.test _ _ e ∙ pick_yes y.test _ _ h)

zero_malformed : (z : Zone) → z.header ≡ 0 ∷ [] → is_malformed (header_of z) ≡ true
unfolding by_computation
zero_malformed z e = rw e

unborn : (z : Zone) → z.header ≡ 0 ∷ [] → Unborn z
unfolding begin_get begin_put step open_zone open_step close_zone
unborn z e = record { get = λ cpu o. refused _ _; put = λ cpu f o. refused _ _; step = λ r. refused _ _; opens = refused _ _; open_step = λ r. refused _ _; close = refused _ _ }
  where
    refused : (l : List Refusal) (p : Plan) → (guarded (no_header z ∷ (not_a_zone z ∷ l)) p).answer ≡ Answer.NotAZone
    refused l p = second_refuses (no_header z) (not_a_zone z) l p (allowed (header_checks z) (ap length e, tt)) (zero_malformed z e)

-- a child as its tree's part holds it
pub child_at_lem : (g : Shape) → 0 < per_tree g → (z : Zone) (i : ℕ) → i < g.huge → child_at g z (huge i) ≡ get_or z.children i 0
child_at_lem g k+ z i h = part_at _ _ z.children _ 0 (number_in g k+ i h) ∙ ap (λ j. get_or z.children j 0) (huge_is g k+ i)

-- ---- open

-- a first step that is not refused: what it found, and its plan
pub record Accepts (z : Zone) : Type 0 where
  pub sized : (0 < (shape_of z).huge) × ((shape_of z).huge ≤ most_huge)
  pub header : Passes (header_checks z)
  pub tables : Passes (length_checks (shape_of z) z)
  pub formed : (i : ℕ) → i < (shape_of z).huge → well_formed (child_at (shape_of z) z (huge i)) ≡ true
  pub empty : is_running (header_of z) ≡ true → flags_empty (shape_of z) z ≡ true
  pub plan : open_zone z ≡ says (Store.header (header_word running (shape_of z).huge)) (opening (pick (is_running (header_of z)) (Opening.Children (huge 0)) (Opening.Trees (tree 0))))

pub accepts : (z : Zone) → number (open_zone z).answer ≡ 1 → Accepts z
unfolding open_zone header_of open_sound children_formed
accepts z = guarded_elim (λ (p : Plan). number p.answer ≡ 1 → Accepts z) _ _ (λ e. absurd (omega arith), (λ e. absurd (omega arith), (λ e. absurd (omega arith), (λ e. absurd (omega arith), tt)))) (λ n e.
    let s = and_both _ _ (not-false _ n.1.1.1.0) in
    record {
      sized = header_sized (get_or z.header 0 0) n.1.0;
      header = not_refused (header_checks z) n.0;
      tables = not_refused (length_checks (shape_of z) z) n.1.1.0;
      formed = every_at _ _ s.0;
      empty = λ r. sym (pick_yes _ _ _ r) ∙ s.1;
      plan = guarded_none _ _ n;
    })

pub header_is : (z : Zone) (n : ℕ) → (0 < n) × (n ≤ most_huge) → z.header ≡ header_word running n ∷ [] → header_of z ≡ Some (Header.Running n)
unfolding header_of
header_is z n h e = rw e (running_again n h.0 h.1)

-- under way from the tables z₀ on: the marker is running, and c children, t trees and j CPUs are as open leaves them
pub record Good (z₀ : Zone) (c t j : ℕ) (z : Zone) : Type 0 where
  pub header : z.header ≡ header_word running (shape_of z₀).huge ∷ []
  pub words : z.words ≡ z₀.words
  pub children : Filled (child_after z₀) (shape_of z₀).huge z.children c
  pub others : (i : ℕ) → c ≤ i → i < (shape_of z₀).huge → get_or z.children i 0 ≡ child_at (shape_of z₀) z₀ (huge i)
  pub trees : Filled (tree_after z₀) (trees_of (shape_of z₀)) z.trees t
  pub cpus : Filled (λ i. 0) (shape_of z₀).cpus z.cpus j

module _ (z₀ : Zone) (ok : Accepts z₀) where
  abbrev pub g : Shape
  g = shape_of z₀

  abbrev pub n : ℕ
  n = g.huge

  trees+ : 0 < trees_of g
  trees+ = some_tree g (omega arith) ok.sized.0

  -- what holds of a child as it was and as open leaves it holds of it on the way
  pub each : (Q : ℕ → Type 0) {c t j : ℕ} {z : Zone} → Good z₀ c t j z → (i : ℕ) → i < n → Q (child_at g z₀ (huge i)) → Q (child_after z₀ i) → Q (get_or z.children i 0)
  each Q {c} h i l x y = elim (dec_lt i c) [
    | yes m ↦ rw (h.children.same i m) y
    | no m ↦ rw (h.others i (omega arith) l) x
  ]

  formed : {c t j : ℕ} {z : Zone} → Good z₀ c t j z → (i : ℕ) → i < n → well_formed (get_or z.children i 0) ≡ true
  formed h i l = each (λ x. well_formed x ≡ true) h i l (ok.formed i l) (pick_elim (λ x. well_formed x ≡ true) (is_running (header_of z₀)) (λ e. (recounted _ _ (zero_bits_lem _ _) (ok.formed i l)).0) (λ e. ok.formed i l))

  -- a stage with d steps left
  abbrev pub At : ℕ → Opening → Zone → Type 0
  At d (Opening.Children c) z = (c.0 < n) × (c.0 + d ≡ n + trees_of g + g.cpus) × (is_running (header_of z₀) ≡ true) × Good z₀ c.0 0 0 z
  At d (Opening.Trees t) z = (t.0 < trees_of g) × (t.0 + d ≡ trees_of g + g.cpus) × Good z₀ n t.0 0 z
  At d (Opening.Cpus j) z = (j < g.cpus) × (j + d ≡ g.cpus) × Good z₀ n (trees_of g) j z

  abbrev pub Whole : Zone → Type 0
  Whole = Good z₀ n (trees_of g) g.cpus

  abbrev pub Opens : ℕ → Answer → Zone → Type 0
  Opens = Way Record.Open At Whole

  on : (d : ℕ) (s : Opening) (z : Zone) → 0 < d → At d s z → Opens d (opening s) z
  on = goes Record.Open At Whole

  sound : {c t j : ℕ} (z : Zone) → Good z₀ c t j z → (s : Opening) → Passes (opening_in g s) → opening_sound g z s ≡ true
  unfolding opening_sound opening_in
  sound z h (Opening.Children c) l = ap well_formed (child_at_lem g (omega arith) z c.0 l.0) ∙ formed h c.0 l.0
  sound z h (Opening.Trees t) l = every_all _ _ (λ c m. ap well_formed (part_at _ _ z.children c 0 m) ∙ formed h _ (child_in_lem g (omega arith) t.0 c m))
  sound z h (Opening.Cpus j) l = refl

  -- a stage in range is not refused
  step_is : {c t j : ℕ} (z : Zone) → Good z₀ c t j z → (s : Opening) → Passes (opening_in g s) → open_step z (Record.Open s) ≡ open_stage g z s
  unfolding open_step open_act open_range open_step_sound header_huge is_malformed is_clean
  step_is z h s l = rw (header_is z n ok.sized h.header, h.cpus.size) (guarded_none _ _ (allowed _ (ap length h.header, tt), (refl, (refl, (allowed _ (ap length h.words ∙ ok.tables.0, (h.children.size, (h.trees.size, ok.tables.1.1.1))), (allowed _ l, (ap not (sound z h s l), tt)))))))

  -- the child and the tree that a stage stores
  child_stored : {t j : ℕ} (z : Zone) (c : ℕ) → c < n → is_running (header_of z₀) ≡ true → Good z₀ c t j z → recount (zeros_at g z (huge c)) (child_at g z (huge c)) ≡ child_after z₀ c
  child_stored z c l r h = rw (h.words, child_at_lem g (omega arith) z c l, h.others c (omega arith) l) (sym (pick_yes _ _ _ r))

  tree_stored : {j : ℕ} (z : Zone) (t : ℕ) → Good z₀ n t j z → tree_word 0 (child_count g z (tree t)) ≡ tree_after z₀ t
  unfolding child_count part_sum
  tree_stored z t h = ap (tree_word 0) (sum_ext _ _ _ (λ c l. ap count_in (part_at _ _ z.children c 0 l ∙ h.children.same _ (child_in_lem g (omega arith) t c l))))

  pub next : (d : ℕ) (s : Opening) (z : Zone) → At (suc d) s z → Opens d (open_step z (Record.Open s)).answer (after z (open_step z (Record.Open s)))
  unfolding opening_in open_stage stored cpu_word
  next d (Opening.Children c) z (l, e, r, h) =
      let v : ℕ = recount (zeros_at g z c) (child_at g z c) in
      let z' : Zone = stored format1 z (Store.child c.0 v) in
      let h' : Good z₀ (suc c.0) 0 0 z' = record {
        header = h.header;
        words = h.words;
        children = rw (child_stored z c.0 l r h) (one_more _ _ _ _ l h.children);
        others = λ i m k. get_or-set_other z.children c.0 i v 0 (omega arith) ∙ h.others i (omega arith) k;
        trees = h.trees;
        cpus = h.cpus;
      } in
      rw (step_is z h (Opening.Children c) (l, tt)) (on d _ z' (omega arith) (onward (λ s. At d s z') c.0 _ l (λ m. (m, omega arith, r, h')) (λ q. (trees+, omega arith, rw q at h'))))
  next d (Opening.Trees t) z (l, e, h) =
      let z' : Zone = stored format1 z (Store.tree t.0 0 (child_count g z t)) in
      let h' : Good z₀ n (suc t.0) 0 z' = record { header = h.header; words = h.words; children = h.children; others = h.others; trees = rw (tree_stored z t.0 h) (one_more _ _ _ _ l h.trees); cpus = h.cpus } in
      rw (step_is z h (Opening.Trees t) (l, tt)) (on d _ z' (omega arith) (onward (λ s. At d s z') t.0 _ l (λ m. (m, omega arith, h')) (λ q. (ok.tables.1.1.1.0, omega arith, rw q at h'))))
  next d (Opening.Cpus j) z (l, e, h) =
      let z' : Zone = stored format1 z (Store.cpu j CpuEntry.Absent) in
      let h' : Good z₀ n (trees_of g) (suc j) z' = record { header = h.header; words = h.words; children = h.children; others = h.others; trees = h.trees; cpus = one_more _ _ _ j l h.cpus } in
      rw (step_is z h (Opening.Cpus j) (l, tt)) (onward (λ a. Opens d a z') j _ l (λ m. on d _ z' (omega arith) (m, omega arith, h')) (λ q. over Record.Open At Whole d z' (omega arith) (rw q at h')))

  -- all steps but the first
  abbrev pub total : ℕ
  total = pick (is_running (header_of z₀)) n 0 + trees_of g + g.cpus

  -- with a running marker from the children on, else from the trees on
  pub first : Opens total (open_zone z₀).answer (after z₀ (open_zone z₀))
  unfolding stored pick
  first = rw ok.plan (go (is_running (header_of z₀)) refl)
    where
      z₁ : Zone
      z₁ = stored format1 z₀ (Store.header (header_word running n))

      good : (c : ℕ) → c ≤ n → ((i : ℕ) → i < c → child_at g z₀ (huge i) ≡ child_after z₀ i) → Good z₀ c 0 0 z₁
      good c m q = record {
        header = set_only z₀.header _ ok.header.0;
        words = refl;
        children = record { size = ok.tables.1.0; same = λ i l. sym (child_at_lem g (omega arith) z₀ i (omega arith)) ∙ q i l };
        others = λ i k l. sym (child_at_lem g (omega arith) z₀ i l);
        trees = not_filled _ _ _ ok.tables.1.1.0;
        cpus = not_filled _ _ _ refl;
      }

      go : (b : Bool) → is_running (header_of z₀) ≡ b → Opens (pick b n 0 + trees_of g + g.cpus) (opening (pick b (Opening.Children (huge 0)) (Opening.Trees (tree 0)))) z₁
      go true e = on (n + trees_of g + g.cpus) _ z₁ (omega arith) (ok.sized.0, omega arith, e, good 0 (omega arith) (λ i l. absurd (omega arith)))
      go false e = on (0 + trees_of g + g.cpus) _ z₁ (omega arith) (trees+, omega arith, good n (omega arith) (λ i l. sym (pick_no _ _ _ e)))

  run : (fuel : ℕ) → Opens (total - fuel) (opens z₀ fuel).answer (opens z₀ fuel).zone × ((opens z₀ fuel).steps ≡ 1 + min total fuel)
  run fuel = way Record.Open At Whole open_step next fuel total 1 _ _ first

  -- how far open has come, after any number of steps and after all
  pub at_good : (d : ℕ) (s : Opening) (z : Zone) → At d s z → (c : ℕ) × (t : ℕ) × (j : ℕ) × Good z₀ c t j z
  at_good d (Opening.Children c) z h = (_, _, _, h.3)
  at_good d (Opening.Trees t) z h = (_, _, _, h.2)
  at_good d (Opening.Cpus j) z h = (_, _, _, h.2)

  way_good : (d : ℕ) (a : Answer) (z : Zone) → Opens d a z → (c : ℕ) × (t : ℕ) × (j : ℕ) × Good z₀ c t j z
  way_good zero a z h = (_, _, _, h.1)
  way_good (suc d) a z h = at_good (suc d) h.0 z h.2

  pub reached : (fuel : ℕ) → (c : ℕ) × (t : ℕ) × (j : ℕ) × Good z₀ c t j (opens z₀ fuel).zone
  reached fuel = way_good (total - fuel) _ _ (run fuel).0

  pub ended : ((opens z₀ (steps_of_open z₀)).answer ≡ done) × Whole (opens z₀ (steps_of_open z₀)).zone
  ended = let e : total - steps_of_open z₀ ≡ 0 = omega arith in rw e at (run (steps_of_open z₀)).0

  opened : Opened z₀
  opened = record { answer = ended.0; steps = omega (arith, (run (steps_of_open z₀)).1) }

pub runs : Runs
runs = record { create = created; unborn = unborn; open' = λ z h. opened z (accepts z h) }
