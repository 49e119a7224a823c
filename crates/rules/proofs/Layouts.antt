-- Packed entries: their round trips, and what breaks a layout.
use Rattle.std.specs.Prelude.{Option, Some, None}
use mathlib.Core.Path.{◌≡◌, refl, sym, ap, ◌∙◌}
use mathlib.Core.Logic.{inl, inr, ◌↔◌, ◌≢◌}
use mathlib.Core.Bool.{true, false}
use mathlib.Core.List.{List, [], ◌∷◌}
use Prim.Native.Nat.{ℕ, suc, ◌*◌, ◌^◌, ◌≤◌, ◌<◌}
use native.Mathlib.Omega.{arith}
use native.Mathlib.Nat.{mod-eq_of_lt, mul-le-mul_left}
use native.Mathlib.Decide.{dec_lt}
use lib.Dec.{eqb, leb}
use lib.ListN.{get_or}
use lib.Pow.{pow_pos}
use borrow.Author.Tests.{eqb-true, eqb-false, ne_eqb, leb-true, leb-false, le-leb}
use Rattle.laws.specs.Tests.{pick, Check, ◌is◌, ◌below◌, passes, Passes}
use Rattle.laws.specs.Fields.{width, split, join, Fit}
use Rattle.laws.proofs.Tests.{pick_elim, pick_yes, pick_no, true_false, all_passed, passes_of}
use Rattle.laws.proofs.Fields.{split_join, join_split}
use Rattle.rules.specs.Types.{Tree, Header, ChildEntry, TreeEntry, CpuEntry}
use Rattle.rules.specs.Numbers.{child_frames, most_huge, format1, Shape, per_tree, capacity}
use Rattle.rules.specs.Conversions.{tree}
use Rattle.rules.specs.Entries.{field, header_layout, header_checks, identifier, running, clean, header_says, header_word, tree_layout, tree_says, tree_word, cpu_layout, holds_checks, cpu_says, cpu_word, tallied}
use Rattle.rules.specs.Lower.{child_layout, child_says, count_word, flagged_word}
use Rattle.rules.specs.Layouts.{Sound, Trips, ChildLaidOut, TreeLaidOut, CpuLaidOut, Layouts}
use Rattle.rules.proofs.Shapes.{tree_first, kids_most}

pub format1_sound : Sound format1
format1_sound = record { some = omega arith; starts = omega arith; counts = omega arith; trees = omega arith; entry = omega arith; tree = omega arith }

trips : (layout : List ℕ) (bits : ℕ) → width layout ≡ bits → Trips layout bits
trips layout bits e = record {
  wide = e;
  word = λ x h. join_split layout x ∙ rw e (mod-eq_of_lt h);
  fields = split_join layout;
}

-- a field of joined values is the value
pub field_join : (layout vs : List ℕ) (i : ℕ) → Fit layout vs → field layout i (join layout vs) ≡ get_or vs i 0
unfolding field
field_join layout vs i h = ap (λ l. get_or l i 0) (split_join layout vs h)

-- ---- what is stored is read again

header_again : (marker n : ℕ) → marker < 4 → 0 < n → n ≤ most_huge → (h : Option Header)
    → pick (eqb marker running) (Some (Header.Running n)) (pick (eqb marker clean) (Some (Header.Clean n)) None) ≡ h → header_says (header_word marker n) ≡ h
unfolding header_says header_word
header_again marker n a b c h e =
    let vs : List ℕ = identifier ∷ 1 ∷ marker ∷ n ∷ 0 ∷ [] in
    let f : Fit header_layout vs = (omega arith, (omega arith, (omega arith, (omega arith, (omega arith, tt))))) in
    let x : ℕ = join header_layout vs in
    let p : Passes (header_checks x) = (field_join header_layout vs 0 f, (field_join header_layout vs 1 f, (rw (field_join header_layout vs 3 f) b, (rw (field_join header_layout vs 3 f) (omega arith), (field_join header_layout vs 4 f, tt))))) in
    rw (passes_of (header_checks x) p, field_join header_layout vs 2 f, field_join header_layout vs 3 f) (pick_yes true _ _ refl ∙ e)

pub running_again : (n : ℕ) → 0 < n → n ≤ most_huge → header_says (header_word running n) ≡ Some (Header.Running n)
unfolding pick
running_again n b c = header_again running n (omega arith) b c (Some (Header.Running n)) refl

pub clean_again : (n : ℕ) → 0 < n → n ≤ most_huge → header_says (header_word clean n) ≡ Some (Header.Clean n)
unfolding pick
clean_again n b c = header_again clean n (omega arith) b c (Some (Header.Clean n)) refl

pub count_again : (k : ℕ) → k ≤ child_frames → child_says (count_word k) ≡ Some (ChildEntry.Counts k)
unfolding child_says count_word
count_again k h =
    let vs : List ℕ = 0 ∷ 0 ∷ k ∷ [] in
    let f : Fit child_layout vs = (omega arith, (omega arith, (omega arith, tt))) in
    let x : ℕ = join child_layout vs in
    rw (field_join child_layout vs 0 f, field_join child_layout vs 1 f, field_join child_layout vs 2 f) (pick_yes _ _ _ (passes_of (0 is 0 ∷ 0 is 0 ∷ k below suc child_frames ∷ []) (refl, (refl, (omega arith, tt)))))

pub flagged_again : child_says flagged_word ≡ Some ChildEntry.Flagged
unfolding child_says flagged_word field split join width passes pick
flagged_again = refl

pub tally_again : (g : Shape) (t : Tree) (r k : ℕ) → Sound g.format → r < 2 → k ≤ capacity g t.0 → tree_says g t (tree_word r k) ≡ Some (tallied r k)
unfolding tree_says tree_word
tally_again g t r k m a b =
    let vs : List ℕ = r ∷ k ∷ [] in
    let f : Fit tree_layout vs = (omega arith, (omega (arith, kids_most g m.some t.0, m.tree), tt)) in
    rw (field_join tree_layout vs 0 f, field_join tree_layout vs 1 f) (pick_yes _ _ _ (le-leb k (capacity g t.0) b))

-- a tree's number fits its field
tree_fits : (k n b t : ℕ) → t * k < n → n ≤ k * b → t < b
tree_fits k n b t h l = elim (dec_lt t b) [
  | yes p ↦ p
  | no p ↦ let m : k * b ≤ k * t = mul-le-mul_left k (omega arith) in absurd (omega arith)
]

joined_some : (ws vs : List ℕ) → join (1 ∷ ws) (1 ∷ vs) ≢ 0
unfolding join
joined_some ws vs e = let p = pow_pos (width ws) in omega arith

pub holds_again : (g : Shape) (t : Tree) (s k : ℕ) → Sound g.format → g.huge ≤ most_huge → Passes (holds_checks g t s k) → cpu_says g (cpu_word g.format (CpuEntry.Holds t s k)) ≡ Some (CpuEntry.Holds t s k)
unfolding cpu_says cpu_word
holds_again g t s k m n p =
    let lay : List ℕ = cpu_layout g.format in
    let vs : List ℕ = 1 ∷ t.0 ∷ s ∷ k ∷ 0 ∷ [] in
    let kids = kids_most g m.some t.0 in
    let a : t.0 < 2 ^ g.format.tree_bits = tree_fits (per_tree g) g.huge (2 ^ g.format.tree_bits) t.0 (tree_first g m.some t.0 p.0) (omega (arith, m.trees)) in
    let f : Fit lay vs = (omega arith, (a, (omega (arith, m.starts, p.1.0), (omega (arith, m.counts, p.1.1.0), (pow_pos _, tt))))) in
    let x : ℕ = join lay vs in
    let y : x ≢ 0 = joined_some _ (t.0 ∷ s ∷ k ∷ 0 ∷ []) in
    let q : Passes (1 is 1 ∷ 0 is 0 ∷ holds_checks g t s k) = (refl, (refl, p)) in
    pick_no (eqb x 0) _ _ (ne_eqb x 0 y)
    ∙ rw (field_join lay vs 0 f, field_join lay vs 1 f, field_join lay vs 2 f, field_join lay vs 3 f, field_join lay vs 4 f) (pick_yes _ _ _ (passes_of _ q))

pub absent_again : (g : Shape) → cpu_says g (cpu_word g.format CpuEntry.Absent) ≡ Some CpuEntry.Absent
unfolding cpu_says cpu_word pick
absent_again g = refl

-- ---- what breaks a layout: an entry's view, with what is known of its fields

pub data ChildView (x : ℕ) : Option ChildEntry → Type 0 where
  broken : (ChildLaidOut x → ⊥) → ChildView x None
  counts : Passes (field child_layout 0 x is 0 ∷ field child_layout 1 x is 0 ∷ field child_layout 2 x below suc child_frames ∷ []) → ChildView x (Some (ChildEntry.Counts (field child_layout 2 x)))
  flagged : Passes (field child_layout 0 x is 1 ∷ field child_layout 1 x is 0 ∷ field child_layout 2 x is 0 ∷ []) → ChildView x (Some ChildEntry.Flagged)

pub child_view : (x : ℕ) → ChildView x (child_says x)
unfolding child_says
child_view x =
    let a : List Check = field child_layout 0 x is 0 ∷ field child_layout 1 x is 0 ∷ field child_layout 2 x below suc child_frames ∷ [] in
    let b : List Check = field child_layout 0 x is 1 ∷ field child_layout 1 x is 0 ∷ field child_layout 2 x is 0 ∷ [] in
    pick_elim (ChildView x) (passes a) (λ e. counts (all_passed a e)) (λ e. pick_elim (ChildView x) (passes b) (λ f. flagged (all_passed b f)) (λ f. broken (neither e f)))
  where
    neither : passes (field child_layout 0 x is 0 ∷ field child_layout 1 x is 0 ∷ field child_layout 2 x below suc child_frames ∷ []) ≡ false
        → passes (field child_layout 0 x is 1 ∷ field child_layout 1 x is 0 ∷ field child_layout 2 x is 0 ∷ []) ≡ false → ChildLaidOut x → ⊥
    neither e f (z, inl h) = true_false (sym (passes_of _ (h.0, (z, (omega (arith, h.1), tt)))) ∙ e)
    neither e f (z, inr h) = true_false (sym (passes_of _ (h.0, (z, (h.1, tt)))) ∙ f)

bad_child_lem : (x : ℕ) → child_says x ≡ None ↔ (ChildLaidOut x → ⊥)
bad_child_lem x = go (child_says x) (child_view x)
  where
    go : (e : Option ChildEntry) → ChildView x e → e ≡ None ↔ (ChildLaidOut x → ⊥)
    go None (broken n) = (λ q. n, λ q. refl)
    go (Some (ChildEntry.Counts k)) (counts p) = (λ q. let z : ◌≡◌ {A = ℕ} 0 1 = cc in absurd (omega arith), λ n. absurd (n (p.1.0, inl (p.0, omega (arith, p.1.1.0)))))
    go (Some ChildEntry.Flagged) (flagged p) = (λ q. let z : ◌≡◌ {A = ℕ} 0 1 = cc in absurd (omega arith), λ n. absurd (n (p.1.0, inr (p.0, p.1.1.0))))

bad_tree_lem : (g : Shape) (t : Tree) (x : ℕ) → tree_says g t x ≡ None ↔ (TreeLaidOut g t x → ⊥)
unfolding tree_says
bad_tree_lem g t x = pick_elim (λ e. e ≡ None ↔ (TreeLaidOut g t x → ⊥)) (leb (field tree_layout 1 x) (capacity g t.0))
    (λ b. (λ q. let z : ◌≡◌ {A = ℕ} 0 1 = cc in absurd (omega arith), λ n. absurd (n (leb-true _ _ b))))
    (λ b. (λ q h. omega (arith, leb-false (field tree_layout 1 x) (capacity g t.0) b), λ n. refl))

pub data CpuView (g : Shape) (x : ℕ) : Option CpuEntry → Type 0 where
  broken_cpu : (CpuLaidOut g x → ⊥) → CpuView g x None
  absent : x ≡ 0 → CpuView g x (Some CpuEntry.Absent)
  holds : field (cpu_layout g.format) 0 x ≡ 1 → field (cpu_layout g.format) 4 x ≡ 0
      → Passes (holds_checks g (tree (field (cpu_layout g.format) 1 x)) (field (cpu_layout g.format) 2 x) (field (cpu_layout g.format) 3 x))
      → CpuView g x (Some (CpuEntry.Holds (tree (field (cpu_layout g.format) 1 x)) (field (cpu_layout g.format) 2 x) (field (cpu_layout g.format) 3 x)))

pub cpu_view : (g : Shape) (x : ℕ) → CpuView g x (cpu_says g x)
unfolding cpu_says
cpu_view g x =
    let f : ℕ → ℕ = λ i. field (cpu_layout g.format) i x in
    let l : List Check = f 0 is 1 ∷ f 4 is 0 ∷ holds_checks g (tree (f 1)) (f 2) (f 3) in
    pick_elim (CpuView g x) (eqb x 0) (λ e. absent (eqb-true x 0 e)) (λ e. pick_elim (CpuView g x) (passes l) (λ p. let q = all_passed l p in holds q.0 q.1.0 q.1.1) (λ p. broken_cpu (neither (eqb-false x 0 e) p)))
  where
    neither : x ≢ 0 → passes (field (cpu_layout g.format) 0 x is 1 ∷ field (cpu_layout g.format) 4 x is 0 ∷ holds_checks g (tree (field (cpu_layout g.format) 1 x)) (field (cpu_layout g.format) 2 x) (field (cpu_layout g.format) 3 x)) ≡ false → CpuLaidOut g x → ⊥
    neither n p (inl e) = n e
    neither n p (inr h) = true_false (sym (passes_of _ (h.0, (h.1, h.2))) ∙ p)

bad_cpu_lem : (g : Shape) (x : ℕ) → cpu_says g x ≡ None ↔ (CpuLaidOut g x → ⊥)
bad_cpu_lem g x = go (cpu_says g x) (cpu_view g x)
  where
    go : (e : Option CpuEntry) → CpuView g x e → e ≡ None ↔ (CpuLaidOut g x → ⊥)
    go None (broken_cpu n) = (λ q. n, λ q. refl)
    go (Some CpuEntry.Absent) (absent p) = (λ q. let z : ◌≡◌ {A = ℕ} 0 1 = cc in absurd (omega arith), λ n. absurd (n (inl p)))
    go (Some (CpuEntry.Holds t s k)) (holds a b p) = (λ q. let z : ◌≡◌ {A = ℕ} 0 1 = cc in absurd (omega arith), λ n. absurd (n (inr (a, b, p))))

pub layouts : Layouts
unfolding width
layouts = record {
  format = format1_sound;
  header = trips header_layout 64 refl;
  child = trips child_layout 16 refl;
  tree = trips tree_layout 16 refl;
  cpu = trips (cpu_layout format1) 64 refl;
  running = running_again;
  clean = clean_again;
  counts = count_again;
  flagged = flagged_again;
  tallies = tally_again;
  holds = holds_again;
  absent = absent_again;
  bad_child = bad_child_lem;
  bad_tree = bad_tree_lem;
  bad_cpu = bad_cpu_lem;
}
