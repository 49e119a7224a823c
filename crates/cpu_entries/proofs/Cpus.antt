-- A CPU's entry in code: split by shifts and masks, joined again, what its fields say; and what each return of a step on it has to show.
use Rattle.std.specs.Prelude.{Option, Some, None, Result, Ok, Err, IsErrAnd}
use mathlib.Core.Path.{◌≡◌, refl, sym, ap, ◌∙◌}
use mathlib.Core.Logic.{◌≢◌}
use mathlib.Core.Bool.{true, false}
use mathlib.Core.List.{List, [], ◌∷◌}
use Prim.Native.Nat.{ℕ, ◌+◌, ◌-◌, ◌*◌, ◌/◌, ◌%◌, ◌^◌, ◌≤◌, ◌<◌}
use native.Mathlib.Omega.{arith}
use native.Mathlib.Nat.{div-one}
use lib.Dec.{eqb}
use lib.Bits.{bit_and, bit_or, and_mask}
use lib.ListN.{set}
use borrow.Author.Tests.{eq-eqb, ne_eqb, eqb-true}
use Rattle.laws.specs.Tests.{pick, Check, ◌is◌, passes, Passes}
use Rattle.laws.specs.Tables.{Outcome, outcome}
use Rattle.laws.specs.Fields.{width, split, join}
use Rattle.laws.proofs.Tests.{pick_elim, pick_yes, pick_no, passes_of, fails_of}
use Rattle.laws.proofs.Fields.{masked, joined, shifted}
use Rattle.rules.specs.Numbers.{format1, Shape, trees_of, children_of, capacity}
use Rattle.rules.specs.Conversions.{tree}
use Rattle.rules.specs.Entries.{field, cpu_layout, holds_checks, cpu_says, cpu_word}
use Rattle.rules.specs.Plan.{by_change, by_cpu, laid_out}
use Rattle.rules.proofs.Shapes.{kids_some}
use Rattle.rules.proofs.Guards.{holds_in}
use Rattle.cpu_entries.specs.Types.{Tree, CpuEntry, Fault, Size, CpuFields, Held}
use Rattle.entries.specs.Sizes.{shape_of}
use Rattle.cpu_entries.specs.Steps.{cpu_fields, look_cpu_in, held_as, held_in, cpu_step, if_holds}
use Rattle.entries.specs.Turns.{Turn, looks, stores}
use Rattle.cpu_entries.specs.Turns.{cpu_turned, on_cpu}
use Rattle.entries.proofs.Turns.{within_in, Read, read, refused}

-- ---- split and joined

pub cpu_split : (x : ℕ) → x < 2 ^ 64 → record { present = x / 2 ^ 63; tree = bit_and (x / 2 ^ 52) (2 ^ 11 - 1); start = bit_and (x / 2 ^ 47) (2 ^ 5 - 1); count = bit_and (x / 2 ^ 32) (2 ^ 15 - 1); zero = bit_and x (2 ^ 32 - 1) } ≡ cpu_fields x
unfolding field split width
cpu_split x h =
    let a : x / 2 ^ 63 % 2 ^ 1 ≡ x / 2 ^ 63 = omega arith in
    rw (a, masked x 52 11, masked x 47 5, masked x 32 15, and_mask x 32, div-one x)

pub cpu_join : (t s k : ℕ) → t < 2 ^ 11 → s < 2 ^ 5 → k < 2 ^ 15
    → bit_or (bit_or (bit_or ((1 * 2 ^ 63) % 2 ^ 64) ((t * 2 ^ 52) % 2 ^ 64)) ((s * 2 ^ 47) % 2 ^ 64)) ((k * 2 ^ 32) % 2 ^ 64) ≡ join (cpu_layout format1) (1 ∷ t ∷ s ∷ k ∷ 0 ∷ [])
unfolding join width
cpu_join t s k a b c =
    joined 47 (joined 52 (joined 63 (shifted 64 1 63 (omega arith)) (shifted 64 t 52 (omega arith)) refl (omega arith)) (shifted 64 s 47 (omega arith)) (omega arith) (omega arith)) (shifted 64 k 32 (omega arith)) (omega arith) (omega arith)
    ∙ omega arith

-- ---- what the fields say

-- a tree with a child exists
tree_exists : (m : Size) (t : ℕ) → 0 < children_of (shape_of m) t → t < trees_of (shape_of m)
unfolding children_of trees_of
tree_exists m t h = omega arith

present_small : (x : ℕ) → (cpu_fields x).present < 2
unfolding field split width
present_small x = omega arith

module _ (m : Size) where
  abbrev sound : CpuFields → List Check
  sound f = f.present is 1 ∷ f.zero is 0 ∷ holds_checks (shape_of m) (tree f.tree) f.start f.count

  -- the entry of the fields of a word that is not 0
  abbrev said_by : CpuFields → Option CpuEntry
  said_by f = pick (passes (sound f)) (Some (CpuEntry.Holds (tree f.tree) f.start f.count)) None

  pub says_absent : (x : ℕ) → x ≡ 0 → Some CpuEntry.Absent ≡ cpu_says (shape_of m) x
  unfolding cpu_says
  says_absent x e = sym (pick_yes _ _ _ (eq-eqb x 0 e))

  module _ (x : ℕ) (f : CpuFields) (e : f ≡ cpu_fields x) (n : x ≢ 0) where
    says_fields : cpu_says (shape_of m) x ≡ said_by f
    unfolding cpu_says
    says_fields = pick_no _ _ _ (ne_eqb x 0 n) ∙ ap said_by (sym e)

    pub says_damaged : (Passes (sound f) → ⊥) → None ≡ cpu_says (shape_of m) x
    says_damaged h = sym (says_fields ∙ pick_no _ _ _ (fails_of (sound f) h))

    pub says_holds : f.present ≢ 0 → f.zero ≡ 0 → f.start < children_of (shape_of m) f.tree → f.count ≤ capacity (shape_of m) f.tree → Some (CpuEntry.Holds (tree f.tree) f.start f.count) ≡ cpu_says (shape_of m) x
    says_holds p z s k =
        let q : f.present ≡ (cpu_fields x).present = ap (λ (f : CpuFields). f.present) e in
        let a : f.present ≡ 1 = omega (arith, present_small x) in
        sym (says_fields ∙ pick_yes _ _ _ (passes_of (sound f) (a, (z, (tree_exists m f.tree (omega arith), (s, (omega arith, tt)))))))

-- ---- an entry to be stored

-- what a laid-out entry holds fits its fields
pub fields_fit : (m : Size) (t : Tree) (s k : ℕ) → m.0 < 2 ^ 16 → Passes (holds_checks (shape_of m) t s k) → (t.0 < 2 ^ 11) × (s < 2 ^ 5) × (k < 2 ^ 15)
unfolding trees_of children_of
fields_fit m t s k h p = (omega (arith, p.0), omega (arith, p.1.0), omega (arith, p.1.1.0))

-- an entry that holds a tree keeps its layout with a smaller count, with a larger one up to the capacity, with another of the tree's children
module _ (g : Shape) (x : ℕ) {t : Tree} {s k : ℕ} (e : cpu_says g x ≡ Some (CpuEntry.Holds t s k)) where
  pub less_laid : (n : ℕ) → Passes (holds_checks g t s (k - n))
  less_laid n = let p = holds_in g x t s k e in (p.0, (p.1.0, (omega (arith, p.1.1.0), tt)))

  pub more_laid : (n : ℕ) → k + n ≤ capacity g t.0 → Passes (holds_checks g t s (k + n))
  more_laid n h = let p = holds_in g x t s k e in (p.0, (p.1.0, (omega (arith, p.1.1.0), tt)))

  pub start_laid : (c : ℕ) → c < children_of g t.0 → Passes (holds_checks g t c k)
  start_laid c h = let p = holds_in g x t s k e in (p.0, (h, p.1.1))

-- an entry anew, with start child 0
pub anew_laid : (m : Size) (t : Tree) (k : ℕ) → t.0 < trees_of (shape_of m) → k ≤ capacity (shape_of m) t.0 → Passes (holds_checks (shape_of m) t 0 k)
anew_laid m t k h l = (h, (kids_some (shape_of m) (omega arith) t.0 h, (omega arith, tt)))

-- v is the word of a laid-out entry
pub record Packed (g : Shape) (e : CpuEntry) (v : ℕ) : Type 0 where
  pub laid : laid_out g e ≡ true
  pub word : v ≡ cpu_word format1 e

pub absent_packed : {g : Shape} → Packed g CpuEntry.Absent 0
unfolding laid_out by_cpu cpu_word
absent_packed = record { laid = refl; word = refl }

pub holds_packed : {g : Shape} {t : Tree} {s k v : ℕ} → Passes (holds_checks g t s k) → v ≡ join (cpu_layout format1) (1 ∷ t.0 ∷ s ∷ k ∷ 0 ∷ []) → Packed g (CpuEntry.Holds t s k) v
unfolding laid_out by_cpu cpu_word
holds_packed p e = record { laid = passes_of (holds_checks _ _ _ _) p; word = e }

pub not_laid : (g : Shape) (t : Tree) (s k : ℕ) → (Passes (holds_checks g t s k) → ⊥) → laid_out g (CpuEntry.Holds t s k) ≡ false
unfolding laid_out by_cpu
not_laid g t s k h = fails_of (holds_checks g t s k) h

-- ---- a step on the entry

module _ {A : Type 0} (g : Shape) (damaged : A) (j : ℕ) (l : List ℕ) where
  -- what a turn comes to: it looks, it stores, or what it would store is not laid out
  pub data Turned (m : Turn CpuEntry A) : Outcome A → Type 0 where
    kept : {a : A} → m ≡ looks a → Turned m (outcome a l)
    stored : {a : A} {e : CpuEntry} {v : ℕ} → m ≡ stores e a → Packed g e v → Turned m (outcome a (set l j v))
    broken : {a : A} {e : CpuEntry} → m ≡ stores e a → laid_out g e ≡ false → Turned m (outcome damaged l)

  turned : {m : Turn CpuEntry A} {x : Outcome A} → Turned m x → x ≡ cpu_turned g damaged j m l
  unfolding cpu_turned by_change
  turned (kept e) = rw e refl
  turned (stored e p) = rw (e, p.word) (sym (pick_yes _ _ _ p.laid))
  turned (broken e p) = rw e (sym (pick_no _ _ _ p))

-- the entry read
module _ (m : Size) (j : ℕ) (l : List ℕ) where
  abbrev pub CpuRead : CpuEntry → Type 0
  CpuRead e = Read (cpu_says (shape_of m)) j l e

  pub cpu_read : {e d : CpuEntry} → Ok e ≡ look_cpu_in m j l → e ≡ d → CpuRead d
  unfolding look_cpu_in
  cpu_read q p = read _ _ _ (ap Ok (sym p) ∙ q)

  -- the return of a step, by what the entry says
  module _ {A : Type 0} (a : Turn CpuEntry (Result A Fault)) (f : Tree → ℕ → ℕ → Turn CpuEntry (Result A Fault)) where
    pub cpu_refused : {r : Result A Fault} {x : Fault} → IsErrAnd r (λ y. y ≡ x) → Err x ≡ look_cpu_in m j l → outcome r l ≡ cpu_step m j a f l
    unfolding look_cpu_in on_cpu by_cpu
    cpu_refused u q = refused (cpu_says (shape_of m)) j l u q (λ s. rw s refl)

    pub cpu_absent : {x : Outcome (Result A Fault)} → CpuRead CpuEntry.Absent → Turned (shape_of m) (Err Fault.Damaged) j l a x → x ≡ cpu_step m j a f l
    unfolding on_cpu by_cpu
    cpu_absent r t = within_in _ j l r.there (rw r.told (turned _ _ j l t))

    pub cpu_holds : {t : Tree} {s k : ℕ} {x : Outcome (Result A Fault)} → CpuRead (CpuEntry.Holds t s k) → Turned (shape_of m) (Err Fault.Damaged) j l (f t s k) x → x ≡ cpu_step m j a f l
    unfolding on_cpu by_cpu
    cpu_holds r t = within_in _ j l r.there (rw r.told (turned _ _ j l t))

  -- the same turn for an absent entry and for one that holds a tree
  pub cpu_sound : {A : Type 0} (a : Turn CpuEntry (Result A Fault)) (e : CpuEntry) {x : Outcome (Result A Fault)} → CpuRead e → Turned (shape_of m) (Err Fault.Damaged) j l a x → x ≡ cpu_step m j a (λ t s k. a) l
  cpu_sound a CpuEntry.Absent r t = cpu_absent a (λ t s k. a) r t
  cpu_sound a (CpuEntry.Holds u s k) r t = cpu_holds a (λ t s k. a) r t

  -- ---- an entry that holds tree t: it holds another, or it holds t

  module _ (t : Tree) where
    -- it holds t
    pub held_read : {o : Option Held} {h : Held} → Ok o ≡ held_in m j t l → o ≡ Some h → CpuRead (CpuEntry.Holds t h.start h.count)
    unfolding held_in
    held_read {h = h} q p = go (look_cpu_in m j l) refl (ap Ok (sym p) ∙ q)
      where
        go : (o : Result CpuEntry Fault) → look_cpu_in m j l ≡ o → Ok (Some h) ≡ held_as t o → CpuRead (CpuEntry.Holds t h.start h.count)
        go (Ok CpuEntry.Absent) e q = let z : ◌≡◌ {A = ℕ} 0 1 = cc in absurd (omega arith)
        go (Ok (CpuEntry.Holds u s k)) e q = pick_elim (λ (o : Option Held). ◌≡◌ {A = Result (Option Held) Fault} (Ok (Some h)) (Ok o) → CpuRead (CpuEntry.Holds t h.start h.count)) (eqb u.0 t.0)
            (λ b q. let v : ◌≡◌ {A = Held} h (record { start = s; count = k }) = cc in cpu_read (sym e) (rw v (ap (λ i. CpuEntry.Holds (tree i) s k) (eqb-true _ _ b))))
            (λ b q. let z : ◌≡◌ {A = ℕ} 0 1 = cc in absurd (omega arith)) q
        go (Err x) e q = let z : ◌≡◌ {A = ℕ} 0 1 = cc in absurd (omega arith)

    module _ {A : Type 0} (missed : A) (f : ℕ → ℕ → Turn CpuEntry (Result A Fault)) where
      abbrev if_held : Tree → ℕ → ℕ → Turn CpuEntry (Result A Fault)
      if_held u s k = pick (eqb u.0 t.0) (f s k) (looks (Ok missed))

      pub held_refused : {r : Result A Fault} {x : Fault} → IsErrAnd r (λ y. y ≡ x) → Err x ≡ held_in m j t l → outcome r l ≡ if_holds m missed j t f l
      unfolding held_in
      held_refused {r} {x} u q = go (look_cpu_in m j l) refl q
        where
          go : (o : Result CpuEntry Fault) → look_cpu_in m j l ≡ o → Err x ≡ held_as t o → outcome r l ≡ if_holds m missed j t f l
          go (Ok CpuEntry.Absent) e q = let z : ◌≡◌ {A = ℕ} 0 1 = cc in absurd (omega arith)
          go (Ok (CpuEntry.Holds v s k)) e q = let z : ◌≡◌ {A = ℕ} 0 1 = cc in absurd (omega arith)
          go (Err y) e q = let p : x ≡ y = cc in cpu_refused (looks (Ok missed)) if_held u (ap Err p ∙ sym e)

      pub held_missed : {o : Option Held} → Ok o ≡ held_in m j t l → o ≡ None → outcome (Ok missed) l ≡ if_holds m missed j t f l
      unfolding held_in
      held_missed q p = go (look_cpu_in m j l) refl (ap Ok (sym p) ∙ q)
        where
          go : (o : Result CpuEntry Fault) → look_cpu_in m j l ≡ o → Ok None ≡ held_as t o → outcome (Ok missed) l ≡ if_holds m missed j t f l
          go (Ok CpuEntry.Absent) e q = cpu_absent (looks (Ok missed)) if_held (cpu_read (sym e) refl) (kept refl)
          go (Ok (CpuEntry.Holds v s k)) e q = pick_elim (λ (o : Option Held). ◌≡◌ {A = Result (Option Held) Fault} (Ok None) (Ok o) → outcome (Ok missed) l ≡ if_holds m missed j t f l) (eqb v.0 t.0)
              (λ b q. let z : ◌≡◌ {A = ℕ} 0 1 = cc in absurd (omega arith))
              (λ b q. cpu_holds (looks (Ok missed)) if_held (cpu_read (sym e) refl) (kept (pick_no _ _ _ b))) q
          go (Err y) e q = let z : ◌≡◌ {A = ℕ} 0 1 = cc in absurd (omega arith)

      pub held_turned : {s k : ℕ} {x : Outcome (Result A Fault)} → CpuRead (CpuEntry.Holds t s k) → Turned (shape_of m) (Err Fault.Damaged) j l (f s k) x → x ≡ if_holds m missed j t f l
      held_turned {s} {k} r z =
          let p : if_held t s k ≡ f s k = pick_yes _ _ _ (eq-eqb t.0 t.0 refl) in
          cpu_holds (looks (Ok missed)) if_held r (rw p z)
