-- The upper level's invariant: trees, CPU entries and records add up to the free frames F of each tree. It knows no word and no child.
use Rattle.std.specs.Prelude.{Option, Some, None}
use mathlib.Core.Path.{◌≡◌, refl, sym, ap, ◌∙◌, subst}
use mathlib.Core.Logic.{◌≢◌}
use mathlib.Core.List.{List, [], ◌∷◌}
use Prim.Native.Nat.{ℕ, ◌+◌, ◌≤◌, ◌<◌}
use native.Mathlib.Omega.{arith}
use native.Mathlib.Nat.{zero-add}
use native.Mathlib.Decide.{ℕ_discrete}
use lib.ListN.{length, get_or, set, length-set}
use lib.Seq.{get_or-set_same, get_or-set_other}
use Rattle.laws.specs.Fields.{Fit}
use Rattle.laws.specs.Sum.{sum_to, at, upd}
use Rattle.laws.proofs.Sum.{sum_upd, sum_set, set_at, upd_at, upd_other}
use Rattle.rules.specs.Types.{CpuEntry, Record}
use Rattle.rules.specs.Numbers.{Shape, trees_of, capacity}
use Rattle.rules.specs.Entries.{field, tree_layout, tree_word, cpu_says, cpu_word}
use Rattle.rules.specs.Plan.{by_cpu}
use Rattle.rules.specs.Layouts.{Sound}
use Rattle.rules.proofs.Shapes.{kids_most}
use Rattle.rules.proofs.Layouts.{field_join, absent_again}
use Rattle.rules.proofs.Shares.{share, has, owed, reserves, Want, anything, mine, gone, Wanted, want, Proper}

-- ---- what the tables say
abbrev pub tally_at : List ℕ → ℕ → ℕ
tally_at ts t = field tree_layout 1 (get_or ts t 0)

abbrev pub flag_at : List ℕ → ℕ → ℕ
flag_at ts t = field tree_layout 0 (get_or ts t 0)

abbrev pub entry_at : Shape → List ℕ → ℕ → Option CpuEntry
entry_at g es j = cpu_says g (get_or es j 0)

module _ (g : Shape) where
  abbrev pub shares : List ℕ → ℕ → ℕ
  shares es t = sum_to g.cpus (λ j. share t (entry_at g es j))

  abbrev pub holders : List ℕ → ℕ → ℕ
  holders es t = sum_to g.cpus (λ j. has t (entry_at g es j))

  abbrev pub owing : (ℕ → Record) → ℕ → ℕ
  owing R t = sum_to g.cpus (λ j. owed g (R j) t)

  abbrev pub reserving : (ℕ → Record) → ℕ → ℕ
  reserving R t = sum_to g.cpus (λ j. reserves (R j) t)

pub record Upper (g : Shape) (ts es : List ℕ) (R : ℕ → Record) (F : ℕ → ℕ) : Type 0 where
  pub trees : length ts ≡ trees_of g
  pub cpus : length es ≡ g.cpus
  -- a tree's count, the counts of the entries that hold it and what operations owe it are its free frames
  pub tallies : (t : ℕ) → t < trees_of g → tally_at ts t + shares g es t + owing g R t ≡ F t
  -- a tree is reserved by one entry or one record
  pub flags : (t : ℕ) → t < trees_of g → flag_at ts t ≡ holders g es t + reserving g R t
  -- no entry breaks its layout, and each is as its CPU's operation wants it
  pub sound : (j : ℕ) → j < g.cpus → entry_at g es j ≢ None
  pub wanted : (j : ℕ) → j < g.cpus → Wanted (want (R j)) (entry_at g es j)
  -- each record is in range, and its CPU's own
  pub proper : (j : ℕ) → j < g.cpus → Proper g j (R j)

-- what is wanted of an entry, an absent one is
pub absent_wanted : (w : Want) (e : Option CpuEntry) → e ≡ Some CpuEntry.Absent → Wanted w e
absent_wanted anything e h = tt
absent_wanted (mine t) e h = λ u s k q. let z : ◌≡◌ {A = ℕ} 0 1 = cc in absurd (omega arith)
absent_wanted gone e h = h

module _ (g : Shape) (m : Sound g.format) (ts es : List ℕ) (R : ℕ → Record) (F : ℕ → ℕ) (u : Upper g ts es R F) (j : ℕ) (l : j < g.cpus) (r : Record) (e : R j ≡ r) (r' : Record) where
  -- one record changes, and the tables and free frames with it
  move : (ts' es' : List ℕ) (F' : ℕ → ℕ) → length ts' ≡ trees_of g → length es' ≡ g.cpus
      → ((t : ℕ) → t < trees_of g → tally_at ts' t + shares g es' t + owed g r' t + F t ≡ tally_at ts t + shares g es t + owed g r t + F' t)
      → ((t : ℕ) → t < trees_of g → flag_at ts' t + holders g es t + reserves r t ≡ flag_at ts t + holders g es' t + reserves r' t)
      → ((i : ℕ) → i < g.cpus → entry_at g es' i ≢ None) → ((i : ℕ) → i < g.cpus → j ≢ i → Wanted (want (R i)) (entry_at g es' i))
      → Wanted (want r') (entry_at g es' j) → Proper g j r' → Upper g ts' es' (upd R j r') F'
  move ts' es' F' a b c d s w x y = record {
    trees = a;
    cpus = b;
    tallies = λ t h. omega (arith, c t h, u.tallies t h, sum_upd (λ q. owed g q t) g.cpus j R r r' l e);
    flags = λ t h. omega (arith, d t h, u.flags t h, sum_upd (λ q. reserves q t) g.cpus j R r r' l e);
    sound = s;
    wanted = λ i h. elim (ℕ_discrete j i) [
      | yes q ↦ subst (λ i. Wanted (want (upd R j r' i)) (entry_at g es' i)) q (subst (λ v. Wanted (want v) (entry_at g es' j)) (sym (upd_at R j r' j refl)) x)
      | no q ↦ subst (λ v. Wanted (want v) (entry_at g es' i)) (sym (upd_other R j r' i q)) (w i h q)
    ];
    proper = λ i h. elim (ℕ_discrete j i) [
      | yes q ↦ subst (λ i. Proper g i (upd R j r' i)) q (subst (Proper g j) (sym (upd_at R j r' j refl)) y)
      | no q ↦ subst (Proper g i) (sym (upd_other R j r' i q)) (u.proper i h)
    ];
  }

  -- nothing of the upper level is stored
  pub record_changed : (F' : ℕ → ℕ) → ((t : ℕ) → t < trees_of g → owed g r' t + F t ≡ owed g r t + F' t) → ((t : ℕ) → reserves r t ≡ reserves r' t)
      → Wanted (want r') (entry_at g es j) → Proper g j r' → Upper g ts es (upd R j r') F'
  record_changed F' o v w p = move ts es F' u.trees u.cpus (λ t h. omega (arith, o t h)) (λ t h. omega (arith, v t)) u.sound (λ i h q. u.wanted i h) w p

  -- a tree's entry is stored
  pub tree_stored : (t b k : ℕ) → t < trees_of g → b < 2 → k ≤ capacity g t → ((x : ℕ) → at t k x + owed g r' x ≡ at t (tally_at ts t) x + owed g r x)
      → ((x : ℕ) → at t b x + reserves r x ≡ at t (flag_at ts t) x + reserves r' x) → Wanted (want r') (entry_at g es j) → Proper g j r' → Upper g (set ts t (tree_word b k)) es (upd R j r') F
  unfolding tree_word
  tree_stored t b k h c d o v w p =
      let f : Fit tree_layout (b ∷ k ∷ []) = (c, (omega (arith, kids_most g m.some t, m.tree), tt)) in
      let n : t < length ts = omega (arith, u.trees) in
      move (set ts t (tree_word b k)) es F (length-set ts t _ ∙ u.trees) u.cpus
      (λ x q. omega (arith, o x, rw (field_join tree_layout (b ∷ k ∷ []) 1 f) at (set_at (field tree_layout 1) ts t (tree_word b k) 0 n x)))
      (λ x q. omega (arith, v x, rw (field_join tree_layout (b ∷ k ∷ []) 0 f) at (set_at (field tree_layout 0) ts t (tree_word b k) 0 n x)))
      u.sound (λ i h q. u.wanted i h) w p

  -- CPU i's entry is stored
  entry_stored : (i v : ℕ) (c : CpuEntry) → i < g.cpus → cpu_says g v ≡ Some c → Some c ≢ None
      → ((t : ℕ) → share t (Some c) + owed g r' t ≡ share t (entry_at g es i) + owed g r t) → ((t : ℕ) → has t (Some c) + reserves r' t ≡ has t (entry_at g es i) + reserves r t)
      → ((k : ℕ) → k < g.cpus → j ≢ k → Wanted (want (R k)) (entry_at g (set es i v) k)) → Wanted (want r') (entry_at g (set es i v) j) → Proper g j r' → Upper g ts (set es i v) (upd R j r') F
  entry_stored i v c h q d o s w x p =
      let n : i < length es = omega (arith, u.cpus) in
      move ts (set es i v) F u.trees (length-set es i v ∙ u.cpus)
      (λ t y. omega (arith, o t, rw q at (sum_set (λ z. share t (cpu_says g z)) g.cpus i es v 0 h n)))
      (λ t y. omega (arith, s t, rw q at (sum_set (λ z. has t (cpu_says g z)) g.cpus i es v 0 h n)))
      (λ k y. elim (ℕ_discrete k i) [
        | yes z ↦ rw (z, get_or-set_same es i v 0 n, q) d
        | no z ↦ rw (get_or-set_other es i k v 0 z) (u.sound k y)
      ]) w x p

  -- the own entry
  pub own_stored : (c : CpuEntry) → cpu_says g (cpu_word g.format c) ≡ Some c → Some c ≢ None
      → ((t : ℕ) → share t (Some c) + owed g r' t ≡ share t (entry_at g es j) + owed g r t) → ((t : ℕ) → has t (Some c) + reserves r' t ≡ has t (entry_at g es j) + reserves r t)
      → Wanted (want r') (Some c) → Proper g j r' → Upper g ts (set es j (cpu_word g.format c)) (upd R j r') F
  own_stored c q d o s w p =
      let v : ℕ = cpu_word g.format c in
      let n : j < length es = omega (arith, u.cpus) in
      entry_stored j v c l q d o s (λ k h z. rw (get_or-set_other es j k v 0 (λ y. z (sym y))) (u.wanted k h)) (rw (get_or-set_same es j v 0 n, q) w) p

  -- another CPU's entry becomes absent
  pub other_absent : (i : ℕ) → i < g.cpus → i ≢ j → ((t : ℕ) → owed g r' t ≡ share t (entry_at g es i) + owed g r t) → ((t : ℕ) → reserves r' t ≡ has t (entry_at g es i) + reserves r t)
      → Wanted (want r') (entry_at g es j) → Proper g j r' → Upper g ts (set es i (cpu_word g.format CpuEntry.Absent)) (upd R j r') F
  unfolding share has by_cpu
  other_absent i h q o s w p =
      let v : ℕ = cpu_word g.format CpuEntry.Absent in
      let n : i < length es = omega (arith, u.cpus) in
      entry_stored i v CpuEntry.Absent h (absent_again g) (λ y. let z : ◌≡◌ {A = ℕ} 0 1 = cc in omega arith) (λ t. zero-add _ ∙ o t) (λ t. zero-add _ ∙ s t)
      (λ k y z. elim (ℕ_discrete k i) [
        | yes a ↦ absent_wanted (want (R k)) _ (ap (λ b. cpu_says g (get_or (set es i v) b 0)) a ∙ ap (cpu_says g) (get_or-set_same es i v 0 n) ∙ absent_again g)
        | no a ↦ rw (get_or-set_other es i k v 0 a) (u.wanted k y)
      ])
      (rw (get_or-set_other es i j v 0 (λ y. q (sym y))) w) p
