-- The invariant outside an open zone: after a cut or a close, and inside an open; and how one phase leads to the next.
use Rattle.std.specs.Prelude.{Some}
use mathlib.Core.Path.{◌≡◌, refl, sym, ap, ◌∙◌}
use mathlib.Core.Logic.{◌⊎◌, inl, inr}
use mathlib.Core.Bool.{true, false, not}
use mathlib.Core.List.{List, [], ◌∷◌, ◌++◌}
use Prim.Native.Nat.{ℕ, zero, suc, ◌+◌, ◌*◌, ◌/◌, ◌%◌, ◌≤◌, ◌<◌}
use native.Mathlib.Omega.{arith}
use lib.ListN.{length, get_or}
use borrow.Author.Tests.{eq-eqb}
use Rattle.laws.specs.Tests.{pick}
use Rattle.laws.specs.Sum.{sum_to, sum_l}
use Rattle.laws.specs.Words.{zeros}
use Rattle.laws.specs.Fields.{Fit}
use Rattle.laws.proofs.Tests.{pick_elim, pick_yes, both_and, every_all}
use Rattle.laws.proofs.Sum.{sum_l_append, sum_ext, sum_zero, sum_bound}
use Rattle.laws.proofs.Parts.{part_at}
use Rattle.rules.specs.Types.{Block, Header, CpuEntry, Opening, Record}
use Rattle.rules.specs.Numbers.{child_frames, child_words, word_bits, most_huge, most_cpus, Shape, per_tree, trees_of, children_of}
use Rattle.rules.specs.Conversions.{huge}
use Rattle.rules.specs.Answers.{number}
use Rattle.rules.specs.Entries.{field, header_word, running, clean, tree_layout, tree_word, cpu_word, cpu_says}
use Rattle.rules.specs.Lower.{well_formed, is_flagged, count_in, zero_bits, empty_field}
use Rattle.rules.specs.Zone.{Zone, header_of, header_huge, shaped, shape_of}
use Rattle.rules.specs.Plan.{by_cpu, Plan}
use Rattle.rules.specs.Checks.{is_malformed, is_running, header_checks, length_checks}
use Rattle.rules.specs.Open.{child_at, zeros_at, children_formed, flags_empty, open_sound, open_zone}
use Rattle.rules.specs.Reopen.{child_after}
use Rattle.rules.specs.Events.{Cpu, resting, lost_by, lost_of, lost_all}
use Rattle.rules.specs.Promise.{owned_by}
use Rattle.rules.proofs.Shapes.{huge_is, number_in, kids_most}
use Rattle.rules.proofs.Layouts.{field_join, running_again, clean_again, absent_again}
use Rattle.rules.proofs.Fields.{zero_bits_lem, recounted}
use Rattle.rules.proofs.Ways.{guarded_none, allowed}
use Rattle.rules.proofs.Fresh.{child_at_lem, Accepts, accepts, Good, At, each}
use Rattle.rules.proofs.Own.{free_of, owned_same, Survived, survived_owned, free_most}
use Rattle.rules.proofs.Shares.{base_of, whole_of, low_of, owed, reserves, share, has, AgreesWith, Agrees}
use Rattle.rules.proofs.Upper.{entry_at, tally_at, flag_at}
use Rattle.rules.proofs.Invariant.{weighs, free_tree, Up}

-- ---- what is lost

pub lost_told : (c : Cpu) → Agrees c → lost_of c ≡ owned_by c.latest
unfolding lost_by
lost_told c a = go c.latest a
  where
    go : (q : Record) → AgreesWith c.begun c.marks q → lost_of c ≡ owned_by q
    go Record.Finished h = ap (λ b. lost_by b c.marks) h.0
    go (Record.Get i s) h = ap (λ b. lost_by b c.marks) h.1 ∙ h.3
    go (Record.Put i s) h = ap (λ b. lost_by b c.marks) h.1 ∙ h.2
    go (Record.Create y) h = absurd h
    go (Record.Open y) h = absurd h

pub lost_weighs : (w : Block → ℕ) (n : ℕ) (cs : ℕ → Cpu) → sum_l w (lost_all n cs) ≡ sum_to n (λ j. sum_l w (lost_of (cs j)))
unfolding lost_all sum_l sum_to
lost_weighs w zero cs = refl
lost_weighs w (suc n) cs = omega (arith, sum_l_append w (lost_of (cs n)) (lost_all n cs), lost_weighs w n cs)

-- ---- after a cut, or a close answered Done

abbrev pub weighed : (Block → ℕ) → List Block → List Block → ℕ
weighed w held lost = sum_l w held + sum_l w lost

-- words and children, with their owners
abbrev pub Kept : ℕ → Zone → List Block → List Block → Type 0
Kept n z held lost = Survived n z.children z.words (λ f. weighed (base_of f) held lost) (λ c. weighed (whole_of c) held lost)

abbrev pub Counted : ℕ → Zone → Type 0
Counted n z = (c : ℕ) → c < n → count_in (get_or z.children c 0) ≡ free_of z.children z.words c

pub record Down (n : ℕ) (z : Zone) (held lost : List Block) : Type 0 where
  pub some : 0 < n
  pub small : n ≤ most_huge
  -- a clean marker vouches for the counts
  pub header : (z.header ≡ header_word running n ∷ []) ⊎ ((z.header ≡ header_word clean n ∷ []) × Counted n z)
  pub trees : length z.trees ≡ trees_of (shaped n z)
  pub some_cpu : 0 < length z.cpus
  pub few_cpus_lem : length z.cpus ≤ most_cpus
  pub kept : Kept n z held lost

-- the same words and children, with the same owners
pub kept_same : (n : ℕ) (z z' : Zone) (held lost held' lost' : List Block) → z'.words ≡ z.words → z'.children ≡ z.children → ((w : Block → ℕ) → weighed w held' lost' ≡ weighed w held lost) → Kept n z held lost → Kept n z' held' lost'
kept_same n z z' held lost held' lost' p q e k = rw (p, q) (record {
  children = k.children;
  words = k.words;
  formed = k.formed;
  empty = k.empty;
  bits = λ f h. k.bits f h ∙ sym (e (base_of f));
  flags = λ c h. k.flags c h ∙ sym (e (whole_of c));
})

-- every operation is cut off
module _ (n : ℕ) (z : Zone) (cs : ℕ → Cpu) (held lost : List Block) (u : Up n z cs held lost) where
  pub cut_weighs : (w : Block → ℕ) → weighed w held (lost_all (length z.cpus) cs ++ lost) ≡ weighs w held lost (length z.cpus) cs
  cut_weighs w = omega (
    arith,
    sum_l_append w (lost_all (length z.cpus) cs) lost,
    lost_weighs w (length z.cpus) cs,
    sum_ext (length z.cpus) (λ j. sum_l w (lost_of (cs j))) (λ j. sum_l w (owned_by (cs j).latest)) (λ j h. ap (sum_l w) (lost_told (cs j) (u.agrees j))),
  )

  pub cut_kept : Kept n z held (lost_all (length z.cpus) cs ++ lost)
  cut_kept = record {
    children = u.lower.children;
    words = u.lower.words;
    formed = u.lower.formed;
    empty = u.lower.empty;
    bits = λ f h. u.lower.bits f h ∙ sym (cut_weighs (base_of f));
    flags = λ c h. u.lower.flags c h ∙ sym (cut_weighs (whole_of c));
  }

-- ---- the first step of an open

-- the zero bits of a child's field, as its tree's part holds it
pub zeros_at_lem : (g : Shape) → 0 < per_tree g → (z : Zone) (c : ℕ) → c < g.huge → zeros_at g z (huge c) ≡ zero_bits z.words c
unfolding zero_bits
zeros_at_lem g k+ z c h =
    let t : ℕ = c / per_tree g in
    let r : ℕ = c % per_tree g in
    let e : (i : ℕ) → child_words * (t * per_tree g) + (child_words * r + i) ≡ child_words * c + i = λ i. omega (arith, huge_is g k+ c) in
    sum_ext child_words _ _ (λ i l. ap (zeros word_bits) (part_at (child_words * (t * per_tree g)) (child_words * children_of g t) z.words (child_words * r + i) 0 (omega (arith, number_in g k+ c h)) ∙ ap (λ y. get_or z.words y 0) (e i)))

-- no child is malformed, and a flag stands over an empty field
module _ (n : ℕ) (z : Zone) (base whole : ℕ → ℕ) (k : Survived n z.children z.words base whole) where
  pub all_formed : children_formed (shaped n z) z ≡ true
  unfolding children_formed
  all_formed = every_all n _ (λ c h. ap well_formed (child_at_lem (shaped n z) (omega arith) z c h) ∙ k.formed c h)

  pub all_empty : flags_empty (shaped n z) z ≡ true
  unfolding flags_empty empty_field
  all_empty = every_all n _ (λ c h. pick_elim (λ b. b ≡ true) (is_flagged (child_at (shaped n z) z (huge c)))
      (λ f. eq-eqb _ _ (zeros_at_lem (shaped n z) (omega arith) z c h ∙ k.empty c h (pick_yes _ _ _ (sym (ap is_flagged (child_at_lem (shaped n z) (omega arith) z c h)) ∙ f)))) (λ f. refl))

module _ (n : ℕ) (z : Zone) (held lost : List Block) (d : Down n z held lost) where
  abbrev g : Shape
  g = shaped n z

  header_says_lem : (header_of z ≡ Some (Header.Running n)) ⊎ (header_of z ≡ Some (Header.Clean n))
  unfolding header_of
  header_says_lem = go d.header
    where
      go : (z.header ≡ header_word running n ∷ []) ⊎ ((z.header ≡ header_word clean n ∷ []) × Counted n z) → (header_of z ≡ Some (Header.Running n)) ⊎ (header_of z ≡ Some (Header.Clean n))
      go (inl e) = inl (rw e (running_again n d.some d.small))
      go (inr e) = inr (rw e.0 (clean_again n d.some d.small))

  pub down_huge : header_huge (header_of z) ≡ n
  unfolding header_huge
  down_huge = go header_says_lem
    where
      go : (header_of z ≡ Some (Header.Running n)) ⊎ (header_of z ≡ Some (Header.Clean n)) → header_huge (header_of z) ≡ n
      go (inl e) = ap header_huge e
      go (inr e) = ap header_huge e

  not_malformed : is_malformed (header_of z) ≡ false
  unfolding is_malformed
  not_malformed = go header_says_lem
    where
      go : (header_of z ≡ Some (Header.Running n)) ⊎ (header_of z ≡ Some (Header.Clean n)) → is_malformed (header_of z) ≡ false
      go (inl e) = ap is_malformed e
      go (inr e) = ap is_malformed e

  one_header : length z.header ≡ 1
  one_header = go d.header
    where
      go : (z.header ≡ header_word running n ∷ []) ⊎ ((z.header ≡ header_word clean n ∷ []) × Counted n z) → length z.header ≡ 1
      go (inl e) = ap length e
      go (inr e) = ap length e.0

  open_sound_lem : open_sound z ≡ true
  unfolding open_sound
  open_sound_lem = rw down_huge (both_and _ _ (all_formed n z _ _ d.kept) (pick_elim (λ b. b ≡ true) (is_running (header_of z)) (λ e. all_empty n z _ _ d.kept) (λ e. refl)))

  -- so the first step of an open is not refused
  pub accepted : Accepts z
  unfolding open_zone
  accepted = accepts z (ap (λ (p : Plan). number p.answer) (guarded_none _ _ (
    allowed (header_checks z) (one_header, tt),
    (not_malformed, (allowed (length_checks (shape_of z) z) (rw down_huge (d.kept.words, (d.kept.children, (d.trees, (d.some_cpu, (omega (arith, d.few_cpus_lem), tt)))))), (ap not open_sound_lem, tt))),
  )))

-- ---- inside an open

pub record Op (n : ℕ) (z : Zone) (r : Record) (held lost : List Block) : Type 0 where
  pub from : Zone
  pub down : Down n from held lost
  pub stage : Opening
  pub left : ℕ
  pub is : r ≡ Record.Open stage
  pub at : At from (accepted n from held lost down) (suc left) stage z

-- an open leaves words and flags alone
module _ (n : ℕ) (from z : Zone) (held lost : List Block) (d : Down n from held lost) (c t j : ℕ) (w : Good from c t j z) where
  abbrev was : ℕ → ℕ
  was i = child_at (shape_of from) from (huge i)

  pub from_at : (i : ℕ) → i < n → was i ≡ get_or from.children i 0
  from_at i h = child_at_lem (shape_of from) (omega arith) from i (rw (down_huge n from held lost d) h)

  -- a child as open leaves it
  after_child : (i : ℕ) → i < n → (well_formed (child_after from i) ≡ true) × (is_flagged (child_after from i) ≡ is_flagged (was i))
  after_child i h =
      let f : well_formed (was i) ≡ true = ap well_formed (from_at i h) ∙ d.kept.formed i h in
      pick_elim (λ x. (well_formed x ≡ true) × (is_flagged x ≡ is_flagged (was i))) (is_running (header_of from)) (λ e. let k = recounted _ (was i) (zero_bits_lem _ _) f in (k.0, k.1)) (λ e. (f, refl))

  pub now_child : (i : ℕ) → i < n → (well_formed (get_or z.children i 0) ≡ true) × (is_flagged (get_or z.children i 0) ≡ is_flagged (get_or from.children i 0))
  now_child i h =
      let a = after_child i h in
      let k = each from (accepted n from held lost d) (λ x. (well_formed x ≡ true) × (is_flagged x ≡ is_flagged (was i))) w i (rw (down_huge n from held lost d) h) (ap well_formed (from_at i h) ∙ d.kept.formed i h, refl) a in
      (k.0, k.1 ∙ ap is_flagged (from_at i h))

  pub good_kept : Kept n z held lost
  good_kept = record {
    children = w.children.size ∙ down_huge n from held lost d;
    words = ap length w.words ∙ d.kept.words;
    formed = λ i h. (now_child i h).0;
    empty = λ i h f. rw w.words (d.kept.empty i h (ap (λ b. pick b 1 0) (sym (now_child i h).1) ∙ f));
    bits = λ f h. rw w.words (d.kept.bits f h);
    flags = λ i h. ap (λ b. pick b 1 0) (now_child i h).1 ∙ d.kept.flags i h;
  }

  -- a cut inside an open
  pub good_down : (ts es : List ℕ) → length ts ≡ trees_of (shaped n z) → 0 < length es → length es ≤ most_cpus → Down n (record { header = z.header; words = z.words; children = z.children; trees = ts; cpus = es }) held lost
  unfolding trees_of
  good_down ts es a b q = record { some = d.some; small = d.small; header = inl (w.header ∙ ap (λ k. header_word running k ∷ []) (down_huge n from held lost d)); trees = a; some_cpu = b; few_cpus_lem = q; kept = good_kept }

-- nothing is under way
abbrev pub still : ℕ → Cpu
still j = resting

pub still_weighs : (w : Block → ℕ) (held lost : List Block) (n : ℕ) → weighs w held lost n still ≡ weighed w held lost
unfolding sum_l
still_weighs w held lost n = omega (arith, sum_zero n (λ j. sum_l w (owned_by (still j).latest)) (λ j h. refl))

-- an open zone in which nothing is under way: counts and tallies are true, no entry is present
pub up_still : (n : ℕ) (z : Zone) (held lost : List Block) → 0 < n → n ≤ most_huge → z.header ≡ header_word running n ∷ [] → 0 < length z.cpus → length z.cpus ≤ most_cpus → Kept n z held lost → Counted n z
    → length z.trees ≡ trees_of (shaped n z) → ((t : ℕ) → t < trees_of (shaped n z) → get_or z.trees t 0 ≡ tree_word 0 (free_tree (shaped n z) z.children z.words t)) → ((j : ℕ) → j < length z.cpus → get_or z.cpus j 0 ≡ 0)
    → Up n z still held lost
unfolding low_of owed reserves share has by_cpu cpu_word tree_word free_tree
up_still n z held lost a b h c d k q tl tt' cl = record {
  some = a;
  small = b;
  header = h;
  some_cpu = c;
  few_cpus_lem = d;
  lower = owned_same n z.children z.words _ _ _ (survived_owned n z.children z.words _ _ k q) _ _ _ (λ x. sum_zero C (λ j. low_of g (still j).latest x) (λ j m. low_none x)) (λ f. still_weighs (base_of f) held lost C) (λ c. still_weighs (whole_of c) held lost C);
  upper = record {
    trees = tl;
    cpus = refl;
    tallies = λ t m. omega (arith, tally t m, sum_zero C (λ j. share t (entry_at g z.cpus j)) (λ j y. ap (share t) (gone_all j y) ∙ share_none t), sum_zero C (λ j. owed g (still j).latest t) (λ j y. owed_none t));
    flags = λ t m. flag t m ∙ omega (arith, sum_zero C (λ j. has t (entry_at g z.cpus j)) (λ j y. ap (has t) (gone_all j y) ∙ has_none t), sum_zero C (λ j. reserves (still j).latest t) (λ j y. reserves_none t));
    sound = λ j m y. let e = sym (gone_all j m) ∙ y in let x : ◌≡◌ {A = ℕ} 0 1 = cc in omega arith;
    wanted = λ j m. tt;
    proper = λ j m. tt;
  };
  agrees = λ j. (refl, refl);
  beyond = λ j m. refl;
}
  where
    g : Shape
    g = shaped n z

    C : ℕ
    C = length z.cpus

    gone_all : (j : ℕ) → j < C → entry_at g z.cpus j ≡ Some CpuEntry.Absent
    gone_all j m = ap (cpu_says g) (cl j m) ∙ absent_again g

    low_none : (x : ℕ) → low_of g Record.Finished x ≡ 0
    low_none x = refl

    owed_none : (t : ℕ) → owed g Record.Finished t ≡ 0
    owed_none t = refl

    reserves_none : (t : ℕ) → reserves Record.Finished t ≡ 0
    reserves_none t = refl

    share_none : (t : ℕ) → share t (Some CpuEntry.Absent) ≡ 0
    share_none t = refl

    has_none : (t : ℕ) → has t (Some CpuEntry.Absent) ≡ 0
    has_none t = refl

    fits : (t : ℕ) → Fit tree_layout (0 ∷ free_tree g z.children z.words t ∷ [])
    fits t = (omega arith, (omega (arith, kids_most g (omega arith) t, sum_bound (children_of g t) child_frames (λ c. free_of z.children z.words (t * per_tree g + c)) (λ c m. free_most n z.children z.words _ _ _ (survived_owned n z.children z.words _ _ k q) (t * per_tree g + c))), tt))

    tally : (t : ℕ) → t < trees_of g → tally_at z.trees t ≡ free_tree g z.children z.words t
    tally t m = ap (field tree_layout 1) (tt' t m) ∙ field_join tree_layout (0 ∷ free_tree g z.children z.words t ∷ []) 1 (fits t)

    flag : (t : ℕ) → t < trees_of g → flag_at z.trees t ≡ 0
    flag t m = ap (field tree_layout 0) (tt' t m) ∙ field_join tree_layout (0 ∷ free_tree g z.children z.words t ∷ []) 0 (fits t)
