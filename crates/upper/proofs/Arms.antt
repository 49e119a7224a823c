-- The arms of a dispatcher: what a stage says of its table is what the rule, carried out on the zone, says.
use mathlib.Core.Path.{◌≡◌, refl, subst, ap, ◌∙◌}
use mathlib.Core.List.{List, [], ◌∷◌, ◌++◌}
use Prim.Native.Nat.{ℕ, ◌+◌, ◌*◌, ◌≤◌, ◌<◌}
use native.Mathlib.Omega.{arith}
use lib.ListN.{length}
use borrow.Author.Tests.{lt-ltb}
use Rattle.laws.specs.Tests.{Check, ◌below◌, Passes}
use Rattle.laws.specs.Tables.{Outcome, outcome}
use Rattle.laws.proofs.Tests.{pick_yes, passes_of, passes_left, passes_right}
use Rattle.rules.specs.declared.Run.{Run}
use Rattle.rules.specs.declared.Block.{Block}
use Rattle.rules.specs.declared.Place.{Place}
use Rattle.rules.specs.declared.Taking.{Taking}
use Rattle.rules.specs.Numbers.{child_words, Shape as Rules, trees_of, children_of}
use Rattle.rules.specs.Blocks.{huge_of_block, tree_of_block, child_of_block}
use Rattle.rules.specs.Places.{place_tree}
use Rattle.rules.specs.Ranges.{child_in, block_in, cpu_in, place_in, found_in, taking_in, giving_in}
use Rattle.rules.specs.Zone.{Zone, stored}
use Rattle.rules.specs.Plan.{Made, Tally, Step, no_entry, cpu_entry, tree_entry, child_entry, word_entry, carried}
use Rattle.rules.specs.Take.{take}
use Rattle.rules.specs.Give.{clear, give}
use Rattle.rules.proofs.Shapes.{tree_in_lem, number_in}
use Rattle.rules.proofs.Falls.{pass_tree_lem, place_tree_lem}
use Rattle.places.specs.Shapes.{shape_of, ranged}
use Rattle.places.proofs.Ranges.{trees_same}
use Rattle.cpu_stages.specs.Tables.{in_cpus}
use Rattle.tree_stages.specs.Tables.{in_trees}
use Rattle.child_stages.specs.Tables.{in_children}
use Rattle.word_stages.specs.Tables.{in_words, eighth}
use Rattle.upper.specs.Types.{Tree, Order, Giving, CpuEntry, Answer, Shape}
use Rattle.calls.specs.Results.{zone, Result, result_of, done, Fits}
use Rattle.upper.proofs.Carried.{with_cpus, with_trees, with_children, with_words, cpu_carried, tree_carried, child_carried, word_carried}

-- the entry that a step reads is one of the zone's
abbrev Stands : Rules → Step → Type 0
Stands g (no_entry a) = Unit {0}
Stands g (cpu_entry j a f) = j < g.cpus
Stands g (tree_entry t f) = t.0 < trees_of g
Stands g (child_entry t c f) = (t.0 < trees_of g) × (c < children_of g t.0)
Stands g (word_entry t i f) = (t.0 < trees_of g) × (i < child_words * children_of g t.0)

-- ---- a step in range stands

module _ (s : Shape) (cpu : ℕ) where
  huge_in_lem : (b : Block) → Passes (block_in (shape_of s) b) → (huge_of_block b).0 < (shape_of s).huge
  huge_in_lem (Block.Run v f) h = let l = h.0 in omega arith
  huge_in_lem (Block.Whole i) h = h.0

  block_stands : (b : Block) → Passes (block_in (shape_of s) b) → ((tree_of_block (shape_of s) b).0 < trees_of (shape_of s)) × (child_of_block (shape_of s) b < children_of (shape_of s) (tree_of_block (shape_of s) b).0)
  block_stands b h = let l = huge_in_lem b h in (tree_in_lem (shape_of s) (omega arith) (huge_of_block b).0 l, number_in (shape_of s) (omega arith) (huge_of_block b).0 l)

  word_of_eight : (v : Run) (p : Place) (i k w : ℕ) → Passes (taking_in (shape_of s) cpu (Taking.Word v p i k w)) → w < child_words
  unfolding taking_in
  word_of_eight v p i k w h = (passes_right (place_in (shape_of s) cpu p) _ h).1.1.0

  child_stands : (p : Place) (i k : ℕ) (l : List Check) → cpu < s.cpus → Passes (place_in (shape_of s) cpu p ++ (child_in (shape_of s) (place_tree p) i ++ (child_in (shape_of s) (place_tree p) k ++ l)))
      → ((place_tree p).0 < trees_of (shape_of s)) × (k < children_of (shape_of s) (place_tree p).0)
  child_stands p i k l d h = (place_tree_lem (shape_of s) (omega arith) (omega arith) cpu d p (passes_left (place_in (shape_of s) cpu p) _ h), (passes_right (place_in (shape_of s) cpu p) _ h).1.0)

  take_stands : (stage : Taking) → Passes (cpu_in (shape_of s) cpu ++ taking_in (shape_of s) cpu stage) → Stands (shape_of s) (take (shape_of s) cpu stage)
  unfolding take taking_in found_in
  take_stands (Taking.Own o) h = h.0
  take_stands (Taking.TakeCount o t) h = h.1.0
  take_stands (Taking.FillEntry o t x) h = h.0
  take_stands (Taking.ReturnHand o t x) h = h.1.0
  take_stands (Taking.LookAgain o t) h = h.0
  take_stands (Taking.Release o p) h = h.0
  take_stands (Taking.Unreserve o p x) h = place_tree_lem (shape_of s) (omega arith) (omega arith) cpu h.0 p (passes_left (place_in (shape_of s) cpu p) _ h.1)
  take_stands (Taking.Try o p) h = pass_tree_lem (shape_of s) (omega arith) (omega arith) cpu h.0 p h.1
  take_stands (Taking.Write o f x) h = h.0
  take_stands (Taking.Steal o j) h = h.1.0
  take_stands (Taking.StealCount o j t x) h = h.1.1.1.0
  take_stands (Taking.Child o p i k) h = child_stands p i k [] h.0 h.1
  take_stands (Taking.Word v p i k w) h = let l = child_stands p i k (w below child_words ∷ []) h.0 h.1 in (l.0, omega (arith, l.1, word_of_eight v p i k w h.1))
  take_stands (Taking.GiveBack v p i k) h = child_stands p i k [] h.0 h.1
  take_stands (Taking.Last b) h = h.0
  take_stands (Taking.Fail o p) h = place_tree_lem (shape_of s) (omega arith) (omega arith) cpu h.0 p h.1
  take_stands Taking.NoRoom h = tt

  give_stands : (stage : Giving) → Passes (cpu_in (shape_of s) cpu ++ giving_in (shape_of s) stage) → Stands (shape_of s) (give (shape_of s) cpu stage)
  unfolding give clear giving_in
  give_stands (Giving.Clear (Block.Run v f)) h = let l = block_stands (Block.Run v f) h.1 in (l.0, omega (arith, l.1))
  give_stands (Giving.Clear (Block.Whole i)) h = block_stands (Block.Whole i) h.1
  give_stands (Giving.Raise v f) h = block_stands (Block.Run v f) h.1
  give_stands (Giving.ToEntry b) h = h.0
  give_stands (Giving.ToTree b) h = (block_stands b h.1).0

-- ---- what a stage in range has not to refuse: its block is in the zone, its word one of eight

-- the block that a put gives back
abbrev pub given_back : Giving → Block
given_back (Giving.Clear b) = b
given_back (Giving.Raise v f) = Block.Run v f
given_back (Giving.ToEntry b) = b
given_back (Giving.ToTree b) = b

module _ (s : Shape) (f : List ℕ → Outcome Answer) (l : List ℕ) where
  block_in_lem : (b : Block) → Passes (block_in (shape_of s) b) → ranged (shape_of s) b f l ≡ f l
  unfolding ranged
  block_in_lem b h = pick_yes _ _ _ (passes_of (block_in (shape_of s) b) h)

  given_in : (x : Giving) → Passes (giving_in (shape_of s) x) → ranged (shape_of s) (given_back x) f l ≡ f l
  unfolding giving_in
  given_in (Giving.Clear b) h = block_in_lem b h
  given_in (Giving.Raise v i) h = block_in_lem (Block.Run v i) h
  given_in (Giving.ToEntry b) h = block_in_lem b h
  given_in (Giving.ToTree b) h = block_in_lem b h

  word_in : (cpu : ℕ) (v : Run) (p : Place) (i k w : ℕ) → Passes (taking_in (shape_of s) cpu (Taking.Word v p i k w)) → eighth w f l ≡ f l
  unfolding eighth
  word_in cpu v p i k w h = pick_yes _ _ _ (lt-ltb w child_words (word_of_eight s cpu v p i k w h))

-- a search for a claim of a known order
pub child_of_lem : {stage : Taking} {o q : Order} {p : Place} {i k : ℕ} → stage ≡ Taking.Child o p i k → o ≡ q → stage ≡ Taking.Child q p i k
child_of_lem e h = rw h at e

-- ---- the arms, by the table that the step's entry stands in

-- x is the step st, carried out on the zone z
abbrev Carries : Shape → Zone → Step → Result → Type 0
Carries s z st x = x ≡ done z (carried (shape_of s) z st)

-- tables that fit, and a step that stands
record Ready (s : Shape) (z : Zone) (st : Step) : Type 0 where
  fit : Fits s z.words z.children z.trees z.cpus
  stands : Stands (shape_of s) st

-- a tree's part lies in the children, and in the words
module _ {s : Shape} {ws cs ts ps : List ℕ} (fit : Fits s ws cs ts ps) (t : ℕ) (h : t < trees_of (shape_of s)) where
  part_in : t * 32 + children_of (shape_of s) t ≤ length cs
  unfolding trees_of children_of
  part_in = let l = fit.lengths in omega arith

  words_in_lem : child_words * (t * 32) + child_words * children_of (shape_of s) t ≤ length ws
  words_in_lem = let l = fit.lengths in omega (arith, part_in)

-- st is the step, y the one that the stage speaks of
module _ {s : Shape} {z : Zone} {st y : Step} (h : Ready s z st) (e : st ≡ y) {r : Answer} where
  arm_none : y ≡ no_entry r → Carries s z st (result_of r z)
  unfolding carried stored
  arm_none q = rw (e, q) refl

  module _ {m : List ℕ} where
    arm_cpu : {j : ℕ} {a : Made CpuEntry} {f : Tree → ℕ → ℕ → Made CpuEntry} → y ≡ cpu_entry j a f → outcome r m ≡ in_cpus (shape_of s) y z.cpus
        → Carries s z st (with_cpus (shape_of s) z (outcome r m))
    arm_cpu {j} {a} {f} q o = rw (e, q) (ap (with_cpus (shape_of s) z) (rw q at o) ∙ cpu_carried (shape_of s) z j a f (omega (arith, h.fit.cpus, subst (Stands (shape_of s)) (e ∙ q) h.stands)))

    arm_tree : {t : Tree} {f : ℕ → ℕ → Made Tally} → y ≡ tree_entry t f → outcome r m ≡ in_trees (shape_of s) y z.trees
        → Carries s z st (with_trees (shape_of s) z (outcome r m))
    arm_tree {t} {f} q o = rw (e, q) (ap (with_trees (shape_of s) z) (rw q at o) ∙ tree_carried (shape_of s) z t f (omega (arith, h.fit.lengths, trees_same s, subst (Stands (shape_of s)) (e ∙ q) h.stands)))

    arm_child : {t : Tree} {i : ℕ} {f : ℕ → Made ℕ} → y ≡ child_entry t i f → outcome r m ≡ in_children (shape_of s) y z.children
        → Carries s z st (with_children (shape_of s) z (outcome r m))
    arm_child {t} {i} {f} q o = let l = subst (Stands (shape_of s)) (e ∙ q) h.stands in rw (e, q) (ap (with_children (shape_of s) z) (rw q at o) ∙ child_carried (shape_of s) z t i f (part_in h.fit t.0 l.0) l.1)

    arm_word : {t : Tree} {i : ℕ} {f : ℕ → Made ℕ} → y ≡ word_entry t i f → outcome r m ≡ in_words (shape_of s) y z.words
        → Carries s z st (with_words (shape_of s) z (outcome r m))
    arm_word {t} {i} {f} q o = let l = subst (Stands (shape_of s)) (e ∙ q) h.stands in rw (e, q) (ap (with_words (shape_of s) z) (rw q at o) ∙ word_carried (shape_of s) z t i f (words_in_lem h.fit t.0 l.0) l.1)

-- ---- the arms of a get

module _ {s : Shape} {ws cs ts ps : List ℕ} (cpu : ℕ) (stage : Taking) (h : Fits s ws cs ts ps × Passes (cpu_in (shape_of s) cpu ++ taking_in (shape_of s) cpu stage)) where
  take_ready : Ready s (zone [] ws cs ts ps) (take (shape_of s) cpu stage)
  take_ready = record { fit = h.0; stands = take_stands s cpu stage h.1 }

  pub get_none : {r : Answer} {x : Taking} → stage ≡ x → take (shape_of s) cpu x ≡ no_entry r → Carries s (zone [] ws cs ts ps) (take (shape_of s) cpu stage) (result_of r (zone [] ws cs ts ps))
  get_none e q = arm_none take_ready (ap (take (shape_of s) cpu) e) q

  module _ {r : Answer} {m : List ℕ} where
    pub get_cpu : {x : Taking} {j : ℕ} {a : Made CpuEntry} {f : Tree → ℕ → ℕ → Made CpuEntry} → stage ≡ x → take (shape_of s) cpu x ≡ cpu_entry j a f → outcome r m ≡ in_cpus (shape_of s) (take (shape_of s) cpu x) ps
        → Carries s (zone [] ws cs ts ps) (take (shape_of s) cpu stage) (result_of r (zone [] ws cs ts m))
    get_cpu e q o = arm_cpu take_ready (ap (take (shape_of s) cpu) e) q o

    pub get_tree : {x : Taking} {t : Tree} {f : ℕ → ℕ → Made Tally} → stage ≡ x → take (shape_of s) cpu x ≡ tree_entry t f → outcome r m ≡ in_trees (shape_of s) (take (shape_of s) cpu x) ts
        → Carries s (zone [] ws cs ts ps) (take (shape_of s) cpu stage) (result_of r (zone [] ws cs m ps))
    get_tree e q o = arm_tree take_ready (ap (take (shape_of s) cpu) e) q o

    pub get_child : {x : Taking} {t : Tree} {i : ℕ} {f : ℕ → Made ℕ} → stage ≡ x → take (shape_of s) cpu x ≡ child_entry t i f → outcome r m ≡ in_children (shape_of s) (take (shape_of s) cpu x) cs
        → Carries s (zone [] ws cs ts ps) (take (shape_of s) cpu stage) (result_of r (zone [] ws m ts ps))
    get_child e q o = arm_child take_ready (ap (take (shape_of s) cpu) e) q o

    pub get_word : {v : Run} {p : Place} {i k w : ℕ} → stage ≡ Taking.Word v p i k w → outcome r m ≡ eighth w (in_words (shape_of s) (take (shape_of s) cpu (Taking.Word v p i k w))) ws
        → Carries s (zone [] ws cs ts ps) (take (shape_of s) cpu stage) (result_of r (zone [] m cs ts ps))
    unfolding take
    get_word {v} {p} {i} {k} {w} e o = arm_word take_ready (ap (take (shape_of s) cpu) e) refl (o ∙ word_in s _ _ cpu v p i k w (rw e at h.1.1))

    pub get_last : {b : Block} → stage ≡ Taking.Last b → outcome r m ≡ ranged (shape_of s) b (in_cpus (shape_of s) (take (shape_of s) cpu (Taking.Last b))) ps
        → Carries s (zone [] ws cs ts ps) (take (shape_of s) cpu stage) (result_of r (zone [] ws cs ts m))
    unfolding take taking_in
    get_last {b} e o = get_cpu e refl (o ∙ block_in_lem s _ _ b (subst (λ x. Passes (taking_in (shape_of s) cpu x)) e h.1.1))

-- ---- the arms of a put

module _ {s : Shape} {ws cs ts ps : List ℕ} (cpu : ℕ) (stage : Giving) (h : Fits s ws cs ts ps × Passes (cpu_in (shape_of s) cpu ++ giving_in (shape_of s) stage)) where
  give_ready : Ready s (zone [] ws cs ts ps) (give (shape_of s) cpu stage)
  give_ready = record { fit = h.0; stands = give_stands s cpu stage h.1 }

  module _ {x : Giving} (e : stage ≡ x) {r : Answer} {m : List ℕ} where
    pub put_cpu : {j : ℕ} {a : Made CpuEntry} {f : Tree → ℕ → ℕ → Made CpuEntry} → give (shape_of s) cpu x ≡ cpu_entry j a f → outcome r m ≡ ranged (shape_of s) (given_back x) (in_cpus (shape_of s) (give (shape_of s) cpu x)) ps
        → Carries s (zone [] ws cs ts ps) (give (shape_of s) cpu stage) (result_of r (zone [] ws cs ts m))
    put_cpu q o = arm_cpu give_ready (ap (give (shape_of s) cpu) e) q (o ∙ given_in s _ _ x (rw e at h.1.1))

    pub put_tree : {t : Tree} {f : ℕ → ℕ → Made Tally} → give (shape_of s) cpu x ≡ tree_entry t f → outcome r m ≡ ranged (shape_of s) (given_back x) (in_trees (shape_of s) (give (shape_of s) cpu x)) ts
        → Carries s (zone [] ws cs ts ps) (give (shape_of s) cpu stage) (result_of r (zone [] ws cs m ps))
    put_tree q o = arm_tree give_ready (ap (give (shape_of s) cpu) e) q (o ∙ given_in s _ _ x (rw e at h.1.1))

    pub put_child : {t : Tree} {i : ℕ} {f : ℕ → Made ℕ} → give (shape_of s) cpu x ≡ child_entry t i f → outcome r m ≡ ranged (shape_of s) (given_back x) (in_children (shape_of s) (give (shape_of s) cpu x)) cs
        → Carries s (zone [] ws cs ts ps) (give (shape_of s) cpu stage) (result_of r (zone [] ws m ts ps))
    put_child q o = arm_child give_ready (ap (give (shape_of s) cpu) e) q (o ∙ given_in s _ _ x (rw e at h.1.1))

    pub put_word : {t : Tree} {i : ℕ} {f : ℕ → Made ℕ} → give (shape_of s) cpu x ≡ word_entry t i f → outcome r m ≡ ranged (shape_of s) (given_back x) (in_words (shape_of s) (give (shape_of s) cpu x)) ws
        → Carries s (zone [] ws cs ts ps) (give (shape_of s) cpu stage) (result_of r (zone [] m cs ts ps))
    put_word q o = arm_word give_ready (ap (give (shape_of s) cpu) e) q (o ∙ given_in s _ _ x (rw e at h.1.1))
