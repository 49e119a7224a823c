-- A finished open, over any tree and CPU tables; and open again after a cut: it finds each child as it was or as open leaves it, and leaves the same.
use Rattle.std.specs.Prelude.{Option, Some, None}
use mathlib.Core.Path.{◌≡◌, refl, sym, ap, ◌∙◌}
use mathlib.Core.Logic.{◌⊎◌, inl, inr}
use mathlib.Core.Bool.{true, not}
use mathlib.Core.List.{List, [], ◌∷◌}
use Prim.Native.Nat.{ℕ, ◌+◌, ◌*◌, ◌^◌, ◌≤◌, ◌<◌}
use native.Mathlib.Omega.{arith}
use lib.ListN.{length}
use Rattle.laws.specs.Tests.{pick}
use Rattle.laws.specs.Sum.{sum_to}
use Rattle.laws.specs.Fields.{split, join}
use Rattle.laws.proofs.Tests.{pick_elim, pick_yes, true_false, both_and, every_all, every_at}
use Rattle.laws.proofs.Sum.{sum_ext}
use Rattle.rules.specs.Types.{Tree, Header, ChildEntry}
use Rattle.rules.specs.Numbers.{child_frames, most_cpus, Shape, per_tree, trees_of, children_of}
use Rattle.rules.specs.Conversions.{huge}
use Rattle.rules.specs.Answers.{number}
use Rattle.rules.specs.Entries.{field, header_word, running, tree_word}
use Rattle.rules.specs.Lower.{child_layout, child_says, count_word, by_child, well_formed, is_flagged, count_in, recount}
use Rattle.rules.specs.Zone.{Zone, header_of, header_huge, shape_of, word_part}
use Rattle.rules.specs.Plan.{Plan}
use Rattle.rules.specs.Checks.{is_malformed, is_running}
use Rattle.rules.specs.Open.{child_at, zeros_at, empty_at, children_formed, flags_empty, open_sound, open_zone}
use Rattle.rules.specs.Fresh.{listed, opens, steps_of_open}
use Rattle.rules.specs.Reopen.{child_after, tree_after, reopened, Accepted, cut_to, True, SameBut, Reopens}
use Rattle.rules.proofs.Guards.{child_elim}
use Rattle.rules.proofs.Shapes.{child_in_lem}
use Rattle.rules.proofs.Layouts.{count_again, ChildView, broken, counts, flagged, child_view, layouts}
use Rattle.rules.proofs.Ways.{guarded_none, allowed}
use Rattle.rules.proofs.Created.{filled, listed_ext, filled_same}
use Rattle.rules.proofs.Fields.{zero_bits_lem, recounted}
use Rattle.rules.proofs.Fresh.{child_at_lem, header_is, Accepts, accepts, Good, each, reached, ended}

-- ---- a child recounted

-- again: nothing changes
recount_twice : (k x : ℕ) → k ≤ child_frames → recount k (recount k x) ≡ recount k x
unfolding recount by_child
recount_twice k x h = child_elim (λ y. recount k y ≡ y) (child_says x) (λ e. rw e) (λ i e. rw (count_again k h)) (λ e. rw e)

recount_flag : (k x : ℕ) → k ≤ child_frames → is_flagged (recount k x) ≡ is_flagged x
unfolding recount by_child is_flagged
recount_flag k x h = child_elim (λ y. is_flagged y ≡ is_flagged x) (child_says x) (λ e. refl) (λ i e. rw (count_again k h, e)) (λ e. refl)

-- an entry of 16 bits is the word of its fields: one that counts i is the word of i
fields_join : (x : ℕ) → x < 2 ^ 16 → join child_layout (field child_layout 0 x ∷ field child_layout 1 x ∷ field child_layout 2 x ∷ []) ≡ x
unfolding field split
fields_join = layouts.child.word

word_of_lem : (x i : ℕ) → x < 2 ^ 16 → child_says x ≡ Some (ChildEntry.Counts i) → count_word i ≡ x
unfolding count_word
word_of_lem x i l = go (child_says x) (child_view x)
  where
    go : (c : Option ChildEntry) → ChildView x c → c ≡ Some (ChildEntry.Counts i) → count_word i ≡ x
    go None (broken n) e = let z : ◌≡◌ {A = ℕ} 0 1 = cc in absurd (omega arith)
    go (Some (ChildEntry.Counts k)) (counts p) e = let q : k ≡ i = cc in rw (← q) (rw (p.0, p.1.0) at (fields_join x l))
    go (Some ChildEntry.Flagged) (flagged p) e = let z : ◌≡◌ {A = ℕ} 0 1 = cc in absurd (omega arith)

-- to the count that it has
recount_same : (k x : ℕ) → x < 2 ^ 16 → ((i : ℕ) → child_says x ≡ Some (ChildEntry.Counts i) → i ≡ k) → recount k x ≡ x
unfolding recount
recount_same k x l h = child_elim (λ y. y ≡ x) (child_says x) (λ e. refl) (λ i e. rw (← (h i e)) (word_of_lem x i l e)) (λ e. refl)

flagged_says : (x : ℕ) → is_flagged x ≡ true → child_says x ≡ Some ChildEntry.Flagged
unfolding is_flagged
flagged_says x = child_elim (λ b. b ≡ true → child_says x ≡ Some ChildEntry.Flagged) (child_says x) (λ e q. true_false (sym q)) (λ k e q. true_false (sym q)) (λ e q. e)

-- ---- open to its end

finished : (z : Zone) → Accepted z → (opens z (steps_of_open z)).zone ≡ reopened z
unfolding reopened
finished z a = let h = (ended z (accepts z a)).1 in
    λ i. record { header = h.header i; words = h.words i; children = filled _ _ _ h.children i; trees = filled _ _ _ h.trees i; cpus = filled_same _ _ _ h.cpus i }

-- ---- open after a cut

module _ (z : Zone) (ok : Accepts z) (truth : (is_running (header_of z) ≡ true) ⊎ True z) where
  abbrev g : Shape
  g = shape_of z

  abbrev n : ℕ
  n = g.huge

  abbrev recount_of : ℕ → ℕ
  recount_of c = recount (zeros_at g z (huge c)) (child_at g z (huge c))

  -- what a finished open leaves, whatever the marker was
  after_is : (c : ℕ) → c < n → child_after z c ≡ recount_of c
  after_is c l = elim truth [
    | inl r ↦ pick_yes _ _ _ r
    | inr t ↦ pick_elim (λ x. x ≡ recount_of c) (is_running (header_of z)) (λ e. refl) (λ e. sym (recount_same _ _ (rw (child_at_lem g (omega arith) z c l) (t.small c l)) (t.counts c l)))
  ]

  -- what a running marker asks of every child
  fields_empty : (c : ℕ) → c < n → pick (is_flagged (child_at g z (huge c))) (empty_at g z (huge c)) true ≡ true
  unfolding flags_empty
  fields_empty c l = elim truth [
    | inl r ↦ every_at _ _ (ok.empty r) c l
    | inr t ↦ pick_elim (λ b. b ≡ true) _ (λ e. t.fields c l (flagged_says _ e)) (λ e. refl)
  ]

  -- y: cut on the way, with any trees and CPUs
  module _ {c t j : ℕ} (w : Zone) (h : Good z c t j w) (ts cs : List ℕ) (trees : length ts ≡ trees_of g) (cpus+ : 0 < length cs) (cpus- : length cs ≤ most_cpus) where
    abbrev y : Zone
    y = cut_to w ts cs

    runs_on : header_of y ≡ Some (Header.Running n)
    runs_on = header_is y n ok.sized h.header

    is_running_lem : is_running (header_of y) ≡ true
    unfolding is_running
    is_running_lem = rw runs_on

    same_huge : (shape_of y).huge ≡ n
    unfolding header_huge
    same_huge = rw runs_on

    same_trees : trees_of (shape_of y) ≡ trees_of g
    unfolding trees_of
    same_trees = rw same_huge

    same_kids : (t : ℕ) → children_of (shape_of y) t ≡ children_of g t
    unfolding children_of
    same_kids t = rw same_huge

    same_words_lem : (t : Tree) → word_part (shape_of y) y t ≡ word_part g z t
    same_words_lem t = rw (same_kids t.0, h.words)

    each_child : (Q : ℕ → Type 0) (i : ℕ) → i < n → Q (child_at g z (huge i)) → Q (recount_of i) → Q (child_at (shape_of y) y (huge i))
    each_child Q i l x q = rw (child_at_lem (shape_of y) (omega arith) y i (rw same_huge l)) (each z ok Q h i l x (rw (after_is i l) q))

    same_after : (i : ℕ) → i < n → child_after y i ≡ child_after z i
    same_after i l = pick_yes _ _ _ is_running_lem ∙ rw same_words_lem (each_child (λ x. recount (zeros_at g z (huge i)) x ≡ recount_of i) i l refl (recount_twice _ _ (zero_bits_lem _ _))) ∙ sym (after_is i l)

    sound : open_sound y ≡ true
    unfolding open_sound children_formed flags_empty
    sound = both_and _ _
        (every_all _ _ (λ i m. let l = rw same_huge at m in each_child (λ x. well_formed x ≡ true) i l (ok.formed i l) (recounted _ _ (zero_bits_lem _ _) (ok.formed i l)).0))
        (pick_yes _ _ _ is_running_lem ∙ every_all _ _ (λ i m. let l = rw same_huge at m in rw same_words_lem (each_child (λ x. pick (is_flagged x) (empty_at g z (huge i)) true ≡ true) i l (fields_empty i l) (rw (recount_flag _ _ (zero_bits_lem _ _)) (fields_empty i l)))))

    accepted : Accepted y
    unfolding open_zone is_malformed
    accepted = ap (λ (p : Plan). number p.answer) (guarded_none _ _ (allowed _ (ap length h.header, tt), (ap is_malformed runs_on, (allowed _ (rw (same_trees, same_huge) (ap length h.words ∙ ok.tables.0, (h.children.size, (trees, (cpus+, (omega arith, tt)))))), (ap not sound, tt)))))

    same_but : SameBut (reopened y) (reopened z)
    unfolding reopened
    same_but = record {
      header = ap (λ m. header_word running m ∷ []) same_huge;
      words = h.words;
      children = ap (λ m. listed m (child_after y)) same_huge ∙ listed_ext n _ _ same_after;
      trees = ap (λ m. listed m (tree_after y)) same_trees ∙ listed_ext _ _ _ (λ t l. ap (tree_word 0) (ap (λ m. sum_to m (λ c. count_in (child_after y (t * per_tree g + c)))) (same_kids t) ∙ sum_ext _ _ _ (λ c m. ap count_in (same_after _ (child_in_lem g (omega arith) t c m)))));
    }

pub reopens : Reopens
reopens = record {
  finished = finished;
  again = λ z a t k ts cs e f l. let ok = accepts z a in let h = (reached z ok k).3 in (accepted z ok t _ h ts cs e f l, same_but z ok t _ h ts cs e f l);
}
