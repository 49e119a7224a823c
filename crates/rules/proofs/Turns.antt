-- What each admitted event does to the invariant: opens and cuts, beginnings, steps.
use mathlib.Core.Path.{◌≡◌, refl, sym, ap, ◌∙◌, subst}
use mathlib.Core.Logic.{◌⊎◌, inl, inr}
use mathlib.Core.Bool.{true, false}
use mathlib.Core.List.{List, [], ◌∷◌, ◌++◌}
use Prim.Native.Nat.{ℕ, zero, suc, ◌+◌, ◌*◌, ◌≤◌, ◌<◌}
use native.Mathlib.Omega.{arith}
use native.Mathlib.Decide.{ℕ_discrete, dec_lt}
use lib.ListN.{length, get_or, length-set}
use Rattle.laws.specs.Tests.{pick}
use Rattle.laws.specs.Sum.{sum_to, sum_l, upd}
use Rattle.laws.proofs.Tests.{pick_yes, pick_no}
use Rattle.laws.proofs.Sum.{sum_ext, sum_upd, sum_l_append, upd_at, upd_other, map_upd}
use Rattle.rules.specs.Types.{Block, Taking, Giving, Record, Answer}
use Rattle.rules.specs.Numbers.{most_cpus, format1, Shape, per_tree, trees_of, children_of}
use Rattle.rules.specs.Conversions.{huge}
use Rattle.rules.specs.Answers.{record_of}
use Rattle.rules.specs.Entries.{header_word, running, clean, tree_word}
use Rattle.rules.specs.Lower.{is_flagged, count_in, zero_bits}
use Rattle.rules.specs.Zone.{Zone, header_of, header_huge, shaped, shape_of, Store, stored}
use Rattle.rules.specs.Plan.{Plan}
use Rattle.rules.specs.Checks.{is_running}
use Rattle.rules.specs.Ranges.{step_range}
use Rattle.rules.specs.Step.{act, step, after}
use Rattle.rules.specs.Create.{done}
use Rattle.rules.specs.Open.{child_at, open_zone, open_step}
use Rattle.rules.specs.Reopen.{child_after, tree_after, cut_to}
use Rattle.rules.specs.Events.{idle, Cpu, resting, lost_of, lost_all, handed}
use Rattle.rules.specs.Promise.{owned_by}
use Rattle.rules.proofs.Shapes.{child_in_lem, some_tree}
use Rattle.rules.proofs.Layouts.{format1_sound, clean_again}
use Rattle.rules.proofs.Fields.{zero_bits_lem, recounted}
use Rattle.rules.proofs.Fresh.{header_is, child_at_lem, Accepts, Whole, Opens, total, first, next, at_good}
use Rattle.rules.proofs.Own.{free_of, owned_same}
use Rattle.rules.proofs.Shares.{base_of, whole_of, low_of, owed, reserves, Wanted, want, Proper, AgreesWith, Agrees}
use Rattle.rules.proofs.Upper.{entry_at, record_changed}
use Rattle.rules.proofs.Invariant.{weighs, free_tree, Up, answered, latest_is, Keeps}
use Rattle.rules.proofs.Readings.{step_is}
use Rattle.rules.proofs.Gets.{get_kept}
use Rattle.rules.proofs.Puts.{put_kept}
use Rattle.rules.proofs.Phases.{lost_told, lost_weighs, weighed, Kept, kept_same, Counted, Down, Op, still, cut_kept, zeros_at_lem, down_huge, accepted, now_child, good_kept, good_down, up_still}

-- ---- an open that has finished

module _ (n : ℕ) (from z : Zone) (held lost : List Block) (d : Down n from held lost) (w : Whole from (accepted n from held lost d) z) where
  H : header_huge (header_of from) ≡ n
  H = down_huge n from held lost d

  abbrev was : ℕ → ℕ
  was i = child_at (shape_of from) from (huge i)

  -- what open counted, or a clean marker vouched for, are the child's free frames
  counted_then : (i : ℕ) → i < n → count_in (child_after from i) ≡ pick (is_flagged (get_or from.children i 0)) 0 (zero_bits from.words i)
  unfolding is_running header_of free_of
  counted_then i h = go d.header
    where
      at_was : was i ≡ get_or from.children i 0
      at_was = child_at_lem (shape_of from) (omega arith) from i (rw H h)

      go : (from.header ≡ header_word running n ∷ []) ⊎ ((from.header ≡ header_word clean n ∷ []) × Counted n from) → count_in (child_after from i) ≡ pick (is_flagged (get_or from.children i 0)) 0 (zero_bits from.words i)
      go (inl e) =
          let r : is_running (header_of from) ≡ true = ap is_running (header_is from n (d.some, d.small) e) in
          ap count_in (pick_yes _ _ _ r) ∙ rw (at_was, zeros_at_lem (shape_of from) (omega arith) from i (rw H h)) (recounted (zero_bits from.words i) (get_or from.children i 0) (zero_bits_lem _ _) (d.kept.formed i h)).2
      go (inr e) =
          let r : is_running (header_of from) ≡ false = rw e.0 (ap is_running (clean_again n d.some d.small)) in
          ap count_in (pick_no _ _ _ r ∙ at_was) ∙ e.1 i h

  counted_now : Counted n z
  unfolding free_of
  counted_now i h = rw (w.children.same i (rw H h), sym (ap is_flagged (w.children.same i (rw H h))) ∙ (now_child n from z held lost d _ _ _ w i h).1, w.words) (counted_then i h)

  tree_then : (t : ℕ) → t < trees_of (shaped n z) → tree_after from t ≡ tree_word 0 (free_tree (shaped n z) z.children z.words t)
  unfolding free_tree children_of
  tree_then t h =
      let k : ℕ = per_tree (shaped n z) in
      let F : ℕ → ℕ = λ c. free_of z.children z.words (t * k + c) in
      ap (tree_word 0) (sum_ext (children_of (shape_of from) t) (λ c. count_in (child_after from (t * k + c))) F (λ c l.
      let i : ℕ = t * k + c in
      let m : i < n = subst (λ b. i < b) H (child_in_lem (shape_of from) (omega arith) t c l) in
      ap count_in (sym (w.children.same i (rw H m))) ∙ counted_now i m)
      ∙ ap (λ b. sum_to (children_of (shaped b z) t) F) H)

  pub whole_up : Up n z still held lost
  unfolding trees_of
  whole_up = up_still n z held lost d.some d.small (w.header ∙ ap (λ k. header_word running k ∷ []) H) (rw w.cpus.size d.some_cpu) (rw w.cpus.size d.few_cpus_lem) (good_kept n from z held lost d _ _ _ w) counted_now
      (rw H at w.trees.size) (λ t h. w.trees.same t (rw H h) ∙ tree_then t h) (λ j h. w.cpus.same j (omega (arith, w.cpus.size)))

-- ---- the steps of an open

-- an open's stage, or an open zone
abbrev pub Goes : ℕ → Zone → Answer → List Block → List Block → Type 0
Goes n z a held lost = ((r : Record) × (a ≡ Answer.UnderWay r) × Op n z r held lost) ⊎ ((a ≡ done) × Up n z still held lost)

module _ (n : ℕ) (from : Zone) (held lost : List Block) (d : Down n from held lost) where
  ok : Accepts from
  ok = accepted n from held lost d

  goes : (left : ℕ) (a : Answer) (z : Zone) → Opens from ok left a z → Goes n z a held lost
  goes zero a z h = inr (h.0, whole_up n from z held lost d h.1)
  goes (suc left) a z h = inl (Record.Open h.0, h.1, record { from = from; down = d; stage = h.0; left = left; is = refl; at = h.2 })

  pub first_goes : (r : Record) × ((open_zone from).answer ≡ Answer.UnderWay r) × Op n (after from (open_zone from)) r held lost
  first_goes = go (total from ok) (first from ok) (omega (arith, some_tree (shape_of from) (omega arith) ok.sized.0))
    where
      go : (k : ℕ) → Opens from ok k (open_zone from).answer (after from (open_zone from)) → 0 < k → (r : Record) × ((open_zone from).answer ≡ Answer.UnderWay r) × Op n (after from (open_zone from)) r held lost
      go zero h l = absurd (omega arith)
      go (suc left) h l = (Record.Open h.0, h.1, record { from = from; down = d; stage = h.0; left = left; is = refl; at = h.2 })

pub later_goes : (n : ℕ) (z : Zone) (r : Record) (held lost : List Block) → Op n z r held lost → Goes n (after z (open_step z r)) (open_step z r).answer held lost
later_goes n z r held lost o =
    subst (λ r. Goes n (after z (open_step z r)) (open_step z r).answer held lost) (sym o.is)
    (goes n o.from held lost o.down o.left _ _ (next o.from (accepted n o.from held lost o.down) o.left o.stage z o.at))

pub op_huge : (n : ℕ) (z : Zone) (r : Record) (held lost : List Block) → Op n z r held lost → header_huge (header_of z) ≡ n
unfolding header_huge
op_huge n z r held lost o =
    let k = at_good o.from (accepted n o.from held lost o.down) (suc o.left) o.stage z o.at in
    ap header_huge (header_is z n (o.down.some, o.down.small) (k.3.header ∙ ap (λ i. header_word running i ∷ []) (down_huge n o.from held lost o.down)))

pub op_kept : (n : ℕ) (z : Zone) (r : Record) (held lost : List Block) → Op n z r held lost → Kept n z held lost
op_kept n z r held lost o =
    let k = at_good o.from (accepted n o.from held lost o.down) (suc o.left) o.stage z o.at in
    good_kept n o.from z held lost o.down k.0 k.1 k.2 k.3

-- ---- cuts

pub cut_down : (n : ℕ) (z : Zone) (cs : ℕ → Cpu) (held lost : List Block) → Up n z cs held lost → (ts es : List ℕ) → length ts ≡ trees_of (shaped n z) → 0 < length es → length es ≤ most_cpus
    → Down n (cut_to z ts es) held (lost_all (length z.cpus) cs ++ lost)
unfolding trees_of
cut_down n z cs held lost u ts es a b c = record { some = u.some; small = u.small; header = inl u.header; trees = a; some_cpu = b; few_cpus_lem = c; kept = cut_kept n z cs held lost u }

-- nothing was under way
pub down_again : (n : ℕ) (z : Zone) (held lost : List Block) → Down n z held lost → (ts es : List ℕ) → length ts ≡ trees_of (shaped n z) → 0 < length es → length es ≤ most_cpus → Down n (cut_to z ts es) held lost
unfolding trees_of
down_again n z held lost d ts es a b c = record { some = d.some; small = d.small; header = d.header; trees = a; some_cpu = b; few_cpus_lem = c; kept = d.kept }

pub op_down : (n : ℕ) (z : Zone) (r : Record) (held lost : List Block) → Op n z r held lost → (ts es : List ℕ) → length ts ≡ trees_of (shaped n z) → 0 < length es → length es ≤ most_cpus → Down n (cut_to z ts es) held lost
op_down n z r held lost o ts es a b c =
    let k = at_good o.from (accepted n o.from held lost o.down) (suc o.left) o.stage z o.at in
    good_down n o.from z held lost o.down k.0 k.1 k.2 k.3 ts es a b c

-- ---- beginnings

-- nothing is under way yet: the record owns what it takes over from the held blocks
pub begun_up : (n : ℕ) (z : Zone) (cs : ℕ → Cpu) (held lost : List Block) → Up n z cs held lost → (j : ℕ) → j < length z.cpus → cs j ≡ resting → (c : Cpu) (held' : List Block) → Agrees c → Proper (shaped n z) j c.latest
    → ((x : ℕ) → low_of (shaped n z) c.latest x ≡ 0) → ((t : ℕ) → owed (shaped n z) c.latest t ≡ 0) → ((t : ℕ) → reserves c.latest t ≡ 0) → Wanted (want c.latest) (entry_at (shaped n z) z.cpus j)
    → ((w : Block → ℕ) → sum_l w held' + sum_l w (owned_by c.latest) ≡ sum_l w held) → Up n z (upd cs j c) held' lost
unfolding low_of owed reserves sum_l
begun_up n z cs held lost u j l e c held' a p low o v w b = record {
  some = u.some;
  small = u.small;
  header = u.header;
  some_cpu = u.some_cpu;
  few_cpus_lem = u.few_cpus_lem;
  lower = owned_same n z.children z.words _ _ _ u.lower _ _ _ (λ x. omega (arith, low x, sum_upd (λ (y : Cpu). low_of g y.latest x) (length z.cpus) j cs resting c l e)) (λ f. weigh (base_of f)) (λ f. weigh (whole_of f));
  upper = rw (map_upd (λ (x : Cpu). x.latest) cs j c) (record_changed g format1_sound z.trees z.cpus (λ i. (cs i).latest) F u.upper j l Record.Finished (ap (λ (x : Cpu). x.latest) e) c.latest F (λ t h. ap (λ x. x + F t) (o t)) (λ t. sym (v t)) w p);
  agrees = λ i. elim (ℕ_discrete j i) [
    | yes y ↦ subst Agrees (sym (upd_at cs j c i y)) a
    | no y ↦ subst Agrees (sym (upd_other cs j c i y)) (u.agrees i)
  ];
  beyond = λ i k. upd_other cs j c i (λ y. omega (arith, l, k)) ∙ u.beyond i k;
}
  where
    g : Shape
    g = shaped n z

    F : ℕ → ℕ
    F = free_tree g z.children z.words

    weigh : (w : Block → ℕ) → weighs w held' lost (length z.cpus) (upd cs j c) ≡ weighs w held lost (length z.cpus) cs
    weigh w = omega (arith, b w, sum_upd (λ (y : Cpu). sum_l w (owned_by y.latest)) (length z.cpus) j cs resting c l e)

-- ---- steps

-- a store leaves as many CPU entries
pub as_many : (z : Zone) (s : Store) → length (stored format1 z s).cpus ≡ length z.cpus
unfolding stored
as_many z Store.nothing = refl
as_many z (Store.header v) = refl
as_many z (Store.word i v) = refl
as_many z (Store.child i v) = refl
as_many z (Store.tree i r k) = refl
as_many z (Store.cpu j e) = length-set z.cpus j _

finished : (c : Cpu) → c.latest ≡ Record.Finished → c.begun ≡ idle → c.marks ≡ [] → c ≡ resting
finished c a b d =
    ap (λ r. record { latest = r; begun = c.begun; marks = c.marks }) a ∙ (ap (λ x. record { latest = Record.Finished; begun = x; marks = c.marks }) b ∙ ap (λ m. record { latest = Record.Finished; begun = idle; marks = m }) d)

module _ (n : ℕ) (z : Zone) (cs : ℕ → Cpu) (held lost : List Block) (u : Up n z cs held lost) (j : ℕ) where
  abbrev Keeping : (l : j < length z.cpus) (r : Record) (e : (cs j).latest ≡ r) → Type 0
  Keeping l r e = Keeps n z cs held lost u j l r e (step z r)

  -- only a CPU of the table has anything under way
  pub in_table : (cs j ≡ resting → ⊥) → j < length z.cpus
  in_table b = elim (dec_lt j (length z.cpus)) [
    | yes l ↦ l
    | no m ↦ absurd (b (u.beyond j (omega arith)))
  ]

  module _ (l : j < length z.cpus) where
    pub get_step : (i : ℕ) (s : Taking) → i ≡ j → (e : (cs j).latest ≡ Record.Get i s) → Keeping l (Record.Get i s) e
    unfolding act step_range
    get_step i s p = subst (λ i. (e : (cs j).latest ≡ Record.Get i s) → Keeping l (Record.Get i s) e) (sym p) (λ e.
        let q : Proper (shaped n z) j (Record.Get j s) = subst (Proper (shaped n z) j) e (u.upper.proper j l) in
        subst (Keeps n z cs held lost u j l (Record.Get j s) e) (sym (step_is n z cs held lost u (Record.Get j s) (l, q.1))) (get_kept n z cs held lost u j l s e))

    put_step : (i : ℕ) (s : Giving) → i ≡ j → (e : (cs j).latest ≡ Record.Put i s) → Keeping l (Record.Put i s) e
    unfolding act step_range
    put_step i s p = subst (λ i. (e : (cs j).latest ≡ Record.Put i s) → Keeping l (Record.Put i s) e) (sym p) (λ e.
        let q : Proper (shaped n z) j (Record.Put j s) = subst (Proper (shaped n z) j) e (u.upper.proper j l) in
        subst (Keeps n z cs held lost u j l (Record.Put j s) e) (sym (step_is n z cs held lost u (Record.Put j s) (l, q.1))) (put_kept n z cs held lost u j l s e))

    pub stepped : (cs j ≡ resting → ⊥) → Keeping l (cs j).latest refl
    stepped b = go (cs j).latest refl
      where
        go : (r : Record) (e : (cs j).latest ≡ r) → Keeping l r e
        go Record.Finished e = let a = subst (AgreesWith (cs j).begun (cs j).marks) e (u.agrees j) in absurd (b (finished (cs j) e a.0 a.1))
        go (Record.Get i s) e = get_step i s (subst (Proper (shaped n z) j) e (u.upper.proper j l)).0 e
        go (Record.Put i s) e = put_step i s (subst (Proper (shaped n z) j) e (u.upper.proper j l)).0 e
        go (Record.Create y) e = absurd (subst (Proper (shaped n z) j) e (u.upper.proper j l))
        go (Record.Open y) e = absurd (subst (Proper (shaped n z) j) e (u.upper.proper j l))

    -- a cut after a step's store and before its answer: what the step would hand out is lost
    pub step_cut : (r : Record) (e : (cs j).latest ≡ r) (p : Plan) → Keeps n z cs held lost u j l r e p → (ts es : List ℕ) → length ts ≡ trees_of (shaped n z) → 0 < length es → length es ≤ most_cpus
        → Down n (cut_to (stored format1 z p.store) ts es) held (lost_all (length (stored format1 z p.store).cpus) (upd cs j (record { latest = (cs j).latest; begun = (cs j).begun; marks = p.mark ∷ (cs j).marks })) ++ lost)
    unfolding trees_of
    step_cut r e p k ts es a b c =
        let d = cut_down n z' (upd cs j c') _ lost k.up ts es a b c in
        record { some = d.some; small = d.small; header = d.header; trees = d.trees; some_cpu = d.some_cpu; few_cpus_lem = d.few_cpus_lem; kept = kept_same n (cut_to z' ts es) (cut_to z' ts es) _ _ _ _ refl refl weigh d.kept }
      where
        z' : Zone
        z' = stored format1 z p.store

        C : ℕ
        C = length z'.cpus

        c' : Cpu
        c' = answered (cs j) p.mark p.answer

        m : Cpu
        m = record { latest = (cs j).latest; begun = (cs j).begun; marks = p.mark ∷ (cs j).marks }

        hs : List Block
        hs = handed (cs j).begun p.answer

        in_now : j < C
        in_now = subst (λ q. j < q) (sym (as_many z p.store)) l

        weigh : (w : Block → ℕ) → weighed w held (lost_all C (upd cs j m) ++ lost) ≡ weighed w (hs ++ held) (lost_all C (upd cs j c') ++ lost)
        weigh w = omega (
          arith,
          sum_l_append w (lost_all C (upd cs j m)) lost,
          sum_l_append w (lost_all C (upd cs j c')) lost,
          lost_weighs w C (upd cs j m),
          lost_weighs w C (upd cs j c'),
          sum_upd (λ (y : Cpu). sum_l w (lost_of y)) C j cs (cs j) m in_now refl,
          sum_upd (λ (y : Cpu). sum_l w (lost_of y)) C j cs (cs j) c' in_now refl,
          ap (sum_l w) k.fine.lostly,
          sum_l_append w hs (owned_by (record_of p.answer)),
          ap (sum_l w) (lost_told c' k.fine.agrees ∙ ap owned_by (latest_is n z cs held lost u j l r e p.mark p.answer)),
          sum_l_append w hs held,
        )
