-- Every call answers the first number of its list whose rule holds; a refusal stores nothing.
use Rattle.std.specs.Prelude.{Option, Some, None}
use mathlib.Core.Path.{◌≡◌, refl, sym, ◌∙◌, subst}
use mathlib.Core.Logic.{◌⊎◌, inl, inr, ◌≢◌}
use mathlib.Core.Bool.{Bool, true, false, not, ◌&&◌}
use mathlib.Core.List.{List, [], ◌∷◌, ◌++◌}
use Prim.Native.Nat.{ℕ, suc, ◌*◌, ◌%◌, ◌^◌, ◌≤◌, ◌<◌}
use native.Mathlib.Omega.{arith}
use native.Mathlib.Decide.{dec_le}
use lib.Dec.{eqb, leb, ltb}
use lib.ListN.{length}
use borrow.Author.Tests.{eqb-true, eqb-false, ltb-true, ltb-false, not-true, not-false}
use Rattle.laws.specs.Fields.{split, width}
use Rattle.laws.specs.Tests.{pick, Check, passes, Passes}
use Rattle.laws.proofs.Tests.{pick_elim, true_false, all_passed, passes_of}
use Rattle.rules.specs.Types.{Frame, Header, CpuEntry, Creating, Opening, Record, Answer}
use Rattle.rules.specs.Numbers.{Shape}
use Rattle.rules.specs.Entries.{field, header_checks, header_says}
use Rattle.rules.specs.Answers.{number}
use Rattle.rules.specs.Zone.{Zone, header_of, header_huge, shaped, shape_of, Store}
use Rattle.rules.specs.Plan.{Plan, Refusal, on, carried}
use Rattle.rules.specs.Ranges.{step_range, create_range, open_range}
use Rattle.rules.specs.Step.{act, step}
use Rattle.rules.specs.Create.{size_checks, not_created, create_zone, create_stage, create_act, create_step}
use Rattle.rules.specs.Open.{children_formed, flags_empty, trees_formed, cpus_formed, settled, open_sound, open_zone, open_step_sound, open_stage, open_act, open_step, close_sound, close_zone}
use Rattle.rules.specs.Checks.{unless, is_malformed, is_clean, is_running, header_checks as one_header_lem, length_checks, not_open}
use Rattle.rules.specs.Blocks.{size}
use Rattle.rules.specs.Begin.{bad_cpu, bad_order, bad_frame, misaligned, is_order, order_of, begin_get, begin_put}
use Rattle.rules.specs.InRange.{StepIn, CreateIn, OpenIn}
use Rattle.rules.specs.Refusals.{Rule, ◌when◌, First, HeaderMissing, marker_in, huge_in, WellFormed, word0, NotAZone, IsClosed, WrongLength, n_of, open_rules, get_rules, frame_rules, put_rules, entry_rules, step_rules, StepElse, Quiet, size_rules, create_step_rules, BadChild, BadField, BadTree, BadCpu, BadOpening, Settled, open_zone_rules, open_step_rules, close_rules, Call, Refusals}
use Rattle.rules.proofs.Lists.{Decides, Matches, NoneHolds, first_guarded, quiet_guarded, decides_not, decides_iff, decides_le, decides_either, Means, one, decides_unless, stable}
use Rattle.rules.proofs.Checks.{well_formed_lem, header_checked, lengths_in, size_in, step_in_lem, create_in, open_in}
use Rattle.rules.proofs.Sizes.{size_of}
use Rattle.rules.proofs.Guards.{not_refused}
use Rattle.rules.proofs.Bounds.{header_sized, open_sized}
use Rattle.rules.proofs.Zones.{children_are, fields_are, trees_are, cpus_are, opening_is, settled_is}
use Rattle.rules.proofs.Stages.{Told, take_told, give_told}

-- ---- the header

-- malformed; or well formed, with its marker and its n
data HeaderView (x : ℕ) : Option Header → Type 0 where
  malformed : (WellFormed x → ⊥) → HeaderView x None
  runs : WellFormed x → marker_in x ≡ 1 → HeaderView x (Some (Header.Running (huge_in x)))
  rests : WellFormed x → marker_in x ≡ 2 → HeaderView x (Some (Header.Clean (huge_in x)))

header_view : (x : ℕ) → HeaderView x (header_says x)
unfolding header_says field split width
header_view x = pick_elim (HeaderView x) (passes (header_checks x))
    (λ b. let p = all_passed (header_checks x) b in
    pick_elim (HeaderView x) (eqb (marker_in x) 1)
    (λ c. let m = eqb-true (marker_in x) 1 c in runs (well_formed_lem x p (inl m)) m)
    (λ c. pick_elim (HeaderView x) (eqb (marker_in x) 2)
    (λ d. let m = eqb-true (marker_in x) 2 d in rests (well_formed_lem x p (inr m)) m)
    (λ d. malformed (λ w. other (eqb-false (marker_in x) 1 c) (eqb-false (marker_in x) 2 d) w.marker))))
    (λ b. malformed (λ w. true_false (sym (passes_of (header_checks x) (header_checked x w)) ∙ b)))
  where
    other : (marker_in x ≡ 1 → ⊥) → (marker_in x ≡ 2 → ⊥) → (marker_in x ≡ 1) ⊎ (marker_in x ≡ 2) → ⊥
    other p q (inl e) = p e
    other p q (inr e) = q e

malformed_is : (x : ℕ) (h : Option Header) → HeaderView x h → Decides (is_malformed h) (WellFormed x → ⊥)
unfolding is_malformed
malformed_is x None (malformed n) = record { when_true = λ e. n; when_false = λ e. true_false e }
malformed_is x (Some (Header.Running k)) (runs w m) = record { when_true = λ e. true_false (sym e); when_false = λ e h. h w }
malformed_is x (Some (Header.Clean k)) (rests w m) = record { when_true = λ e. true_false (sym e); when_false = λ e h. h w }

-- of a header that is well formed
clean_is : (x : ℕ) (h : Option Header) → HeaderView x h → ((WellFormed x → ⊥) → ⊥) → Decides (is_clean h) (marker_in x ≡ 2)
unfolding is_clean
clean_is x None (malformed n) w = absurd (w n)
clean_is x (Some (Header.Running k)) (runs p m) w = record { when_true = λ e. true_false (sym e); when_false = λ e h. omega (arith, sym m ∙ h) }
clean_is x (Some (Header.Clean k)) (rests p m) w = record { when_true = λ e. m; when_false = λ e. true_false e }

running_is : (x : ℕ) (h : Option Header) → HeaderView x h → ((WellFormed x → ⊥) → ⊥) → Decides (is_running h) (marker_in x ≡ 1)
unfolding is_running
running_is x None (malformed n) w = absurd (w n)
running_is x (Some (Header.Running k)) (runs p m) w = record { when_true = λ e. m; when_false = λ e. true_false e }
running_is x (Some (Header.Clean k)) (rests p m) w = record { when_true = λ e. true_false (sym e); when_false = λ e h. omega (arith, sym m ∙ h) }

huge_is : (x : ℕ) (h : Option Header) → HeaderView x h → ((WellFormed x → ⊥) → ⊥) → header_huge h ≡ huge_in x
unfolding header_huge
huge_is x None (malformed n) w = absurd (w n)
huge_is x (Some (Header.Running k)) (runs p m) w = refl
huge_is x (Some (Header.Clean k)) (rests p m) w = refl

order_is : (o : ℕ) → Decides (not (is_order o)) ((6 < o) × (o ≢ 9))
unfolding is_order
order_is o = pick_elim (λ b. Decides (not b) ((6 < o) × (o ≢ 9))) (ltb o 7)
    (λ b. record { when_true = λ e. true_false (sym e); when_false = λ e h. omega (arith, ltb-true o 7 b, h.0) })
    (λ b. record { when_true = λ e. (ltb-false o 7 b, eqb-false o 9 (not-true (eqb o 9) e)); when_false = λ e h. h.1 (eqb-true o 9 (not-false (eqb o 9) e)) })

module _ (z : Zone) where
  missing_is : Decides (not (passes (one_header_lem z))) (HeaderMissing z)
  missing_is = decides_unless one

  zone_is : Decides (is_malformed (header_of z)) (NotAZone z)
  unfolding header_of
  zone_is = malformed_is (word0 z) _ (header_view (word0 z))

  closed_is : (NotAZone z → ⊥) → Decides (is_clean (header_of z)) (IsClosed z)
  unfolding header_of
  closed_is = clean_is (word0 z) _ (header_view (word0 z))

  -- n by the header is the plans' n
  n_is : (NotAZone z → ⊥) → (shape_of z).huge ≡ n_of z
  unfolding header_of
  n_is = huge_is (word0 z) _ (header_view (word0 z))

  lengths_are : (NotAZone z → ⊥) → Decides (not (passes (length_checks (shape_of z) z))) (WrongLength (n_of z) z)
  lengths_are w = rw (n_is w) (decides_unless (lengths_in (n_of z) z))

  -- what every call on an open zone refuses first, and then the rest of its list
  open_matches : (l : List Refusal) (rs : List Rule) → (NoneHolds (open_rules z) → Matches l rs) → Matches (not_open z ++ l) (open_rules z ++ rs)
  open_matches l rs k = (refl, missing_is, λ a. (refl, zone_is, λ b. (refl, closed_is b, λ c. (refl, lengths_are b, λ d. k (a, (b, (c, (d, tt))))))))

  begin_matches : (j o : ℕ) (l : List Refusal) (rs : List Rule) → ((NotAZone z → ⊥) → ((6 < o) × (o ≢ 9) → ⊥) → Matches l rs) → Matches (not_open z ++ (bad_cpu z j ∷ bad_order o ∷ l)) (get_rules z j o ++ rs)
  begin_matches j o l rs k = open_matches (bad_cpu z j ∷ bad_order o ∷ l) (7 when (length z.cpus ≤ j) ∷ 3 when ((6 < o) × (o ≢ 9)) ∷ rs) (λ n. (refl, decides_le (length z.cpus) j, λ a. (refl, order_is o, k n.1.0)))

frame_is : (z : Zone) (f : Frame) → (NotAZone z → ⊥) → Decides (leb ((shape_of z).huge * 512) f.0) (512 * n_of z ≤ f.0)
frame_is z f w = let e = n_is z w in decides_iff _ _ _ (λ h. omega arith) (λ h. omega arith) (decides_le ((shape_of z).huge * 512) f.0)

-- of an order that is one's
aligned_is : (o : ℕ) (f : Frame) → ((6 < o) × (o ≢ 9) → ⊥) → Decides (not (eqb (f.0 % size (order_of o)) 0)) (f.0 % 2 ^ o ≢ 0)
aligned_is o f n = rw (size_of o n) (record { when_true = λ e. eqb-false _ 0 (not-true _ e); when_false = λ e h. h (eqb-true _ 0 (not-false _ e)) })

get_call_lem : (z : Zone) (j o : ℕ) → Call (get_rules z j o) (λ m. m ≡ 1) (begin_get z j o)
unfolding begin_get
get_call_lem z j o = record {
  answered = first_guarded _ (get_rules z j o) [] (λ m. m ≡ 1) _ (begin_matches z j o [] [] (λ w b. tt)) (λ n. refl);
  quiet = quiet_guarded _ _ (λ n h. absurd (omega arith));
}

put_call_lem : (z : Zone) (j : ℕ) (f : Frame) (o : ℕ) → Call (put_rules z j f o) (λ m. m ≡ 1) (begin_put z j f o)
unfolding begin_put
put_call_lem z j f o = record {
  answered = first_guarded _ (put_rules z j f o) [] (λ m. m ≡ 1) _ (begin_matches z j o (bad_frame z f ∷ misaligned o f ∷ []) (frame_rules z f o) (λ w b. (refl, frame_is z f w, λ c. (refl, aligned_is o f b, λ d. tt)))) (λ n. refl);
  quiet = quiet_guarded _ _ (λ n h. absurd (omega arith));
}

-- ---- a step

-- the zone's size, where its header is not malformed
zone_sized : (z : Zone) → (NotAZone z → ⊥) → 0 < (shape_of z).huge
unfolding header_of
zone_sized z h = (header_sized (word0 z) (go (is_malformed (header_says (word0 z))) refl)).0
  where
    go : (b : Bool) → is_malformed (header_says (word0 z)) ≡ b → is_malformed (header_says (word0 z)) ≡ false
    go true e = absurd (h ((zone_is z).when_true e))
    go false e = e

act_told : (z : Zone) → 0 < (shape_of z).huge → (r : Record) → Passes (step_range (shape_of z) r) → Told (shape_of z) z r (carried (shape_of z) z (act (shape_of z) r))
unfolding act step_range
act_told z n Record.Finished h = absurd (omega (arith, h.0))
act_told z n (Record.Get j s) h = take_told (shape_of z).huge z n j h.0 s h.1
act_told z n (Record.Put j s) h = give_told (shape_of z).huge z n j h.0 s h.1
act_told z n (Record.Create s) h = absurd (omega (arith, h.0))
act_told z n (Record.Open s) h = absurd (omega (arith, h.0))

-- what the plans' n tells, the header's does
told_rules : (z : Zone) (r : Record) (m : ℕ) → (NotAZone z → ⊥) → First (entry_rules (shape_of z) z r) (StepElse r) m → First (entry_rules (shaped (n_of z) z) z r) (StepElse r) m
told_rules z r m w = subst (λ n. First (entry_rules (shaped n z) z r) (StepElse r) m) (n_is z w)

step_range_lem : (z : Zone) (r : Record) → (NotAZone z → ⊥) → Means (step_range (shape_of z) r) (StepIn (n_of z) (length z.cpus) r)
step_range_lem z r w = rw (n_is z w) (step_in_lem (n_of z) (length z.cpus) r)

step_call_lem : (z : Zone) (r : Record) → Call (step_rules z r) (StepElse r) (step z r)
unfolding step
step_call_lem z r =
    let range : List Check = step_range (shape_of z) r in
    let rule : Rule = 11 when (StepIn (n_of z) (length z.cpus) r → ⊥) in
    record {
      answered = first_guarded _ (open_rules z ++ (rule ∷ [])) (entry_rules (shaped (n_of z) z) z r) (StepElse r) _
          (open_matches z (unless range Answer.BadRecord ∷ []) (rule ∷ []) (λ n. (refl, decides_unless (step_range_lem z r n.1.0), λ a. tt)))
          (λ n. told_rules z r _ n.1.0 (act_told z (zone_sized z n.1.0) r (stable (step_range_lem z r n.1.0) n.1.1.1.1.0)).answered);
      quiet = quiet_guarded _ _ (λ n. (act_told z (open_sized z (n.0, (n.1.0, (n.1.1.0, (n.1.1.1.0, tt))))).0 r (not_refused range n.1.1.1.1.0)).quiet);
    }

-- ---- create, open, close

size_is : (n : ℕ) → Decides (not (passes (size_checks n))) ((n ≡ 0) ⊎ (65536 < n))
size_is n = decides_iff _ _ _ outside inside (decides_unless (size_in n))
  where
    outside : ((1 ≤ n) × (n ≤ 65536) → ⊥) → (n ≡ 0) ⊎ (65536 < n)
    outside h = elim (dec_le n 0) [
      | yes p ↦ inl (omega arith)
      | no p ↦ elim (dec_le n 65536) [ yes q ↦ absurd (h (omega arith, omega arith)) | no q ↦ inr (omega arith) ]
    ]

    inside : (n ≡ 0) ⊎ (65536 < n) → (1 ≤ n) × (n ≤ 65536) → ⊥
    inside (inl e) p = omega arith
    inside (inr l) p = omega arith

size_matches : (n : ℕ) (z : Zone) (l : List Refusal) (rs : List Rule) → Matches l rs → Matches (not_created n z ++ l) (size_rules n z ++ rs)
size_matches n z l rs m = (refl, size_is n, λ a. (refl, missing_is z, λ b. (refl, decides_unless (lengths_in n z), λ c. m)))

create_call_lem : (n : ℕ) (z : Zone) → Call (size_rules n z) (λ m. m ≡ 1) (create_zone n z)
unfolding create_zone
create_call_lem n z = record {
  answered = first_guarded _ (size_rules n z) [] (λ m. m ≡ 1) _ (size_matches n z [] [] tt) (λ n. refl);
  quiet = quiet_guarded _ _ (λ n h. absurd (omega arith));
}

abbrev Ended : Plan → Type 0
Ended p = ((number p.answer ≡ 0) ⊎ (number p.answer ≡ 1)) × Quiet p

create_ends : (g : Shape) (r : Record) → Passes (create_range g r) → Ended (create_act g r)
unfolding create_act create_stage create_range
create_ends g Record.Finished h = absurd (omega (arith, h.0))
create_ends g (Record.Get j s) h = absurd (omega (arith, h.0))
create_ends g (Record.Put j s) h = absurd (omega (arith, h.0))
create_ends g (Record.Create (Creating.Words i)) h = (inr refl, λ q. absurd (omega arith))
create_ends g (Record.Create (Creating.Children i)) h = (inr refl, λ q. absurd (omega arith))
create_ends g (Record.Create (Creating.Trees i)) h = (inr refl, λ q. absurd (omega arith))
create_ends g (Record.Create (Creating.Cpus i)) h = (inr refl, λ q. absurd (omega arith))
create_ends g (Record.Create Creating.Header) h = (inl refl, λ q. absurd (omega arith))
create_ends g (Record.Open s) h = absurd (omega (arith, h.0))

create_step_call_lem : (n : ℕ) (z : Zone) (r : Record) → Call (create_step_rules n z r) (λ m. (m ≡ 0) ⊎ (m ≡ 1)) (create_step n z r)
unfolding create_step
create_step_call_lem n z r =
    let range : List Check = create_range (shaped n z) r in
    let means : Means range (CreateIn n (length z.cpus) r) = create_in n (length z.cpus) r in
    record {
      answered = first_guarded _ (create_step_rules n z r) [] (λ m. (m ≡ 0) ⊎ (m ≡ 1)) _
          (size_matches n z (unless range Answer.BadRecord ∷ []) (11 when (CreateIn n (length z.cpus) r → ⊥) ∷ []) (refl, decides_unless means, λ a. tt)) (λ m. (create_ends (shaped n z) r (stable means m.1.1.1.0)).0);
      quiet = quiet_guarded _ _ (λ m. (create_ends (shaped n z) r (not_refused range m.1.1.1.0)).1);
    }

-- a test made only if another holds
decides_if : (a b : Bool) (P Q : Type 0) → Decides a P → Decides (not b) Q → Decides (not (pick a b true)) (P × Q)
unfolding pick
decides_if true b P Q d e = record { when_true = λ q. (d.when_true refl, e.when_true q); when_false = λ q h. e.when_false q h.1 }
decides_if false b P Q d e = record { when_true = λ q. true_false (sym q); when_false = λ q h. d.when_false refl h.0 }

module _ (z : Zone) where
  abbrev g : Shape
  g = shaped (n_of z) z

  open_sound_lem : (NotAZone z → ⊥) → Decides (not (open_sound z)) (BadChild (n_of z) z ⊎ ((marker_in (word0 z) ≡ 1) × BadField (n_of z) z))
  unfolding open_sound header_of
  open_sound_lem w = rw (n_is z w) (decides_either (children_formed g z) (pick (is_running (header_of z)) (flags_empty g z) true) _ _ (children_are (n_of z) z) (decides_if (is_running (header_of z)) (flags_empty g z) _ _ (running_is (word0 z) _ (header_view (word0 z)) w) (fields_are (n_of z) z)))

  open_call_lem : Call (open_zone_rules z) (λ m. m ≡ 1) (open_zone z)
  unfolding open_zone
  open_call_lem = record {
    answered = first_guarded _ (open_zone_rules z) [] (λ m. m ≡ 1) _ (refl, missing_is z, λ a. (refl, zone_is z, λ b. (refl, lengths_are z b, λ c. (refl, open_sound_lem b, λ d. tt)))) (λ n. refl);
    quiet = quiet_guarded _ _ (λ n h. absurd (omega arith));
  }

  open_ends : (r : Record) → Passes (open_range (shape_of z) r) → Ended (open_act (shape_of z) z r)
  unfolding open_act open_stage open_range
  open_ends Record.Finished h = absurd (omega (arith, h.0))
  open_ends (Record.Get j s) h = absurd (omega (arith, h.0))
  open_ends (Record.Put j s) h = absurd (omega (arith, h.0))
  open_ends (Record.Create s) h = absurd (omega (arith, h.0))
  open_ends (Record.Open (Opening.Children i)) h = (inr refl, λ q. absurd (omega arith))
  open_ends (Record.Open (Opening.Trees i)) h = (inr refl, λ q. absurd (omega arith))
  open_ends (Record.Open (Opening.Cpus i)) h = pick_elim (λ a. ((number a ≡ 0) ⊎ (number a ≡ 1)) × (2 ≤ number a → Store.cpu i CpuEntry.Absent ≡ Store.nothing)) (ltb (suc i) (shape_of z).cpus) (λ b. (inr refl, λ q. absurd (omega arith))) (λ b. (inl refl, λ q. absurd (omega arith)))

  opening_bad : (NotAZone z → ⊥) → (r : Record) → OpenIn (n_of z) (length z.cpus) r → Decides (not (open_step_sound (shape_of z) z r)) (BadOpening (n_of z) z r)
  opening_bad w r h = rw (n_is z w) (opening_is (n_of z) z r h)

  open_step_call_lem : (r : Record) → Call (open_step_rules z r) (λ m. (m ≡ 0) ⊎ (m ≡ 1)) (open_step z r)
  unfolding open_step
  open_step_call_lem r =
      let range : List Check = open_range (shape_of z) r in
      let means : (NotAZone z → ⊥) → Means range (OpenIn (n_of z) (length z.cpus) r) = λ w. rw (n_is z w) (open_in (n_of z) (length z.cpus) r) in
      record {
        answered = first_guarded _ (open_step_rules z r) [] (λ m. (m ≡ 0) ⊎ (m ≡ 1)) _
            (open_matches z (unless range Answer.BadRecord ∷ on (not (open_step_sound (shape_of z) z r)) Answer.Damaged ∷ []) (11 when (OpenIn (n_of z) (length z.cpus) r → ⊥) ∷ 12 when BadOpening (n_of z) z r ∷ [])
            (λ n. (refl, decides_unless (means n.1.0), λ a. (refl, opening_bad n.1.0 r ((means n.1.0).so (stable (means n.1.0) a)), λ b. tt))))
            (λ m. (open_ends r (stable (means m.1.0) m.1.1.1.1.0)).0);
        quiet = quiet_guarded _ _ (λ m. (open_ends r (not_refused range m.1.1.1.1.0)).1);
      }

  close_sound_lem : (NotAZone z → ⊥) → Decides (not (close_sound z)) (BadChild (n_of z) z ⊎ (BadField (n_of z) z ⊎ (BadTree (n_of z) z ⊎ BadCpu (n_of z) z)))
  unfolding close_sound
  close_sound_lem w = rw (n_is z w)
      (decides_either (children_formed g z) (flags_empty g z && (trees_formed g z && cpus_formed g z)) _ _ (children_are (n_of z) z)
      (decides_either (flags_empty g z) (trees_formed g z && cpus_formed g z) _ _ (fields_are (n_of z) z) (decides_either (trees_formed g z) (cpus_formed g z) _ _ (trees_are (n_of z) z) (cpus_are (n_of z) z))))

  settles : (NotAZone z → ⊥) → (BadChild (n_of z) z → ⊥) → Decides (settled (shape_of z) z) (Settled (n_of z) z)
  settles w b = rw (n_is z w) (settled_is (n_of z) z b)

  close_call_lem : Call (close_rules z) (λ m. m ≡ 0) (close_zone z)
  unfolding close_zone
  close_call_lem = record {
    answered = first_guarded _ (close_rules z) [] (λ m. m ≡ 0) _
        (open_matches z (on (not (close_sound z)) Answer.Damaged ∷ on (not (settled (shape_of z) z)) Answer.NotSettled ∷ [])
        (12 when (BadChild (n_of z) z ⊎ (BadField (n_of z) z ⊎ (BadTree (n_of z) z ⊎ BadCpu (n_of z) z))) ∷ 13 when (Settled (n_of z) z → ⊥) ∷ [])
        (λ n. (refl, close_sound_lem n.1.0, λ a. (refl, decides_not _ _ (settles n.1.0 (λ b. a (inl b))), λ b. tt)))) (λ n. refl);
    quiet = quiet_guarded _ _ (λ n h. absurd (omega arith));
  }

pub refusals : Refusals
refusals = record {
  begin_get = get_call_lem;
  begin_put = put_call_lem;
  step = step_call_lem;
  create = create_call_lem;
  create_step = create_step_call_lem;
  opens = open_call_lem;
  open_step = open_step_call_lem;
  close = close_call_lem;
}
