-- What close finds before its store, and close's plan by it.
use mathlib.Core.Path.{◌≡◌, refl, sym, ap, subst, ◌∙◌}
use mathlib.Core.Bool.{Bool, true, false, not}
use mathlib.Core.List.{List, [], ◌∷◌}
use Prim.Native.Nat.{ℕ}
use native.Mathlib.Omega.{arith}
use lib.ListN.{length}
use Rattle.std.specs.Prelude.{Result, Ok, Err}
use Rattle.laws.specs.Tables.{outcome}
use Rattle.laws.proofs.Tests.{pick_elim, pick_yes, pick_no}
use Rattle.rules.specs.Numbers.{Shape as Rules}
use Rattle.rules.specs.Entries.{header_word, clean}
use Rattle.rules.specs.Zone.{Zone, shape_of, Store, stored}
use Rattle.rules.specs.Plan.{Plan, says, refuse, Refusal, on, guarded}
use Rattle.rules.specs.Create as Create
use Rattle.rules.specs.Open.{children_formed, flags_empty, trees_formed, cpus_formed, child_settled, tree_count, cpu_count, child_count, tree_settled, settled, close_sound, close_zone}
use Rattle.entries.specs.Sizes.{huge_of}
use Rattle.entries.specs.Steps.{stored_in}
use Rattle.entries.proofs.Turns.{stored_in_lem}
use Rattle.places.specs.Shapes as Shapes
use Rattle.calls.specs.Results.{zone, result_of, done, checked_as, Fits}
use Rattle.calls.proofs.Opened.{stores_nothing, stands, passed_by, checked_in, checked_refused, checked_open, one_entry}
use Rattle.closing.specs.Types.{Fault, Answer, Shape}
use Rattle.closing.specs.Verdicts.{sound_in, verdict_as, verdict_in, closed_as}

module _ (h w c t p : List ℕ) where
  abbrev z : Zone
  z = zone h w c t p

  -- close looks at every table but the header
  sound_same : (g : Rules) → sound_in g (zone [] w c t p) ≡ sound_in g z
  unfolding children_formed flags_empty trees_formed cpus_formed
  sound_same g = refl

  settled_same : (g : Rules) → settled g (zone [] w c t p) ≡ settled g z
  unfolding settled child_settled tree_settled tree_count cpu_count child_count
  settled_same g = refl

  abbrev Judges : Result Shape Answer → Type 0
  Judges (Err a) = close_zone z ≡ refuse a
  Judges (Ok s) = (length h ≡ 1) × (close_zone z ≡ says (Store.header (header_word clean (huge_of s.size))) Create.done)

  module _ {s : Shape} (e : checked_in h w c t p ≡ Ok s) where
    abbrev g : Rules
    g = Shapes.shape_of s

    abbrev damaged : Rules → Refusal
    damaged i = on (not (sound_in i z)) Answer.Damaged

    abbrev unsettled : Rules → Refusal
    unsettled i = on (not (settled i z)) Answer.NotSettled

    abbrev closes : Rules → Plan
    closes i = says (Store.header (header_word clean i.huge)) Create.done

    header_there : length h ≡ 1
    unfolding checked_as
    header_there = one_entry h refl (λ q.
        let y : Err Answer.BadBuffers ≡ Ok s = sym (ap (λ x. checked_as x (length w) (length c) (length t) (length p)) q) ∙ e in
        cc)

    close_open : close_zone z ≡ guarded (damaged g ∷ unsettled g ∷ []) (closes g)
    unfolding close_zone close_sound
    close_open =
        let k = checked_open h w c t p e in
        k.1 (damaged (shape_of z) ∷ unsettled (shape_of z) ∷ []) (closes (shape_of z)) ∙ ap (λ (i : Rules). guarded (damaged i ∷ unsettled i ∷ []) (closes i)) k.0

    zone_judged : Judges (verdict_as (Ok s) w c t p)
    unfolding verdict_as guarded
    zone_judged =
        pick_elim Judges (sound_in g (zone [] w c t p))
        (λ b. let sound = ap not (sym (sound_same g) ∙ b) in pick_elim Judges (settled g (zone [] w c t p))
        (λ d. (header_there, close_open ∙ (passed_by (damaged g) (unsettled g ∷ []) (closes g) sound ∙ passed_by (unsettled g) [] (closes g) (ap not (sym (settled_same g) ∙ d)))))
        (λ d. close_open ∙ (passed_by (damaged g) (unsettled g ∷ []) (closes g) sound ∙ stands (unsettled g) [] (closes g) (ap not (sym (settled_same g) ∙ d)))))
        (λ b. close_open ∙ stands (damaged g) (unsettled g ∷ []) (closes g) (ap not (sym (sound_same g) ∙ b)))

  judged : (x : Result Shape Answer) → checked_in h w c t p ≡ x → Judges (verdict_as x w c t p)
  unfolding verdict_as close_zone
  judged (Err a) e = checked_refused h w c t p e (on (not (close_sound z)) Answer.Damaged ∷ on (not (settled (shape_of z) z)) Answer.NotSettled ∷ []) (says (Store.header (header_word clean (shape_of z).huge)) Create.done)
  judged (Ok s) e = zone_judged e

  -- as the code tells the verdicts apart
  judges : {v x : Result Shape Answer} → v ≡ verdict_in h w c t p → v ≡ x → Judges x
  judges e q = subst Judges (sym e ∙ q) (judged (checked_in h w c t p) refl)

  module _ {v : Result Shape Answer} (e : v ≡ verdict_in h w c t p) where
    pub told_refused : {a : Answer} → v ≡ Err a → a ≡ (close_zone z).answer
    told_refused q = sym (ap (λ (x : Plan). x.answer) (judges e q))

    pub told_settled : {s : Shape} → v ≡ Ok s → Create.done ≡ (close_zone z).answer
    told_settled q = sym (ap (λ (x : Plan). x.answer) (judges e q).1)

    pub close_refused : {a : Answer} → v ≡ Err a → result_of a z ≡ done z (close_zone z)
    close_refused q = stores_nothing z (judges e q)

    -- the header's store, whatever it said
    pub close_stored : {s : Shape} → v ≡ Ok s → {x y : Result Unit Fault} {h' : List ℕ} → outcome x h' ≡ stored_in 0 (header_word clean (huge_of s.size)) h → x ≡ y → result_of (closed_as y) (zone h' w c t p) ≡ done z (close_zone z)
    unfolding stored
    close_stored {s} q {x} {y} {h'} o r =
        let k = judges e q in
        ap (λ i. result_of (closed_as i) (zone h' w c t p)) (sym r)
        ∙ (ap (λ i. result_of (closed_as i.said) (zone i.table w c t p)) (o ∙ sym (stored_in_lem 0 (header_word clean (huge_of s.size)) h (omega (arith, k.0)) refl))
        ∙ sym (ap (done z) k.1))

  -- ---- as the code finds them

  module _ {x : Result Shape Answer} (e : x ≡ checked_in h w c t p) where
    pub found_refused : {a : Answer} → x ≡ Err a → Err a ≡ verdict_in h w c t p
    unfolding verdict_as
    found_refused q = ap (λ y. verdict_as y w c t p) (sym q ∙ e)

    module _ {s : Shape} (q : x ≡ Ok s) where
      pub found_fits : Fits s w c t p
      found_fits = (checked_open h w c t p (sym e ∙ q)).2

      found_zone : verdict_as (Ok s) w c t p ≡ verdict_in h w c t p
      found_zone = ap (λ y. verdict_as y w c t p) (sym q ∙ e)

      module _ {r : Bool} (k : r ≡ sound_in (Shapes.shape_of s) (zone [] w c t p)) where
        pub found_damaged : r ≡ false → Err Answer.Damaged ≡ verdict_in h w c t p
        unfolding verdict_as
        found_damaged b = sym (pick_no _ _ _ (sym k ∙ b)) ∙ found_zone

        module _ (b : r ≡ true) {u : Bool} (l : u ≡ settled (Shapes.shape_of s) (zone [] w c t p)) where
          pub found_unsettled : u ≡ false → Err Answer.NotSettled ≡ verdict_in h w c t p
          unfolding verdict_as
          found_unsettled d = sym (pick_yes _ _ _ (sym k ∙ b) ∙ pick_no _ _ _ (sym l ∙ d)) ∙ found_zone

          pub found_settled : u ≡ true → Ok s ≡ verdict_in h w c t p
          unfolding verdict_as
          found_settled d = sym (pick_yes _ _ _ (sym k ∙ b) ∙ pick_yes _ _ _ (sym l ∙ d)) ∙ found_zone
