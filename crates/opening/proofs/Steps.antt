-- The steps of open: the first, and each later one.
use mathlib.Core.Path.{◌≡◌, refl, sym, ap, ap₂, ◌∙◌}
use mathlib.Core.Bool.{Bool, true, false, not, ◌&&◌}
use mathlib.Core.List.{List, [], ◌∷◌}
use Prim.Native.Nat.{ℕ}
use native.Mathlib.Omega.{arith}
use Rattle.std.specs.Prelude.{Result, Ok, Err}
use Rattle.laws.specs.Tests.{pick, passes, Passes}
use Rattle.laws.specs.Tables.{Outcome, outcome, wrapped}
use Rattle.laws.proofs.Tests.{all_passed}
use Rattle.rules.specs.Numbers.{Shape as Rules}
use Rattle.rules.specs.Conversions.{huge, tree}
use Rattle.rules.specs.Entries.{header_word, running}
use Rattle.rules.specs.Zone.{Zone, header_of, shape_of, Store, stored}
use Rattle.rules.specs.Plan.{Plan, says, Refusal, on, guarded}
use Rattle.rules.specs.Checks.{unless, is_running}
use Rattle.rules.specs.Ranges.{opening_in, open_range}
use Rattle.rules.specs.Open.{children_formed, flags_empty, opening, open_sound, open_zone, open_step_sound, open_act, open_step}
use Rattle.entries.specs.Sizes.{huge_of}
use Rattle.entries.specs.Steps.{stored_in}
use Rattle.places.specs.Shapes as Shapes
use Rattle.calls.specs.Results.{zone, result_of, done, Fits}
use Rattle.calls.proofs.Opened.{stores_nothing, stands, passed_by, checked_in, checked_refused, checked_open}
use Rattle.calls.proofs.Stored.{entry_stored}
use Rattle.looks.specs.Looks.{children_formed_in, flags_empty_in}
use Rattle.looks.proofs.Loops.{first_fails, first_passes}
use Rattle.looks.proofs.Zones.{zone_formed, zone_flags}
use Rattle.opening.specs.Types.{Fault, Opening, Record, Answer, Size, Zoned, Shape}
use Rattle.opening.specs.Opens.{start_as, start_in, open_at}
use Rattle.opening.proofs.Refusals.{shape_by, openable_by, Ready, openable_refused, openable_cut, openable_closed}
use Rattle.opening.proofs.Stages.{header_aside}

-- the header's store, whatever it said
pub started : (m : Size) (s : Opening) (l : List ℕ) {x y : Result Unit Fault} {l' : List ℕ} {r : Answer} → outcome x l' ≡ stored_in 0 (header_word running (huge_of m)) l → x ≡ y → r ≡ start_as s y → outcome r l' ≡ start_in m s l
started m s l {l' = l'} o q a = ap (λ v. outcome v l') (a ∙ ap (start_as s) (sym q)) ∙ ap (λ (v : Outcome (Result Unit Fault)). wrapped (start_as s) v) o

module _ (h w c t p : List ℕ) where
  abbrev z : Zone
  z = zone h w c t p

  -- ---- the first step

  -- where the header said running, and where it did not
  abbrev sound : Rules → Bool → Bool
  sound i b = children_formed i z && pick b (flags_empty i z) true

  abbrev damaged : Rules → Bool → Refusal
  damaged i b = on (not (sound i b)) Answer.Damaged

  abbrev stage_by : Bool → Opening
  stage_by b = pick b (Opening.Children (huge 0)) (Opening.Trees (tree 0))

  abbrev starts : Rules → Bool → Plan
  starts i b = says (Store.header (header_word running i.huge)) (opening (stage_by b))

  abbrev opens : Plan
  opens = guarded (damaged (shape_of z) (is_running (header_of z)) ∷ []) (starts (shape_of z) (is_running (header_of z)))

  pub open_refused : {a : Answer} → openable_by h w c t p ≡ Err a → result_of a z ≡ done z (open_zone z)
  unfolding open_zone open_sound guarded
  open_refused e = stores_nothing z (openable_refused h w c t p e opens)

  abbrev shape_in : Size → Rules
  shape_in m = Shapes.shape_of (shape_by p m)

  module _ (m : Size) (b : Bool) (k : Ready h w c t p m b) where
    ready_opens : open_zone z ≡ guarded (damaged (shape_in m) b ∷ []) (starts (shape_in m) b)
    unfolding open_zone open_sound guarded
    ready_opens = k.1 opens ∙ ap₂ (λ (i : Rules) j. guarded (damaged i j ∷ []) (starts i j)) k.0 k.3

    open_damaged : false ≡ sound (shape_in m) b → result_of Answer.Damaged z ≡ done z (open_zone z)
    open_damaged q = stores_nothing z (ready_opens ∙ stands (damaged (shape_in m) b) [] (starts (shape_in m) b) (ap not (sym q)))

    -- the header's store
    open_starts : true ≡ sound (shape_in m) b → {r : Answer} {h' : List ℕ} → outcome r h' ≡ start_in m (stage_by b) h → result_of r (zone h' w c t p) ≡ done z (open_zone z)
    unfolding guarded stored
    open_starts q o =
        ap (λ (v : Outcome Answer). result_of v.said (zone v.table w c t p)) (o ∙ ap (λ (v : Outcome (Result Unit Fault)). wrapped (start_as (stage_by b)) v) (entry_stored 0 h (omega (arith, k.4)) (header_word running (huge_of m))))
        ∙ sym (ap (done z) (ready_opens ∙ passed_by (damaged (shape_in m) b) [] (starts (shape_in m) b) (ap not (sym q))))

    -- as the code looks at the children
    module _ {r : Bool} (a : r ≡ children_formed_in c) where
      formed_same : r ≡ children_formed (shape_in m) z
      formed_same = a ∙ zone_formed (shape_by p m) h w c t p k.2

      malformed : r ≡ false → result_of Answer.Damaged z ≡ done z (open_zone z)
      malformed q = open_damaged (first_fails (children_formed (shape_in m) z) (pick b (flags_empty (shape_in m) z) true) formed_same q)

      all_formed : r ≡ true → {u : Bool} → u ≡ pick b (flags_empty (shape_in m) z) true → u ≡ sound (shape_in m) b
      all_formed q d = first_passes (children_formed (shape_in m) z) (pick b (flags_empty (shape_in m) z) true) formed_same q d

  -- a zone that was cut off, and one that was closed
  module _ {m : Size} {r : Bool} where
    module _ (e : openable_by h w c t p ≡ Ok (Zoned.Running m)) (a : r ≡ children_formed_in c) where
      cut : Ready h w c t p m true
      cut = openable_cut h w c t p e

      pub cut_malformed : r ≡ false → result_of Answer.Damaged z ≡ done z (open_zone z)
      cut_malformed = malformed m true cut a

      module _ (q : r ≡ true) {u : Bool} (d : u ≡ flags_empty_in c w) where
        cut_sound : u ≡ sound (shape_in m) true
        unfolding pick
        cut_sound = all_formed m true cut a q (d ∙ zone_flags (shape_by p m) h w c t p cut.2)

        pub cut_flagged : u ≡ false → result_of Answer.Damaged z ≡ done z (open_zone z)
        cut_flagged f = open_damaged m true cut (sym f ∙ cut_sound)

        pub cut_starts : u ≡ true → {x : Answer} {h' : List ℕ} → outcome x h' ≡ start_in m (Opening.Children (huge 0)) h → result_of x (zone h' w c t p) ≡ done z (open_zone z)
        unfolding pick
        cut_starts f = open_starts m true cut (sym f ∙ cut_sound)

    module _ (e : openable_by h w c t p ≡ Ok (Zoned.Clean m)) (a : r ≡ children_formed_in c) where
      closed : Ready h w c t p m false
      closed = openable_closed h w c t p e

      pub closed_malformed : r ≡ false → result_of Answer.Damaged z ≡ done z (open_zone z)
      closed_malformed = malformed m false closed a

      pub closed_starts : r ≡ true → {x : Answer} {h' : List ℕ} → outcome x h' ≡ start_in m (Opening.Trees (tree 0)) h → result_of x (zone h' w c t p) ≡ done z (open_zone z)
      unfolding pick
      closed_starts q = open_starts m false closed (all_formed m false closed a q refl)

  -- ---- a later step

  -- what a stage in range may take as given
  pub stage_ready : {s : Shape} → checked_in h w c t p ≡ Ok s → (stage : Opening) {b : Bool} → b ≡ passes (opening_in (Shapes.shape_of s) stage) → b ≡ true → Fits s w c t p × Passes (opening_in (Shapes.shape_of s) stage)
  stage_ready {s} e stage d b = ((checked_open h w c t p e).2, all_passed (opening_in (Shapes.shape_of s) stage) (sym d ∙ b))

  module _ (r : Record) where
    abbrev refusals : Rules → Record → List Refusal
    refusals i x = unless (open_range i x) Answer.BadRecord ∷ on (not (open_step_sound i z x)) Answer.Damaged ∷ []

    pub step_refused : {a : Answer} → checked_in h w c t p ≡ Err a → result_of a z ≡ done z (open_step z r)
    unfolding open_step
    step_refused e = stores_nothing z (checked_refused h w c t p e (refusals (shape_of z) r) (open_act (shape_of z) z r))

    module _ {s : Shape} (e : checked_in h w c t p ≡ Ok s) {x : Record} (q : r ≡ x) where
      abbrev g : Rules
      g = Shapes.shape_of s

      step_open : open_step z r ≡ guarded (refusals g x) (open_act g z x)
      unfolding open_step
      step_open =
          let k = checked_open h w c t p e in
          k.1 (refusals (shape_of z) r) (open_act (shape_of z) z r) ∙ ap₂ (λ (i : Rules) (y : Record). guarded (refusals i y) (open_act i z y)) k.0 q

      pub step_out : passes (open_range g x) ≡ false → result_of Answer.BadRecord z ≡ done z (open_step z r)
      step_out b = stores_nothing z (step_open ∙ stands (unless (open_range g x) Answer.BadRecord) (on (not (open_step_sound g z x)) Answer.Damaged ∷ []) (open_act g z x) (ap not b))

    pub step_acts : {s : Shape} → checked_in h w c t p ≡ Ok s → {stage : Opening} → r ≡ Record.Open stage → {b : Bool} → b ≡ passes (opening_in (Shapes.shape_of s) stage) → b ≡ true → {a : Answer} {w' c' t' p' : List ℕ}
        → result_of a (zone [] w' c' t' p') ≡ done (zone [] w c t p) (open_at (Shapes.shape_of s) (zone [] w c t p) stage) → result_of a (zone h w' c' t' p') ≡ done z (open_step z r)
    unfolding open_range open_step_sound open_act
    step_acts {s} e {stage} q d b o =
        let x : Record = Record.Open stage in
        let i : Rules = Shapes.shape_of s in
        header_aside w c t p s h stage o
        ∙ sym (ap (done z) (step_open e q ∙ passed_by (unless (open_range i x) Answer.BadRecord) (on (not (open_step_sound i z x)) Answer.Damaged ∷ []) (open_act i z x) (ap not (sym d ∙ b))))
