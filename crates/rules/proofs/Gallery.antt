-- The history over two trees, by computation: up to the close, and on from the state that it leaves.
use mathlib.Core.Path.{◌≡◌, refl, sym, ap, ◌∙◌, subst}
use mathlib.Core.Bool.{true}
use mathlib.Core.List.{List, [], ◌∷◌, ◌++◌}
use native.Mathlib.Omega.{arith}
use lib.ListN.{length, replicate}
use Rattle.rules.specs.Types.{Block, CpuEntry}
use Rattle.rules.specs.Numbers.{format1}
use Rattle.rules.specs.Conversions.{tree}
use Rattle.rules.specs.Entries.{header_word, running, clean, tree_word, cpu_word}
use Rattle.rules.specs.Lower.{count_word, flagged_word}
use Rattle.rules.specs.Zone.{Zone, Store}
use Rattle.rules.specs.Plan.{Plan, says}
use Rattle.rules.specs.Step.{after}
use Rattle.rules.specs.Create.{done}
use Rattle.rules.specs.Fresh.{Fitting}
use Rattle.rules.specs.Events.{resting, Phase, ready, down, State, close, planned, answered_by, Event, call}
use Rattle.rules.specs.Exhibit.{history, Stands}
use Rattle.rules.specs.Gallery.{size, to_put, to_closed, reopened, used_up, near, to_opened, later, to_end, four, eight, whole, Shows, Gallery}
use Rattle.rules.proofs.Demand.{demand3}
use Rattle.rules.proofs.Exhibit.{all_admitted_lem, at_rest_lem, history_after, admitted_after, at_rest, follows, first, by_history, reach_first, exhibited}

-- the state after a close whose plan is p
abbrev closing : State → Plan → State
closing s p = answered_by (record { zone = after s.zone p; cpus = s.cpus; phase = s.phase; held = s.held; lost = s.lost }) close p.answer

-- the zone and the state after this close
unfoldable closed_zone : Zone
closed_zone = record {
  header = header_word clean size ∷ [];
  words = 0xFF0F ∷ replicate 295 0;
  children = count_word 500 ∷ replicate 31 (count_word 512) ++ flagged_word ∷ replicate 4 (count_word 512);
  trees = tree_word 1 0 ∷ tree_word 1 0 ∷ [];
  cpus = cpu_word format1 (CpuEntry.Holds (tree 0) 0 16372) ∷ cpu_word format1 (CpuEntry.Holds (tree 1) 0 2048) ∷ [];
}

unfoldable closed_state : State
closed_state = record { zone = closed_zone; cpus = λ j. resting; phase = down; held = four ∷ whole 32 ∷ []; lost = eight ∷ [] }

-- what close does, computed once
close_plan : planned (history to_put (first size 2)) close ≡ says (Store.header (header_word clean size)) done
unfolding by_history
close_plan = refl

closes : history to_closed (first size 2) ≡ closed_state
unfolding by_history closed_zone closed_state
closes = history_after to_put (call close ∷ []) (first size 2) ∙ ap (λ p. closing (history to_put (first size 2)) p) close_plan ∙ refl

-- the state after the open
unfoldable open_state : State
open_state = record {
  zone = record {
    header = header_word running size ∷ [];
    words = closed_zone.words;
    children = closed_zone.children;
    trees = tree_word 0 16372 ∷ tree_word 0 2048 ∷ [];
    cpus = 0 ∷ 0 ∷ [];
  };
  cpus = λ j. resting;
  phase = ready;
  held = four ∷ whole 32 ∷ [];
  lost = eight ∷ [];
}

opens : history reopened closed_state ≡ open_state
unfolding by_history closed_zone closed_state open_state
opens = refl

opened : history to_opened (first size 2) ≡ open_state
opened = history_after to_closed reopened (first size 2) ∙ ap (history reopened) closes ∙ opens

after_open : (l : List Event) → history (to_opened ++ l) (first size 2) ≡ history l open_state
after_open l = history_after to_opened l (first size 2) ∙ ap (history l) opened

two_trees : (z : Zone) × Fitting size z × (length z.cpus ≡ 2)
two_trees = demand3.starts size 2 (omega arith) (omega arith) (omega arith) (omega arith)

all_admitted : all_admitted_lem to_end (first size 2) ≡ true
unfolding by_history closed_zone closed_state open_state
all_admitted =
    admitted_after to_opened later (first size 2)
    (admitted_after to_closed reopened (first size 2) refl (ap (all_admitted_lem reopened) closes ∙ refl))
    (ap (all_admitted_lem later) opened ∙ refl)

stands_at : {s t : State} {p : Phase} {a b : List Block} → s ≡ t → Stands t p a b → Stands s p a b
stands_at {p = p} {a = a} {b = b} e x = subst (λ u. Stands u p a b) (sym e) x

shown : Shows (first size 2)
unfolding by_history closed_zone closed_state open_state
shown = record {
  putting = refl;
  put = record { phase = refl; held = refl; lost = refl };
  closed = stands_at closes (record { phase = refl; held = refl; lost = refl });
  opened = stands_at opened (record { phase = refl; held = refl; lost = refl });
  near = ap (λ (s : State). (s.cpus 0).latest) (after_open (used_up ++ near)) ∙ refl;
  ended = stands_at (after_open later) (record { phase = refl; held = refl; lost = refl });
  rests = at_rest size (history to_end (first size 2)) (follows size to_end (first size 2) (reach_first size 2 two_trees) all_admitted) (ap at_rest_lem (after_open later) ∙ refl);
}

pub gallery : Gallery
gallery = exhibited size 2 to_end Shows two_trees shown all_admitted
