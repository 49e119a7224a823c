-- The worked examples, by computation.
use mathlib.Core.Path.{◌≡◌, refl, sym, ap, ◌∙◌, subst}
use Prim.Native.Nat.{◌<◌}
use native.Mathlib.Omega.{arith}
use lib.ListN.{length}
use Rattle.laws.specs.Fields.{width, join}
use Rattle.rules.specs.Numbers.{format1}
use Rattle.rules.specs.Entries.{header_word, tree_word, cpu_word}
use Rattle.rules.specs.Lower.{count_word, flagged_word, fresh_child}
use Rattle.rules.specs.Types.{Answer}
use Rattle.rules.specs.Answers.{number, frame_of}
use Rattle.rules.specs.Zone.{Zone, shaped}
use Rattle.rules.specs.Create.{create_steps}
use Rattle.rules.specs.Fresh.{fresh, listed, Fitting, creates}
use Rattle.rules.specs.Worked.{Words, Table, Rooms, session, full, robbed, Reservations, Worked}
use Rattle.rules.proofs.Computed.{by_computation}
use Rattle.rules.proofs.Fresh.{runs}
use Rattle.rules.proofs.Histories.{answer_elim}

sample_words : Words
unfolding header_word tree_word cpu_word count_word flagged_word fresh_child join width
sample_words = record { running65 = refl; clean65 = refl; running65536 = refl; entry = refl; flagged_child = refl; fresh512 = refl; tree0 = refl }

no_frame_lem : (a : Answer) → 0 < number a → frame_of a ≡ 0
no_frame_lem a = answer_elim (λ x. 0 < number a → x ≡ 0) a (λ f. f) (λ r. 0) 0 (λ f q h. let z : number a ≡ 0 = ap number q in absurd (omega arith)) (λ r q h. refl) (λ q h. refl)

table : Table (fresh (record { format = format1; huge = 65; cpus = 2 }))
unfolding by_computation session fresh listed
table = record { lines = refl; tree0 = refl; below = refl; low = refl; high = refl; above = refl }

created_table : (z : Zone) → Fitting 65 z → length z.cpus ≡ 2 → Table (creates 65 z (create_steps (shaped 65 z))).zone
created_table z h e =
    let q : (creates 65 z (create_steps (shaped 65 z))).zone ≡ fresh (record { format = format1; huge = 65; cpus = 2 }) = (runs.create 65 z h).zone ∙ ap (λ k. fresh (record { format = format1; huge = 65; cpus = k })) e in
    subst Table (sym q) table

rooms : Rooms
unfolding by_computation session fresh listed
rooms = record { any = refl; steal = refl; steal_count = refl; release = refl; child = refl; tree = refl }

reservations : Reservations
unfolding by_computation session fresh listed robbed
reservations = record { take_count = refl; steal_count = refl; return_hand = refl; answered = refl }

pub worked : Worked
unfolding by_computation session fresh listed full
worked = record { words = sample_words; rooms = rooms; reservations = reservations; start_child = refl; no_frame = no_frame_lem; table = created_table; no_room = refl; taken = refl }
