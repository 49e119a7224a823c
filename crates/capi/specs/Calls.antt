-- A call as C makes it: what is answered, the tables, and the record as it is left.
use Rattle.std.specs.Prelude.{Bool, List, [], ◌∷◌, ℕ, max, eqb, length, get_or}
use Rattle.laws.specs.Tests.{pick, passes}
use Rattle.rules.specs.Numbers.{format1, trees_of}
use Rattle.rules.specs.Zone.{Zone, header_of}
use Rattle.rules.specs.Answers.{number, frame_of, record_of}
use Rattle.rules.specs.Plan.{Plan, refuse, on, guarded}
use Rattle.rules.specs.Checks.{unless, is_clean, no_header, not_a_zone}
use Rattle.rules.specs.Conversions.{frame}
use Rattle.rules.specs.Begin.{begin_get, begin_put}
use Rattle.rules.specs.Create.{size_checks, create_zone, create_step}
use Rattle.rules.specs.Open.{open_zone, open_step, close_zone}
use Rattle.rules.specs.Step as rules
use Rattle.calls.specs.Results.{zone}
use Rattle.records.specs.Encoding.{encode}
use Rattle.records.specs.Decoding.{decode}
use Rattle.capi.specs.Types.{Record, Answer, Words, Answered, Ran}

-- ---- what is answered, by number and frame

abbrev pub answered_as : Answer → Answered
answered_as a = record { number = number a; frame = frame_of a }

abbrev pub ran_as : Answer → ℕ → Ran
ran_as a k = record { number = number a; frame = frame_of a; steps = k }

-- ---- the record: two words

abbrev pub record_words : ℕ
record_words = 2

abbrev pub is_record : List ℕ → Bool
is_record l = eqb (length l) record_words

abbrev pub words_in : List ℕ → Words
words_in l = record { first = get_or l 0 0; second = get_or l 1 0 }

-- the record that is lent
abbrev pub lent_in : List ℕ → Record
lent_in l = decode (words_in l)

abbrev pub laid_down : Words → List ℕ
laid_down w = w.first ∷ w.second ∷ []

-- the slice with a record laid down; a slice of another length as it is
unfoldable pub laid : Record → List ℕ → List ℕ
laid r l = pick (is_record l) (laid_down (encode r)) l

-- the slice as a call leaves it: the next record after 1, else the finished one
abbrev pub handed_back : Answer → List ℕ → List ℕ
handed_back a l = laid (record_of a) l

-- ---- a record slice of another length: what comes before 8, or 8

-- h is the header slice; e is answered to a closed zone, which open alone does not refuse
unfoldable pub no_record : Answer → List ℕ → Answer
no_record e h = let z : Zone = zone h [] [] [] [] in (guarded (no_header z ∷ not_a_zone z ∷ on (is_clean (header_of z)) e ∷ []) (refuse Answer.BadBuffers)).answer

unfoldable pub no_create_record : ℕ → Answer
no_create_record n = (guarded (unless (size_checks n) Answer.BadSize ∷ []) (refuse Answer.BadBuffers)).answer

-- ---- calls

pub record Called (A : Type 0) : Type 0 where
  pub said : A
  pub zone : Zone
  pub rec : List ℕ

abbrev pub called : {A : Type 0} → A → Zone → List ℕ → Called A
called a z l = record { said = a; zone = z; rec = l }

-- one call: the rules' plan carried out; e is answered to a record slice of another length
unfoldable pub made : Answer → Zone → List ℕ → Plan → Called Answered
made e z l p = pick (is_record l) (called (answered_as p.answer) (rules.after z p) (handed_back p.answer l)) (called (answered_as e) z l)

-- a run of the rules' steps
unfoldable pub followed : Answer → Zone → List ℕ → rules.Ran → Called Ran
followed e z l x = pick (is_record l) (called (ran_as x.answer x.steps) x.zone (handed_back x.answer l)) (called (ran_as e 0) z l)

-- a call without a record
abbrev pub made_alone : Zone → Plan → Called Answered
made_alone z p = called (answered_as p.answer) (rules.after z p) []

-- ---- the exported calls, on a zone's tables z and a record slice l; a call that goes on makes at least one step, one that begins and goes on may make none

module _ (z : Zone) (l : List ℕ) where
  abbrev pub get_call : ℕ → ℕ → Called Answered
  get_call cpu order = made (no_record Answer.Closed z.header) z l (begin_get z cpu order)

  abbrev pub put_call : ℕ → ℕ → ℕ → Called Answered
  put_call cpu first order = made (no_record Answer.Closed z.header) z l (begin_put z cpu (frame first) order)

  abbrev pub step_call : Called Answered
  step_call = made (no_record Answer.Closed z.header) z l (rules.step z (lent_in l))

  abbrev pub run_call : ℕ → Called Ran
  run_call fuel = followed (no_record Answer.Closed z.header) z l (rules.runs (max 1 fuel) z (lent_in l))

  abbrev pub get_run_call : ℕ → ℕ → ℕ → Called Ran
  get_run_call cpu order fuel = followed (no_record Answer.Closed z.header) z l (rules.follow rules.step fuel 0 (begin_get z cpu order).answer z)

  abbrev pub put_run_call : ℕ → ℕ → ℕ → ℕ → Called Ran
  put_run_call cpu first order fuel = followed (no_record Answer.Closed z.header) z l (rules.follow rules.step fuel 0 (begin_put z cpu (frame first) order).answer z)

  -- create is given n beside the record
  abbrev pub create_call : ℕ → Called Answered
  create_call n = made (no_create_record n) z l (create_zone n z)

  abbrev pub create_step_call : ℕ → Called Answered
  create_step_call n = made (no_create_record n) z l (create_step n z (lent_in l))

  abbrev pub create_run_call : ℕ → ℕ → Called Ran
  create_run_call n fuel = followed (no_create_record n) z l (rules.follow (create_step n) (max 1 fuel) 0 (Answer.UnderWay (lent_in l)) z)

  abbrev pub open_call : Called Answered
  open_call = made (no_record Answer.BadBuffers z.header) z l (open_zone z)

  abbrev pub open_step_call : Called Answered
  open_step_call = made (no_record Answer.Closed z.header) z l (open_step z (lent_in l))

  abbrev pub open_run_call : ℕ → Called Ran
  open_run_call fuel = followed (no_record Answer.Closed z.header) z l (rules.follow open_step (max 1 fuel) 0 (Answer.UnderWay (lent_in l)) z)

abbrev pub close_call : Zone → Called Answered
close_call z = made_alone z (close_zone z)

-- ---- lengths, where there is a zone of n huge frames

unfoldable pub length_for : ℕ → ℕ → ℕ
length_for n k = pick (passes (size_checks n)) k 0

abbrev pub trees_for : ℕ → ℕ
trees_for n = trees_of (record { format = format1; huge = n; cpus = 0 })
