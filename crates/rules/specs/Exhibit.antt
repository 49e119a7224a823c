-- Histories that are reached. Here one huge frame and two CPUs: a steal, lost blocks, cuts inside opens, and a close; and a get cut before and after its bit is set. In Gallery two trees.
use Rattle.std.specs.Prelude.{◌≡◌, List, [], ◌∷◌, ◌++◌, ℕ, length, replicate}
use Rattle.rules.specs.Types.{Run, Order, Block, Taking, Opening, Record}
use Rattle.rules.specs.Conversions.{frame, tree}
use Rattle.rules.specs.Lower.{count_word}
use Rattle.rules.specs.Zone.{Zone, shaped}
use Rattle.rules.specs.Create.{create_steps}
use Rattle.rules.specs.Fresh.{Fitting, creates}
use Rattle.rules.specs.Events.{Phase, ready, down, opening, State, Call, get, put, step_of, close, open_first, open_later, Event, call, cut, cut_in, next, started, Reach}
use Rattle.rules.specs.Promise.{AtRest}

-- the state after a list of events, the first first
unfoldable pub history : List Event → State → State
history [] s = s
history (e ∷ l) s = history l (next s e)

-- a call k times
abbrev pub times : ℕ → Call → List Event
times k c = replicate k (call c)

-- ---- the events; each part follows on the one before

-- CPU 0 gets frame 0, and its entry holds the only tree
abbrev pub got : List Event
got = call (get 0 0) ∷ times 8 (step_of 0)

-- CPU 1 begins a get, finds no tree but the one that CPU 0's entry holds, and takes that entry
abbrev pub stealing : List Event
stealing = call (get 1 0) ∷ times 5 (step_of 1)

-- it goes on, and gets frame 1
abbrev pub stole : List Event
stole = times 5 (step_of 1)

-- CPU 0 begins a put of frame 1, and CPU 1 a get. The power goes inside the get's third step, after its taking store; the put has not made its clearing store
abbrev pub losing : List Event
losing = call (put 0 0) ∷ call (get 1 0) ∷ times 2 (step_of 1) ++ (cut_in (step_of 1) (7 ∷ []) (9 ∷ []) ∷ [])

-- an open is cut off after its first step; another, with three CPUs from then on, has made its first step and counted the child
abbrev pub opens : List Event
opens = call open_first ∷ cut (0 ∷ []) (9 ∷ 9 ∷ 9 ∷ []) ∷ call open_first ∷ call open_later ∷ []

-- it is cut off inside its next step, after the store; the third open finishes: its first step, a child, a tree, three CPUs
abbrev pub opened : List Event
opened = cut_in open_later (7 ∷ []) (0 ∷ 9 ∷ 9 ∷ []) ∷ call open_first ∷ times 5 open_later

-- CPU 2 gets frame 3, the first that is neither held nor lost; CPU 1 puts frame 0
abbrev pub gave : List Event
gave = call (get 2 0) ∷ times 8 (step_of 2) ++ call (put 1 1) ∷ times 4 (step_of 1)

abbrev pub closes : List Event
closes = call close ∷ []

-- an open after the close: its first step, a tree, three CPUs
abbrev pub reopened : List Event
reopened = call open_first ∷ times 4 open_later

-- ---- the events up to a place

abbrev pub to_steal : List Event
to_steal = got ++ stealing

abbrev pub to_stolen : List Event
to_stolen = to_steal ++ stole

abbrev pub to_lost : List Event
to_lost = to_stolen ++ losing

abbrev pub to_opening : List Event
to_opening = to_lost ++ opens

abbrev pub to_opened : List Event
to_opened = to_opening ++ opened

abbrev pub to_given : List Event
to_given = to_opened ++ gave

abbrev pub to_closed : List Event
to_closed = to_given ++ closes

abbrev pub to_end : List Event
to_end = to_closed ++ reopened

-- ---- what the history shows

abbrev pub base : ℕ → Block
base i = Block.Run Run.One (frame i)

-- the phase of a state, its held and its lost blocks
pub record Stands (s : State) (p : Phase) (a b : List Block) : Type 0 where
  pub phase : s.phase ≡ p
  pub held : s.held ≡ a
  pub lost : s.lost ≡ b

pub record Shows (s : State) : Type 0 where
  -- CPU 1 has taken CPU 0's entry, and holds its 511 frames in hand
  pub steals : ((history to_steal s).cpus 1).latest ≡ Record.Get 1 (Taking.StealCount (Order.Run Run.One) 0 (tree 0) 511)
  pub stolen : Stands (history to_stolen s) ready (base 1 ∷ base 0 ∷ []) []
  -- the get's block, which nobody was handed, and the put's block, which is not free
  pub lost : Stands (history to_lost s) down (base 0 ∷ []) (base 2 ∷ base 1 ∷ [])
  -- the step that the next cut falls into stores the tree; cuts inside opens lose no block
  pub in_open : Stands (history to_opening s) (opening (Record.Open (Opening.Trees (tree 0)))) (base 0 ∷ []) (base 2 ∷ base 1 ∷ [])
  pub opened : Stands (history to_opened s) ready (base 0 ∷ []) (base 2 ∷ base 1 ∷ [])
  pub given : Stands (history to_given s) ready (base 3 ∷ []) (base 2 ∷ base 1 ∷ [])
  pub closed : Stands (history to_closed s) down (base 3 ∷ []) (base 2 ∷ base 1 ∷ [])
  -- open again, and nothing is under way
  pub ended : Stands (history to_end s) ready (base 3 ∷ []) (base 2 ∷ base 1 ∷ [])
  pub rests : AtRest (history to_end s)

-- ---- "A get cut after its child's count fell but before its bit is set loses nothing; cut after the bit is set, one frame"

-- CPU 0 gets frame 0, begins another get and makes k of its steps
abbrev pub begun : ℕ → List Event
begun k = got ++ call (get 0 0) ∷ times k (step_of 0)

-- and the power goes; an open: its first step, the child, the tree, two CPUs
abbrev pub cut_after : ℕ → List Event
cut_after k = begun k ++ cut (7 ∷ []) (9 ∷ 9 ∷ []) ∷ call open_first ∷ times 4 open_later

-- what survives a cut: the first word, and seven that are zero; and the child's count
pub record Keeps (s : State) (word count : ℕ) : Type 0 where
  pub words : s.zone.words ≡ word ∷ replicate 7 0
  pub children : s.zone.children ≡ count_word count ∷ []

pub record CutBefore (s : State) : Type 0 where
  -- frame 0's bit is set, and the child counts 511
  pub before : Keeps (history got s) 1 511
  -- the count fell, and no bit was set
  pub fell : Keeps (history (begun 2) s) 1 510
  -- cut there, the get loses nothing, and after the open all is as before it
  pub nothing : Stands (history (cut_after 2) s) ready (base 0 ∷ []) []
  pub again : Keeps (history (cut_after 2) s) 1 511

pub record CutLater (s : State) : Type 0 where
  -- a step later frame 1's bit is set
  pub set : Keeps (history (begun 3) s) 3 510
  -- cut there, the get loses that frame
  pub one : Stands (history (cut_after 3) s) ready (base 0 ∷ []) (base 1 ∷ [])
  pub gone : Keeps (history (cut_after 3) s) 3 510

-- ---- where a history begins: the zone that create leaves for n huge frames
abbrev pub begins : ℕ → Zone → State
begins n z = started (creates n z (create_steps (shaped n z))).zone

-- a history of the events l, in which S holds of the state that it begins with
pub record Exhibited (n c : ℕ) (l : List Event) (S : State → Type 0) : Type 0 where
  -- there are tables that fit n huge frames, with c CPUs
  pub tables : (z : Zone) × Fitting n z × (length z.cpus ≡ c)
  -- and from all such tables
  pub shows : (z : Zone) → Fitting n z → length z.cpus ≡ c → S (begins n z)
  -- every event is admitted
  pub reached : (z : Zone) → Fitting n z → length z.cpus ≡ c → Reach n (history l (begins n z))

pub record Exhibit : Type 0 where
  pub steal : Exhibited 1 2 to_end Shows
  pub cut_before : Exhibited 1 2 (cut_after 2) CutBefore
  pub cut_later : Exhibited 1 2 (cut_after 3) CutLater
