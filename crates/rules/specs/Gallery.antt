-- A history over two trees that is reached: a held and a lost run, huge frames, a close with a put under way, and a near pass.
use Rattle.std.specs.Prelude.{◌≡◌, List, [], ◌∷◌, ◌++◌, ℕ}
use Rattle.rules.specs.Types.{Run, Order, Block, Pass, Found, Taking, Giving, Record}
use Rattle.rules.specs.Conversions.{frame, huge, tree}
use Rattle.rules.specs.Events.{ready, down, State, get, put, step_of, close, open_first, open_later, Event, call}
use Rattle.rules.specs.Promise.{AtRest}
use Rattle.rules.specs.Exhibit.{history, times, Stands, Exhibited}

-- 37 huge frames: tree 0 has 32 of them, tree 1 has 5
abbrev pub size : ℕ
size = 37

-- two gets, their steps mixed: CPU 0 takes tree 0 and gets a run of 4, CPU 1 takes tree 1 and gets its first huge frame; then CPU 0 gets a run of 8
abbrev pub gets : List Event
gets = call (get 0 2) ∷ times 2 (step_of 0) ++ call (get 1 9) ∷ times 3 (step_of 1) ++ times 2 (step_of 0) ++ times 3 (step_of 1) ++ times 4 (step_of 0) ++ call (get 0 3) ∷ times 4 (step_of 0)

-- CPU 0 begins a put of the run of 8
abbrev pub to_put : List Event
to_put = gets ++ call (put 0 0) ∷ []

-- the zone is closed before its clearing store
abbrev pub to_closed : List Event
to_closed = to_put ++ call close ∷ []

-- an open after the close: its first step, two trees, two CPUs
abbrev pub reopened : List Event
reopened = call open_first ∷ times 4 open_later

-- CPU 0 gets the other huge frames of tree 1, which is partial, and not one of tree 0, which is free
abbrev pub used_up : List Event
used_up = call (get 0 9) ∷ times 7 (step_of 0) ++ call (get 0 9) ∷ times 4 (step_of 0) ++ call (get 0 9) ∷ times 4 (step_of 0) ++ call (get 0 9) ∷ times 4 (step_of 0)

-- its next get finds its own tree short, releases it, and takes tree 0 in the near pass
abbrev pub near : List Event
near = call (get 0 9) ∷ times 6 (step_of 0)

-- it goes on, past the huge frame of the runs, to the next
abbrev pub found : List Event
found = times 4 (step_of 0)

-- ---- the events up to a place

abbrev pub to_opened : List Event
to_opened = to_closed ++ reopened

abbrev pub to_near : List Event
to_near = to_opened ++ (used_up ++ near)

-- all that follows on the open
abbrev pub later : List Event
later = used_up ++ near ++ found

abbrev pub to_end : List Event
to_end = to_opened ++ later

-- ---- what the history shows

abbrev pub four : Block
four = Block.Run Run.Four (frame 0)

abbrev pub eight : Block
eight = Block.Run Run.Eight (frame 8)

abbrev pub whole : ℕ → Block
whole i = Block.Whole (huge i)

pub record Shows (s : State) : Type 0 where
  -- the put has not made its clearing store; its block is no longer held, and not lost
  pub putting : ((history to_put s).cpus 0).latest ≡ Record.Put 0 (Giving.Clear eight)
  pub put : Stands (history to_put s) ready (four ∷ whole 32 ∷ []) []
  -- close is answered Done, and the put's block is lost
  pub closed : Stands (history to_closed s) down (four ∷ whole 32 ∷ []) (eight ∷ [])
  pub opened : Stands (history to_opened s) ready (four ∷ whole 32 ∷ []) (eight ∷ [])
  -- CPU 0's tree was tree 1; the near pass has taken tree 0, all but the 12 frames of the two runs
  pub near : ((history to_near s).cpus 0).latest ≡ Record.Get 0 (Taking.Write Order.Nine (Found.Pass (Pass.Near (tree 0) (tree 1))) 16372)
  -- nothing is under way; huge frames 32 to 36 are those of tree 1
  pub ended : Stands (history to_end s) ready (whole 1 ∷ whole 36 ∷ whole 35 ∷ whole 34 ∷ whole 33 ∷ four ∷ whole 32 ∷ []) (eight ∷ [])
  pub rests : AtRest (history to_end s)

abbrev pub Gallery : Type 0
Gallery = Exhibited size 2 to_end Shows
