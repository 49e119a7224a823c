-- Document 01's sample words, its session worked by hand, and its class edges: one proved table.
use Rattle.std.specs.Prelude.{◌≡◌, List, [], ◌∷◌, ◌++◌, ℕ, ◌-◌, ◌^◌, ◌<◌, length, get_or, drop, replicate}
use Rattle.rules.specs.Numbers.{child_words, word_bits, Shape, format1}
use Rattle.rules.specs.Conversions.{frame, tree}
use Rattle.rules.specs.Answers.{number, frame_of}
use Rattle.rules.specs.Entries.{header_word, running, clean, tree_word, cpu_word}
use Rattle.rules.specs.Lower.{count_word, flagged_word, fresh_child}
use Rattle.rules.specs.Zone.{Zone, shaped, shape_of}
use Rattle.rules.specs.Places.{class_of, allocated, partial, free}
use Rattle.rules.specs.Begin.{begin_get, begin_put}
use Rattle.rules.specs.Create.{create_steps}
use Rattle.rules.specs.Fresh.{fresh, Fitting, creates}
use Rattle.rules.specs.Step.{step, Ran, follow, most_get}
use Rattle.rules.specs.Types.{CpuEntry, Answer}

-- ---- requests, run one after another, and what is printed of each
pub data Request : Type 0 where
  g : (cpu order : ℕ) → Request
  p : (cpu frame order : ℕ) → Request

pub record Line : Type 0 where
  pub answer : ℕ
  pub frame : ℕ
  pub steps : ℕ

abbrev pub line : ℕ → ℕ → ℕ → Line
line a f s = record { answer = a; frame = f; steps = s }

abbrev pub begun : Zone → Request → Answer
begun z (g cpu o) = (begin_get z cpu o).answer
begun z (p cpu f o) = (begin_put z cpu (frame f) o).answer

pub record Session : Type 0 where
  pub lines : List Line
  pub zone : Zone

unfoldable pub session : List Request → Zone → Session
session [] z = record { lines = []; zone = z }
session (q ∷ l) z =
    let e : Ran = follow step (most_get (shape_of z)) 0 (begun z q) z in
    let s : Session = session l e.zone in
    record { lines = line (number e.answer) (frame_of e.answer) e.steps ∷ s.lines; zone = s.zone }

pub record Words : Type 0 where
  pub running65 : header_word running 65 ≡ 0x4C46140082000000
  pub clean65 : header_word clean 65 ≡ 0x4C46180082000000
  pub running65536 : header_word running 65536 ≡ 0x4C46160000000000
  pub entry : cpu_word format1 (CpuEntry.Holds (tree 1) 0 16383) ≡ 0x80103FFF00000000
  -- a child with a set, a fresh child, the tree of the worked session
  pub flagged_child : flagged_word ≡ 0x8000
  pub fresh512 : fresh_child ≡ 0x0200
  pub tree0 : tree_word 1 1 ≡ 0x8001

pub record Table (z : Zone) : Type 0 where
  pub lines : (session (g 0 0 ∷ g 1 0 ∷ g 0 9 ∷ p 1 0 0 ∷ p 1 0 0 ∷ g 2 0 ∷ p 0 33280 0 ∷ p 0 1 9 ∷ []) z).lines
      ≡ line 0 0 9 ∷ line 0 16384 10 ∷ line 0 512 4 ∷ line 0 0 4 ∷ line 6 0 1 ∷ line 7 0 0 ∷ line 4 0 0 ∷ line 5 0 0 ∷ []
  pub tree0 : get_or (session (g 0 0 ∷ g 1 0 ∷ g 0 9 ∷ p 1 0 0 ∷ []) z).zone.trees 0 0 ≡ 0x8001
  pub below : class_of 2047 ≡ allocated
  pub low : class_of 2048 ≡ partial
  pub high : class_of 14336 ≡ partial
  pub above : class_of 14337 ≡ free

-- one huge frame and one CPU: fresh, and with every frame taken and the tree held by the CPU
abbrev pub small : Shape
small = record { format = format1; huge = 1; cpus = 1 }

unfoldable pub full : Zone
full = record {
  header = header_word running 1 ∷ [];
  words = replicate child_words (2 ^ word_bits - 1);
  children = count_word 0 ∷ [];
  trees = tree_word 1 0 ∷ [];
  cpus = cpu_word format1 (CpuEntry.Holds (tree 0) 0 0) ∷ [];
}

-- zones that have room where a rule that looks less answers 2
abbrev pub of : ℕ → ℕ → Zone
of n c = fresh (record { format = format1; huge = n; cpus = c })

pub record Rooms : Type 0 where
  -- the only tree is in the class allocated from the start: the any pass finds it
  pub any : (session (g 0 0 ∷ []) (of 1 1)).lines ≡ line 0 0 8 ∷ []
  -- CPU 0's entry holds the only tree, and its count
  pub steal : (session (g 0 0 ∷ g 1 0 ∷ []) (of 1 2)).lines ≡ line 0 0 8 ∷ line 0 1 10 ∷ []
  -- CPU 0's entry holds the only tree and counts 0; the put of CPU 1 went to the tree
  pub steal_count : (session (g 0 9 ∷ p 1 0 9 ∷ g 1 0 ∷ []) (of 1 2)).lines ≡ line 0 0 7 ∷ line 0 0 3 ∷ line 0 0 10 ∷ []
  -- a get that found nothing released the only tree
  pub release : (session (g 0 9 ∷ g 0 9 ∷ p 0 0 9 ∷ g 0 9 ∷ []) (of 1 1)).lines ≡ line 0 0 7 ∷ line 2 0 9 ∷ line 0 0 3 ∷ line 0 0 7 ∷ []
  -- the start child is taken, the last one is free
  pub child : (session (g 0 9 ∷ g 0 9 ∷ []) (of 2 1)).lines ≡ line 0 0 7 ∷ line 0 512 4 ∷ []
  -- the last tree is the only one with a free frame
  pub tree : drop 32 (session (replicate 33 (g 0 9)) (of 33 1)).lines ≡ line 0 16384 15 ∷ []

-- ---- r stays where a hand that was no reservation is taken or returned

-- two trees; all frames are taken but 511 of the last tree, which CPU 0's entry holds. CPU 0 begins a get of order 9 and takes the tree's count into hand; CPU 1 takes the entry away, gets a frame and puts a huge frame of tree 0;
-- CPU 0 returns its hand, and gets that huge frame
unfoldable pub robbed : Ran
robbed =
    let z : Zone = (session (replicate 33 (g 0 9) ++ (p 0 16384 9 ∷ g 0 0 ∷ [])) (of 33 2)).zone in
    let r : Ran = follow step 2 0 (begin_get z 0 9).answer z in
    follow step 100 2 r.answer (session (g 1 0 ∷ p 1 0 9 ∷ []) r.zone).zone

pub record Reservations : Type 0 where
  -- the only tree stays reserved while an entry holds it: after a refill, and after a steal
  pub take_count : (session (g 0 9 ∷ p 1 0 9 ∷ g 0 0 ∷ []) (of 1 2)).zone.trees ≡ 0x8000 ∷ []
  pub steal_count : (session (g 0 0 ∷ g 1 0 ∷ []) (of 1 2)).zone.trees ≡ 0x8000 ∷ []
  -- the returned hand leaves the last tree to CPU 1's entry
  pub return_hand : robbed.zone.trees ≡ 0x8000 ∷ 0x8000 ∷ []
  pub answered : line (number robbed.answer) (frame_of robbed.answer) robbed.steps ≡ line 0 0 14

pub record Worked : Type 0 where
  pub reservations : Reservations
  -- rule 6 moves the start child: the third search begins at child 1
  pub start_child : (session (g 0 9 ∷ g 0 9 ∷ g 0 9 ∷ []) (of 3 1)).lines ≡ line 0 0 7 ∷ line 0 512 4 ∷ line 0 1024 4 ∷ []
  -- from 1 up the frame is 0
  pub no_frame : (a : Answer) → 0 < number a → frame_of a ≡ 0
  pub words : Words
  pub rooms : Rooms
  -- from the zone that create reaches for 65 huge frames and two CPUs, from tables that held anything
  pub table : (z : Zone) → Fitting 65 z → length z.cpus ≡ 2 → Table (creates 65 z (create_steps (shaped 65 z))).zone
  -- No room in 9 steps
  pub no_room : (session (g 0 0 ∷ []) full).lines ≡ line 2 0 9 ∷ []
  -- order 9 over one taken frame
  pub taken : (session (g 0 0 ∷ g 0 9 ∷ []) (fresh small)).lines ≡ line 0 0 8 ∷ line 2 0 9 ∷ []
