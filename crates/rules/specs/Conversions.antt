-- Frame, huge-frame and tree numbers count different things: the conversions between them.
use Rattle.std.specs.Prelude.{ℕ, ◌*◌, ◌/◌, ◌%◌, ◌^◌, ltb, Option, Some, None}
use Rattle.laws.specs.Tests.{pick}
use Rattle.rules.specs.Numbers.{child_frames, Format}
use Rattle.rules.specs.Types.{Frame, Huge, Tree}

abbrev pub frame : ℕ → Frame
frame i = record { 0 = i }

abbrev pub huge : ℕ → Huge
huge i = record { 0 = i }

abbrev pub tree : ℕ → Tree
tree i = record { 0 = i }

-- the huge frame of a frame, and a huge frame's first frame
abbrev pub huge_of : Frame → Huge
huge_of f = huge (f.0 / child_frames)

abbrev pub first_frame : Huge → Frame
first_frame h = frame (h.0 * child_frames)

-- the tree of a huge frame, its number among the tree's children, and a tree's first huge frame
abbrev pub tree_of : Format → Huge → Tree
tree_of m h = tree (h.0 / m.children)

abbrev pub child_of : Format → Huge → ℕ
child_of m h = h.0 % m.children

abbrev pub first_huge : Format → Tree → Huge
first_huge m t = huge (t.0 * m.children)

-- as the types hold them: a huge-frame number has 32 bits, a tree number 16
abbrev pub huge_at : Frame → Option Huge
huge_at f = pick (ltb (huge_of f).0 (2 ^ 32)) (Some (huge_of f)) None

abbrev pub tree_at : Format → Huge → Option Tree
tree_at m h = pick (ltb (tree_of m h).0 (2 ^ 16)) (Some (tree_of m h)) None
