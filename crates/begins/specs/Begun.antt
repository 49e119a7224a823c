-- What the numbers of a beginning come to: its refusal, which ends, or what its first stage needs.
use Rattle.std.specs.Prelude.{◌≡◌, ℕ, ◌≤◌, Result, Ok, Err}
use Rattle.rules.specs.Zone.{Zone}
use Rattle.rules.specs.Answers.{number}
use Rattle.rules.specs.Begin.{begin_get, begin_put}
use Rattle.calls.specs.Results.{result_of, done, Opened}
use Rattle.begins.specs.Types.{Frame, Taking, Giving, Record, Answer, Getting, Putting}

abbrev pub GetsBy : Zone → ℕ → ℕ → Result Getting Answer → Type 0
GetsBy z cpu o (Err a) = (2 ≤ number a) × (result_of a z ≡ done z (begin_get z cpu o))
GetsBy z cpu o (Ok g) = Opened g.shape g.cpu z.header z.words z.children z.trees z.cpus × (result_of (Answer.UnderWay (Record.Get g.cpu (Taking.Own g.order))) z ≡ done z (begin_get z cpu o))

pub record Gets (z : Zone) (cpu o : ℕ) (x : Result Getting Answer) : Type 0 where
  pub come : GetsBy z cpu o x

abbrev pub PutsBy : Zone → ℕ → Frame → ℕ → Result Putting Answer → Type 0
PutsBy z cpu f o (Err a) = (2 ≤ number a) × (result_of a z ≡ done z (begin_put z cpu f o))
PutsBy z cpu f o (Ok p) = Opened p.shape p.cpu z.header z.words z.children z.trees z.cpus × (result_of (Answer.UnderWay (Record.Put p.cpu (Giving.Clear p.block))) z ≡ done z (begin_put z cpu f o))

pub record Puts (z : Zone) (cpu : ℕ) (f : Frame) (o : ℕ) (x : Result Putting Answer) : Type 0 where
  pub come : PutsBy z cpu f o x
