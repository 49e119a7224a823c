-- A line as a request, and the tables after it.
use Rattle.std.specs.Prelude.{ℕ, Option, Some, None}
use Rattle.rules.specs.Conversions.{frame}
use Rattle.rules.specs.Zone.{Zone}
use Rattle.rules.specs.Begin.{begin_get, begin_put}
use Rattle.rules.specs.Step.{step, follow}
use Rattle.requests.specs.declared.Line.{Line}
use Rattle.rules.specs.declared.Answer.{Answer}

-- more steps than any operation takes on 256 huge frames and 8 CPUs
abbrev pub fuel : ℕ
fuel = 1000000

abbrev pub begun_by : Zone → Line → Option Answer
begun_by z (Line.Zone h c) = None
begun_by z (Line.Get cpu o) = Some (begin_get z cpu o).answer
begun_by z (Line.Put cpu f o) = Some (begin_put z cpu (frame f) o).answer

-- the tables after a request that is run to its end; after a line that is none, as they were
abbrev pub ran_by : Zone → Option Answer → Zone
ran_by z None = z
ran_by z (Some a) = (follow step fuel 0 a z).zone

abbrev pub replied : Zone → Line → Zone
replied z l = ran_by z (begun_by z l)
