-- The numbers an answer may carry: document 01's number, frame and record for each case.
use Rattle.std.specs.Prelude.{ℕ}
use Rattle.rules.specs.Types.{Record, Fault, Answer}

abbrev pub number : Answer → ℕ
number (Answer.Done f) = 0
number (Answer.UnderWay r) = 1
number Answer.NoRoom = 2
number Answer.BadOrder = 3
number Answer.BadFrame = 4
number Answer.Misaligned = 5
number Answer.NotTaken = 6
number Answer.BadCpu = 7
number Answer.BadBuffers = 8
number Answer.NotAZone = 9
number Answer.Closed = 10
number Answer.BadRecord = 11
number Answer.Damaged = 12
number Answer.NotSettled = 13
number Answer.BadSize = 14

-- the value of an answer's frame or record, or else the other value
abbrev pub by_answer {ℓ} : {A : Type ℓ} → Answer → (ℕ → A) → (Record → A) → A → A
by_answer (Answer.Done f) d u e = d f.0
by_answer (Answer.UnderWay r) d u e = u r
by_answer Answer.NoRoom d u e = e
by_answer Answer.BadOrder d u e = e
by_answer Answer.BadFrame d u e = e
by_answer Answer.Misaligned d u e = e
by_answer Answer.NotTaken d u e = e
by_answer Answer.BadCpu d u e = e
by_answer Answer.BadBuffers d u e = e
by_answer Answer.NotAZone d u e = e
by_answer Answer.Closed d u e = e
by_answer Answer.BadRecord d u e = e
by_answer Answer.Damaged d u e = e
by_answer Answer.NotSettled d u e = e
by_answer Answer.BadSize d u e = e

-- from 1 up the frame is 0
abbrev pub frame_of : Answer → ℕ
frame_of a = by_answer a (λ f. f) (λ r. 0) 0

-- whether an operation ends with an answer, or goes on with a record
pub data Next : Type 0 where
  ends : Next
  goes_on : (r : Record) → Next

abbrev pub next_of : Answer → Next
next_of a = by_answer a (λ f. ends) goes_on ends

abbrev pub by_next {ℓ} : {A : Type ℓ} → Next → A → (Record → A) → A
by_next ends e f = e
by_next (goes_on r) e f = f r

-- all answers but 1 hand back the finished record
abbrev pub record_of : Answer → Record
record_of a = by_next (next_of a) Record.Finished (λ r. r)

-- the answer to a fault: a malformed entry 12, bits that are not all set 6; what the table has not makes the record one of another zone, 11
abbrev pub answer_of : Fault → Answer
answer_of Fault.Damaged = Answer.Damaged
answer_of Fault.NotTaken = Answer.NotTaken
answer_of Fault.NoEntry = Answer.BadRecord
answer_of Fault.NoChild = Answer.BadRecord
answer_of Fault.NoWord = Answer.BadRecord
answer_of Fault.NoBit = Answer.BadRecord
answer_of Fault.NoField = Answer.BadRecord
answer_of Fault.TooMany = Answer.BadRecord
