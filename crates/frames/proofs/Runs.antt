-- An operation begun: it goes on from its record, or it has ended without a step. The tables after a line.
use mathlib.Core.Path.{◌≡◌, sym, ap, subst, ◌∙◌}
use Prim.Native.Nat.{ℕ}
use Rattle.std.specs.Prelude.{Option, Some, None}
use Rattle.rules.specs.Zone.{Zone}
use Rattle.rules.specs.Plan.{Plan}
use Rattle.rules.specs.Step.{Ran, ran, step, follow}
use Rattle.rules.specs.declared.Record.{Record}
use Rattle.rules.specs.declared.Answer.{Answer}
use Rattle.calls.specs.declared.Ended.{Ended}
use Rattle.calls.specs.Results.{Result, result_of, ran_to, next_in}
use Rattle.calls.proofs.Runs.{NextTells, next_tells, follow_ended}
use Rattle.requests.specs.declared.Line.{Line}
use Rattle.frames.specs.Requests.{fuel, begun_by, ran_by, replied}

-- an answer a with the tables z, as a call is said to leave them; m is what goes on
module _ (f : Zone → Record → Plan) (n : ℕ) {a a' : Answer} {z z' : Zone} {m : Option Record} (b : result_of a z ≡ result_of a' z') (e : m ≡ next_in a) where
  begun : follow f n 0 a z ≡ follow f n 0 a' z'
  begun = ap (λ (o : Result). follow f n 0 o.answer o.zone) b

  pub goes_on_lem : {r : Record} {x : Ran} → m ≡ Some r → x ≡ follow f n 0 (Answer.UnderWay r) z → x ≡ follow f n 0 a' z'
  goes_on_lem q h = h ∙ ap (λ y. follow f n 0 y z) (sym (subst (NextTells a) (sym e ∙ q) (next_tells a))) ∙ begun

  pub ends_at_once : m ≡ None → ran a 0 z ≡ follow f n 0 a' z'
  ends_at_once q = sym (follow_ended f n 0 a z (subst (NextTells a) (sym e ∙ q) (next_tells a))) ∙ begun

-- the tables after a line: it is no request, or it was run to its end
module _ (z : Zone) (l : Line) {b : Option Answer} (e : b ≡ begun_by z l) where
  pub no_request : b ≡ None → z ≡ replied z l
  no_request q = ap (ran_by z) (sym q ∙ e)

  pub request_ran : {a : Answer} {r : Ended} {z' : Zone} → b ≡ Some a → ran_to r z' ≡ follow step fuel 0 a z → z' ≡ replied z l
  request_ran q h = ap (λ (x : Ran). x.zone) h ∙ ap (ran_by z) (sym q ∙ e)
