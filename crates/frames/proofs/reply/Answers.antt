use Rattle.frames.proofs.Runs.{no_request, request_ran}
use Rattle.frames.proofs.reply.Goals as goal

pub returns-in_err-answer : goal.returns-in_err-answer
returns-in_err-answer c = no_request _ c.args.line c.begin.ensures c.in_err-answer.was

pub returns : goal.returns
returns c = request_ran _ c.args.line c.begin.ensures c.in_ok-answer.was c.run.ensures
