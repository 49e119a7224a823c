use Rattle.capi.proofs.Calls.{back_next, back_last}
use Rattle.capi.proofs.hand_back.Goals as goal

pub returns-in-Some : goal.returns-in-Some
returns-in-Some c = back_next c.args.answer _ c.next_of.ensures c.in-Some.is c.lay.ensures

pub returns-in-None : goal.returns-in-None
returns-in-None c = back_last c.args.answer _ c.next_of.ensures c.in-None.is c.lay_finished.ensures
