use Rattle.rules.specs.Open.{close_zone}
use Rattle.calls.specs.Results.{zone}
use Rattle.capi.proofs.Calls.{made_alone_lem}
use Rattle.capi.proofs.lovarntek_close.Goals as goal

pub returns : goal.returns
returns c = made_alone_lem _ (close_zone (zone _ _ _ _ _)) c.close.ensures c.from.ensures
