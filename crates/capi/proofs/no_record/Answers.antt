use mathlib.Core.Path.{ap, ◌∙◌}
use Rattle.std.specs.Prelude.{Ok}
use Rattle.capi.proofs.Calls.{no_record_lem}
use Rattle.capi.proofs.no_record.Goals as goal

pub returns-in-Err : goal.returns-in-Err
returns-in-Err c = no_record_lem _ _ c.zone_says.ensures c.in-Err.is

pub returns-in-Ok-Clean : goal.returns-in-Ok-Clean
returns-in-Ok-Clean c = no_record_lem _ _ c.zone_says.ensures (c.in-Ok-Clean.is ∙ ap Ok c.in-Ok-Clean.field-0-is)

pub returns-in-Ok-Running : goal.returns-in-Ok-Running
returns-in-Ok-Running c = no_record_lem _ _ c.zone_says.ensures (c.in-Ok-Running.is ∙ ap Ok c.in-Ok-Running.field-0-is)
