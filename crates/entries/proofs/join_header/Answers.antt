use mathlib.Core.Path.{ap, ◌∙◌}
use native.Mathlib.Omega.{arith}
use Rattle.rules.specs.Entries.{header_word}
use Rattle.entries.proofs.Headers.{header_join}
use Rattle.entries.proofs.join_header.Goals as goal

pub returns : goal.returns
returns c = header_join c.args.marker c.huge_frames.result c.requires (omega arith) ∙ ap (header_word c.args.marker) c.huge_frames.ensures
