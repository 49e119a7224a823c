use mathlib.Core.Path.{sym}
use borrow.Author.Tests.{lt-ltb, le-ltb}
use Rattle.laws.proofs.Tests.{pick_yes, pick_no}
use Rattle.rules.proofs.Frame.huge.Goals as goal

pub returns-then-huge-lt4294967296 : goal.returns-then-huge-lt4294967296
returns-then-huge-lt4294967296 c = sym (pick_yes _ _ _ (lt-ltb _ _ c.if-huge-lt4294967296.true))

pub returns-else-huge-lt4294967296 : goal.returns-else-huge-lt4294967296
returns-else-huge-lt4294967296 c = sym (pick_no _ _ _ (le-ltb _ _ c.if-huge-lt4294967296.false))
