use mathlib.Core.Path.{sym}
use borrow.Author.Tests.{lt-ltb, le-ltb}
use Rattle.laws.proofs.Tests.{pick_yes, pick_no}
use Rattle.rules.proofs.Huge.tree.Goals as goal

pub returns-then-tree-lt65536 : goal.returns-then-tree-lt65536
returns-then-tree-lt65536 c = sym (pick_yes _ _ _ (lt-ltb _ _ c.if-tree-lt65536.true))

pub returns-else-tree-lt65536 : goal.returns-else-tree-lt65536
returns-else-tree-lt65536 c = sym (pick_no _ _ _ (le-ltb _ _ c.if-tree-lt65536.false))
