use Rattle.rules.specs.Take.{take}
use Rattle.rules.specs.Lower.{give_count}
use Rattle.rules.specs.Plan.{plain}
use Rattle.child_stages.specs.Tables.{in_children}
use Rattle.lending.proofs.Lending.{made_past}
use Rattle.child_stages.proofs.Rules.{kids_same, child_fits, given_made}
use Rattle.lending.proofs.Lending.{count_same}
use Rattle.rules.specs.Blocks.{run_size}
use Rattle.child_stages.proofs.give_back.Goals as goal

pub returns-then-children_of-child : goal.returns-then-children_of-child
unfolding take in_children
returns-then-children_of-child c = made_past _ _ _ _ _ (kids_same c.args.shape c.children_of.ensures c.tree-tree.ensures) c.if-children_of-child.true

pub next_child-next-requires : goal.next_child-next-requires
next_child-next-requires c = child_fits c.args.shape _ c.children_of.ensures c.if-children_of-child.false

pub returns : goal.returns
unfolding take in_children
returns c = given_made _ _ _ _ (give_count (run_size c.args.run)) _ plain (count_same _ plain _) (rw (c.tree-tree.ensures, c.frames.ensures) at c.give_count-said.ensures) (rw c.next_child-next.ensures at c.given_answer.ensures)
