use Rattle.rules.specs.Take.{search_child, take}
use Rattle.rules.specs.Lower.{claim}
use Rattle.rules.specs.Plan.{plain}
use Rattle.child_stages.specs.Tables.{in_children}
use Rattle.lending.proofs.Lending.{made_past}
use Rattle.child_stages.proofs.Rules.{kids_same, child_fits, claim_same, claimed_made}
use Rattle.rules.specs.Blocks.{run_size}
use Rattle.child_stages.proofs.child_run.Goals as goal

pub returns-then-children_of-child : goal.returns-then-children_of-child
unfolding take in_children
returns-then-children_of-child c = made_past _ _ _ _ _ (kids_same c.args.shape c.children_of.ensures c.tree-tree.ensures) c.if-children_of-child.true

pub next_child-passed-requires : goal.next_child-passed-requires
next_child-passed-requires c = child_fits c.args.shape _ c.children_of.ensures c.if-children_of-child.false

pub returns : goal.returns
unfolding take in_children search_child
returns c = claimed_made _ _ _ _ (claim (run_size c.args.run)) _ _ plain (claim_same _ _ plain _) (rw (c.tree-tree.ensures, c.frames.ensures) at c.claim-said.ensures) (rw (c.get.ensures, c.next_child-passed.ensures) at c.claimed_answer.ensures)
