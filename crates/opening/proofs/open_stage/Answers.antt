use Rattle.opening.proofs.Stages.{children_ready, trees_ready, cpus_ready, children_aside, trees_aside, cpus_aside}
use Rattle.opening.proofs.open_stage.Goals as goal

pub recount-requires : goal.recount-requires
recount-requires c = children_ready c.requires.0 _ c.requires.1 c.in-Children.is

pub add_up-requires : goal.add_up-requires
add_up-requires c = trees_ready c.requires.0 _ c.requires.1 c.in-Trees.is

pub forget-requires : goal.forget-requires
forget-requires c = cpus_ready c.requires.0 _ c.requires.1 c.in-Cpus.is

pub returns-in-Children : goal.returns-in-Children
returns-in-Children c = children_aside _ _ _ _ _ c.in-Children.is c.recount.ensures

pub returns-in-Trees : goal.returns-in-Trees
returns-in-Trees c = trees_aside _ _ _ _ _ c.in-Trees.is c.add_up.ensures

pub returns-in-Cpus : goal.returns-in-Cpus
returns-in-Cpus c = cpus_aside _ _ _ _ _ c.in-Cpus.is c.forget.ensures
