use Rattle.creating.proofs.Stages.{words_ready, children_ready, trees_ready, cpus_ready, words_aside, children_aside, trees_aside, cpus_aside, header_aside}
use Rattle.creating.proofs.create_stage.Goals as goal

pub fresh_word-requires : goal.fresh_word-requires
fresh_word-requires c = words_ready c.requires.1 _ c.requires.2 c.in-Words.is

pub fresh_child-requires : goal.fresh_child-requires
fresh_child-requires c = children_ready c.requires.1 _ c.requires.2 c.in-Children.is

pub fresh_tree-requires : goal.fresh_tree-requires
fresh_tree-requires c = trees_ready c.requires.1 _ c.requires.2 c.in-Trees.is

pub fresh_cpu-requires : goal.fresh_cpu-requires
fresh_cpu-requires c = cpus_ready c.requires.1 _ c.requires.2 c.in-Cpus.is

pub returns-in-Words : goal.returns-in-Words
returns-in-Words c = words_aside _ _ _ _ _ _ c.in-Words.is c.fresh_word.ensures

pub returns-in-Children : goal.returns-in-Children
returns-in-Children c = children_aside _ _ _ _ _ _ c.in-Children.is c.fresh_child.ensures

pub returns-in-Trees : goal.returns-in-Trees
returns-in-Trees c = trees_aside _ _ _ _ _ _ c.in-Trees.is c.fresh_tree.ensures

pub returns-in-Cpus : goal.returns-in-Cpus
returns-in-Cpus c = cpus_aside _ _ _ _ _ _ c.in-Cpus.is c.fresh_cpu.ensures

pub returns-in-Header : goal.returns-in-Header
returns-in-Header c = header_aside _ _ _ _ _ _ c.in-Header.is c.born.ensures
