use Rattle.std.proofs.Common.{◌≡◌, drop, take}
use Rattle.std.specs.List.{list_all}
use Rattle.pmg_jobinfo.specs.Jobs.{is_node}
use Rattle.pmg_grouptext.proofs.nodes.nodes_of.Given as goal

-- the nodes so far; it is for the others to say whether all are there
abbrev pub invariant-loop-index : goal.invariant-loop-index
invariant-loop-index l = record {
  made : l.nodes.items ≡ take l.index-index l.indexes;
  left : list_all (is_node l.registry) l.indexes ≡ list_all (is_node l.registry) (drop l.index-index l.indexes);
}
