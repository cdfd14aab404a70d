use Rattle.std.proofs.Common.{◌≡◌, drop}
use Rattle.std.specs.List.{list_all}
use Rattle.pmg_jobinfo.specs.Jobs.{is_node}
use Rattle.pmg_jobinfo.proofs.registry.Registry.are_nodes.Given as goal

abbrev pub invariant-loop-home : goal.invariant-loop-home
invariant-loop-home l = list_all (is_node l.self) l.homes ≡ list_all (is_node l.self) (drop l.home-index l.homes)
