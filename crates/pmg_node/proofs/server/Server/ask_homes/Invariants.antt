use Rattle.std.proofs.Common.{◌≡◌, ◌++◌}
use Rattle.std.specs.List.{flat_map}
use Rattle.pmg_node.specs.Asking.{asking_as}
use Rattle.pmg_node.proofs.server.Server.ask_homes.Given as goal

abbrev pub invariant-loop-target : goal.invariant-loop-target
invariant-loop-target l = l.dues.items ≡ l.fn.dues.items ++ flat_map (asking_as l.fn.self.jobs l.fn.self.id l.fn.self.holding) l.yielded
