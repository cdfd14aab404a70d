use Rattle.std.proofs.Common.{◌≡◌, ◌++◌, map}
use Rattle.std.specs.List.{flat_map}
use Rattle.pmg_node_model.specs.Choosing.{asking_fence}
use Rattle.pmg_node.proofs.server.Server.ask_fences.Given as goal

abbrev pub invariant-loop-name : goal.invariant-loop-name
invariant-loop-name l = l.dues.items ≡ l.fn.dues.items ++ flat_map (asking_fence l.fn.self.jobs l.fn.self.id l.fn.self.holding) (map (λ f. f.now) l.yielded)
