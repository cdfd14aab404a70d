use Rattle.std.proofs.Common.{◌≡◌, ◌++◌, map, is_none}
use Rattle.std.specs.List.{filter}
use Rattle.pmg_fence.specs.Tables.{header_at}
use Rattle.pmg_frame.specs.Fences.{fence_ask}
use Rattle.pmg_frame.specs.declared.frame.Frame.TheVariants as frames
use Rattle.pmg_node_model.specs.Sending.{sent}
use Rattle.pmg_node_model.specs.declared.due.ToSend.TheVariants as sendings
use Rattle.pmg_node.proofs.server.Server.ask_headers.Given as goal

abbrev pub invariant-loop-node : goal.invariant-loop-node
invariant-loop-node l =
    l.dues.items
    ≡ l.fn.dues.items
    ++ map (λ m. sendings.Whole (sent m (frames.FenceAsk (fence_ask l.fn.self.id l.fn.name))))
    (filter (λ m. is_none (header_at l.fn.self.jobs l.fn.self.id l.fn.self.holding.table l.fn.name m)) l.yielded)
