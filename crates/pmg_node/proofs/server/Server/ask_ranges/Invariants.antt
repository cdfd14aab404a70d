use Rattle.std.proofs.Common.{◌≡◌, ◌++◌, ◌&&◌, not, map, take}
use Rattle.std.specs.Prelude.{◌==◌}
use Rattle.std.specs.List.{filter}
use Rattle.pmg_commit.specs.Data.{level_at}
use Rattle.pmg_fence.specs.Tables.{told_of}
use Rattle.pmg_frame.specs.Fences.{commit_ask}
use Rattle.pmg_frame.specs.declared.frame.Frame.TheVariants as frames
use Rattle.pmg_jobinfo.specs.Jobs.{home_of}
use Rattle.pmg_node_model.specs.Choosing.{is_behind}
use Rattle.pmg_node_model.specs.Sending.{sent}
use Rattle.pmg_node_model.specs.declared.due.ToSend.TheVariants as sendings
use Rattle.pmg_node.proofs.server.Server.ask_ranges.Given as goal

abbrev pub invariant-loop-proc : goal.invariant-loop-proc
invariant-loop-proc l =
    l.dues.items
    ≡ l.fn.dues.items
    ++ map (λ q. sendings.Whole (sent (home_of l.fn.self.jobs q) (frames.RangeAsk (commit_ask l.fn.self.id q (level_at l.fn.self.holding.far q)))))
    (filter (λ q. not (home_of l.fn.self.jobs q == l.fn.self.id) && is_behind (level_at l.fn.self.holding.far q) (told_of l.fn.self.jobs l.fn.self.id l.fn.self.holding.table l.fn.name q))
    (take l.proc-index l.proc-items))
