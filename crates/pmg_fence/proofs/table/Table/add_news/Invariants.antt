use Rattle.std.proofs.Common.{◌≡◌, ◌++◌, map}
use Rattle.std.specs.List.{flat_map}
use Rattle.std.specs.Map.{keys_of}
use Rattle.pmg_fence.specs.Tables.{fence_of}
use Rattle.pmg_fence.specs.Kept.{ended_told, series_told}
use Rattle.pmg_fence.proofs.table.Table.add_news.Given as goal

abbrev pub invariant-loop-instance : goal.invariant-loop-instance
invariant-loop-instance l =
    l.news.items ++ flat_map (ended_told l.self l.line) (map (fence_of l.signature) (keys_of l.instance-iterator))
    ≡ l.fn.news.items ++ series_told l.self l.line l.signature
