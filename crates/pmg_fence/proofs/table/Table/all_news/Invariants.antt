use Rattle.std.proofs.Common.{◌≡◌, ◌++◌}
use Rattle.std.specs.List.{flat_map}
use Rattle.pmg_fence.specs.Tables.{names_of}
use Rattle.pmg_fence.specs.Kept.{ended_told, series_told}
use Rattle.pmg_fence.proofs.table.Table.all_news.Given as goal

abbrev pub invariant-loop-signature : goal.invariant-loop-signature
invariant-loop-signature l =
    l.news.items ++ flat_map (series_told l.self l.line) l.signature-iterator ≡ flat_map (ended_told l.self l.line) (names_of l.self.fences)
