use Rattle.std.proofs.Common.{◌≡◌, ◌++◌, drop}
use Rattle.std.specs.List.{filter}
use Rattle.std.specs.Option.{option_map}
use Rattle.pmg_fence.specs.Tables.{says_gone}
use Rattle.pmg_fence.specs.Kept.{standing_in, known_fence}
use Rattle.pmg_fence.proofs.table.Table.release.Given as goal

abbrev pub invariant-loop-proc : goal.invariant-loop-proc
invariant-loop-proc l =
    filter (λ q. says_gone (standing_in l.self (known_fence (option_map (λ f. f.now) l.fence)) l.whole q)) l.proc-items
    ≡ l.gone.items ++ filter (λ q. says_gone (standing_in l.self (known_fence (option_map (λ f. f.now) l.fence)) l.whole q)) (drop l.proc-index l.proc-items)
