use Rattle.std.proofs.Common.{◌≡◌, ◌++◌, ◌==◌, drop}
use Rattle.std.specs.List.{filter}
use Rattle.pmg_jobinfo.specs.Jobs.{home_of}
use Rattle.pmg_fence.proofs.table.news.own_participants.Given as goal

abbrev pub invariant-loop-proc : goal.invariant-loop-proc
invariant-loop-proc l = filter (λ p. home_of l.registry p == l.node) l.proc-items ≡ l.own.items ++ filter (λ p. home_of l.registry p == l.node) (drop l.proc-index l.proc-items)
