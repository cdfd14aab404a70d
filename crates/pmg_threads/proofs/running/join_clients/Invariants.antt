use Rattle.std.proofs.Common.{◌≡◌, ◌+◌, length, take}
use Rattle.std.specs.Vec.Iter.{into_iter_items}
use Rattle.pmg_threads.specs.Running.{TellAll}
use Rattle.pmg_threads.proofs.running.join_clients.Given as goal

-- the first processes have told all, and as many threads are left as processes
abbrev pub invariant-loop-thread : goal.invariant-loop-thread
invariant-loop-thread g l =
    TellAll (take (length l.reported.reports.items) l.procs) l.reported.reports.items l.reported.transcripts.items × (length l.reported.reports.items + length (into_iter_items l.thread-iterator) ≡ length l.procs)
