use Rattle.std.proofs.Common.{◌≡◌, ◌+◌, length, map, take}
use Rattle.std.specs.Vec.Iter.{into_iter_items}
use Rattle.pmg_desk.specs.Clients.{proc_of}
use Rattle.pmg_threads.proofs.running.share_out.Given as goal

-- the work so far is that of the first processes, and as many programs are left as processes
abbrev pub invariant-loop-program : goal.invariant-loop-program
invariant-loop-program g l =
    (map (λ one. proc_of one.client) l.work.items ≡ take (length l.work.items) l.procs) × (length l.work.items + length (into_iter_items l.program-iterator) ≡ length l.procs)
