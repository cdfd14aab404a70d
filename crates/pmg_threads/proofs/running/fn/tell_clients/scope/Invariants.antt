use Rattle.std.proofs.Common.{◌≡◌, ◌+◌, length, vec_len}
use Rattle.std.specs.Vec.Iter.{into_iter_items}
use Rattle.pmg_threads.proofs.running.fn.tell_clients.scope.Given as goal

-- there are as many threads and clients that have none as processes
abbrev pub invariant-loop-one : goal.invariant-loop-one
invariant-loop-one g l =
    (goal.iterator-loop-one g).can_next l.one-iterator ×
    (goal.iterator-loop-one g).is_finite l.one-iterator ×
    (vec_len l.threads + length (into_iter_items l.one-iterator) ≡ length l.procs)
