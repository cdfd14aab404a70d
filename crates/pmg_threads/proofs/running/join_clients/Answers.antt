use Rattle.std.proofs.Common.{◌≡◌, ◌+◌, ◌<◌, length, take, rules, arith}
use Rattle.std.specs.Vec.Iter.{into_iter_items}
use Rattle.pmg_threads.proofs.RunLemmas.{tell_next}
use Rattle.pmg_threads.proofs.running.join_clients.Goals as goal

pub loop-thread-preserved : goal.loop-thread-preserved
loop-thread-preserved g c =
    let was = c.loop-thread.invariant in
    let k = length c.loop-thread.reported.reports.items in
    let ps = c.args.procs.now in
    let left : length (into_iter_items c.loop-thread.thread-iterator) ≡ length (into_iter_items c.next.new.self) + 1 = search rules in
    let less : k < length ps = omega (arith, was.1, left) in
    let told = tell_next ps k _ c.push.new.self.reports.items c.push.new.self.transcripts.items less (search rules) (c.in_ok-push.ensures (take k ps) was.0) in
    (told.0, omega (arith, told.1, was.1, left))
