use denote.Param.Send.{sendable}
use Rattle.std.proofs.Crossing.{crosses as owners}
use Rattle.pmg_desk.proofs.Crossing.{desk_sync}
use Rattle.pmg_threads.proofs.Crossing.{receiver_send, shortage_sync, traffic_send, ways_send}
use Rattle.pmg_threads.proofs.running.fn.run_threads.scope.Goals as goal

pub spawn-requires-send-F : goal.spawn-requires-send-F
spawn-requires-send-F g c = λ κs within. search (desk_sync, ways_send, shortage_sync, owners, sendable) depth 40

pub spawn-requires-in-loop-one-send-F : goal.spawn-requires-in-loop-one-send-F
spawn-requires-in-loop-one-send-F g c = λ κs within. search (desk_sync, receiver_send, shortage_sync, owners, sendable) depth 40

pub spawn-requires-else-nudges-eq0-send-F : goal.spawn-requires-else-nudges-eq0-send-F
spawn-requires-else-nudges-eq0-send-F g c = λ κs within. search (desk_sync, traffic_send, shortage_sync, owners, sendable) depth 40
