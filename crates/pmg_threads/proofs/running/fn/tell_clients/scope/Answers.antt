use denote.Param.Send.{sendable}
use denote.Param.Object.{Vt, ghosts_of}
use Rattle.std.proofs.Crossing.{crosses as owners, dyn_box_send}
use Rattle.pmg_desk.proofs.Crossing.{client_send}
use Rattle.pmg_threads.proofs.Crossing.{desks_send, ended_send, procs_send}
use Rattle.pmg_threads.specs.contracts.running.fn.tell_clients.scope.dyn-1.{slots}
use Rattle.pmg_threads.proofs.running.fn.tell_clients.scope.Goals as goal

pub spawn-started-requires-send-F : goal.spawn-started-requires-send-F
spawn-started-requires-send-F g c = λ κs within. let S = slots g.row.R in let D = Vt S g.dyn-1.0 in
    search (dyn_box_send D (ghosts_of S g.dyn-1.0 g.dyn-1.1) g.dyn-1.2, client_send, desks_send, procs_send, owners, sendable) depth 60 fits 20000

pub spawn-started-requires-send-T : goal.spawn-started-requires-send-T
spawn-started-requires-send-T g c = λ κs within. search (ended_send, owners, sendable) depth 60 fits 20000
