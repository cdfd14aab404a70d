use denote.Param.Send.{sendable}
use Rattle.std.proofs.Crossing.{crosses as owners}
use Rattle.pmg_desk.proofs.Crossing.{client_send}
use Rattle.pmg_desk_tests.proofs.waiting.fn.get_while_put.scope.Goals as goal

pub spawn-requires-send-F : goal.spawn-requires-send-F
spawn-requires-send-F g c = λ κs within. search (client_send, owners, sendable) depth 40
