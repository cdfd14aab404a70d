use denote.Param.Send.{sendable}
use Rattle.std.proofs.Crossing.{crosses as owners}
use Rattle.pmg_desk.proofs.Crossing.{desk_sync}
use Rattle.pmg_desk_tests.proofs.refreshing.fn.find_while_handed.scope.Goals as goal

pub spawn-requires-send-F : goal.spawn-requires-send-F
spawn-requires-send-F g c = λ κs within. search (desk_sync, owners, sendable) depth 40
