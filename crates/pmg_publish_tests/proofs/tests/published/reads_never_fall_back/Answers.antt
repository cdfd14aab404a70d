use denote.Param.Send.{sendable}
use Rattle.pmg_publish.proofs.Crossing.{publisher_send}
use Rattle.std.proofs.Crossing.{crosses as owners}
use Rattle.pmg_publish_tests.proofs.tests.published.reads_never_fall_back.Goals as goal

pub join-published-requires-send-F : goal.join-published-requires-send-F
join-published-requires-send-F g c κs within = search (publisher_send, sendable, owners) depth 40
