use Rattle.std.proofs.Common.{drop}
use Rattle.pmg_publish.proofs.Steps.{stays}
use Rattle.pmg_publish.proofs.opening.desk_of.Goals as goal

pub publish_as-writer-requires : goal.publish_as-writer-requires
publish_as-writer-requires g c next is =
    let w = c.in_ok-writer.writer in stays _ _ w.desk.shown.value next (drop w.behind w.log.items) c.in_ok-writer.ensures.1 is
