use Rattle.pmg_frame.specs.Fences.{header}
use Rattle.pmg_frame.proofs.HeaderLaws.{header_passes}
use Rattle.pmg_frame.proofs.LocalRunLaws.{short_header_if}
use Rattle.pmg_frame.proofs.local_run_reading.get_short_header.Goals as goal

pub from_checked-requires : goal.from_checked-requires
from_checked-requires c =
    let x = c.in_ok-node in
    let h = header x.node x.name x.locals.items in
    header_passes h ((short_header_if c.args.at.now c.offset-start.ensures.bytes).holds h c.get_short_fields.new.at x.ensures).is
