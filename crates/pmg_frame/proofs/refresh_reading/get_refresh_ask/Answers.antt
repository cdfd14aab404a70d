use Rattle.pmg_frame.proofs.RefreshLaws.{ask_read_passes}
use Rattle.pmg_frame.proofs.refresh_reading.get_refresh_ask.Goals as goal

pub from_checked-ask-requires : goal.from_checked-ask-requires
from_checked-ask-requires c =
    ask_read_passes c.args.node c.args.at.now c.get_proc.new.at c.get_level.new.at c.in_ok-proc.proc c.in_ok-level.level c.offset-start.ensures.bytes
    c.in_ok-proc.ensures.first_fault c.in_ok-level.ensures
