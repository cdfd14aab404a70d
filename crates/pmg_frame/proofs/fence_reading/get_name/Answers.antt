use Rattle.pmg_frame.specs.FenceReading.{read_participants}
use Rattle.pmg_frame.specs.Spelling.{procs_spelling}
use Rattle.pmg_frame.proofs.FenceLaws.{fields_if, participants, participants_if}
use Rattle.pmg_frame.proofs.fence_reading.get_name.Goals as goal

pub from_rising-signature-requires : goal.from_rising-signature-requires
from_rising-signature-requires c = participants _ ((fields_if read_participants procs_spelling participants_if c.args.at.now c.offset-start.ensures.bytes).holds _ c.get_name_fields.new.at c.in_ok-collect.ensures).are

pub from_checked-requires : goal.from_checked-requires
from_checked-requires c = ((fields_if read_participants procs_spelling participants_if c.args.at.now c.offset-start.ensures.bytes).holds _ c.get_name_fields.new.at c.in_ok-collect.ensures).are.number
