use Rattle.pmg_frame.specs.RunReading.{read_runs}
use Rattle.pmg_frame.specs.RunSpelling.{runs_spelling}
use Rattle.pmg_frame.proofs.FenceLaws.{fields_if, participants}
use Rattle.pmg_frame.proofs.RunLaws.{runs_if}
use Rattle.pmg_frame.proofs.run_reading.get_short_name.Goals as goal

pub from_rising-signature-requires : goal.from_rising-signature-requires
from_rising-signature-requires c = participants _ ((fields_if read_runs runs_spelling runs_if c.args.at.now c.offset-start.ensures.bytes).holds _ c.get_short_fields.new.at c.in_ok-collect.ensures).are

pub from_checked-requires : goal.from_checked-requires
from_checked-requires c = ((fields_if read_runs runs_spelling runs_if c.args.at.now c.offset-start.ensures.bytes).holds _ c.get_short_fields.new.at c.in_ok-collect.ensures).are.number
