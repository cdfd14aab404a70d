use Rattle.pmg_frame.specs.Fences.{commit_ask}
use Rattle.pmg_frame.proofs.HeaderLaws.{commit_ask_if, ask_passes}
use Rattle.pmg_frame.proofs.fence_reading.get_commit_ask.Goals as goal

pub from_checked-requires : goal.from_checked-requires
from_checked-requires c =
    let x = c.in_ok-node in
    let a = commit_ask x.node x.proc x.level in
    ask_passes a ((commit_ask_if c.args.at.now c.offset-start.ensures.bytes).holds a c.get_ask_fields.new.at x.ensures).is
