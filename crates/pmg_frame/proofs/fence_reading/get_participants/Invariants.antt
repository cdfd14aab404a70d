use Rattle.std.proofs.Common.{◌≡◌, ◌-◌, None}
use Rattle.pmg_wire.specs.Many.{many}
use Rattle.pmg_wire.proofs.Counted.{with_front, last_of}
use Rattle.pmg_frame.specs.FenceReading.{read_participant}
use Rattle.pmg_frame.proofs.fence_reading.get_participants.Given as goal

-- those so far, and those that are still read, are all of them
abbrev pub invariant-loop : goal.invariant-loop
invariant-loop l = with_front l.participants.items (many read_participant (l.count - l.counter) (last_of l.participants.items) l.at) ≡ many read_participant l.count None l.fn.at
