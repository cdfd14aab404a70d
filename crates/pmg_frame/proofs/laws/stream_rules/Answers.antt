use Rattle.pmg_frame.proofs.Cuts.{joins, stays_closed, is_determined, is_spelled, is_found, is_said}
use Rattle.pmg_frame.proofs.laws.stream_rules.Goals as goal

pub returns : goal.returns
returns c = record { joined = joins; closed = stays_closed; determined = is_determined; spelled = is_spelled; found = is_found; said = is_said }
