use Rattle.pmg_value.proofs.SetOrder.{in_order_rises}
use Rattle.pmg_frame.proofs.signature.SignatureOrd.cmp.Goals as goal

pub compare-participants-requires-clause-rising : goal.compare-participants-requires-clause-rising
compare-participants-requires-clause-rising c = rw c.participants.ensures.value (in_order_rises c.args.self.now.participants)

pub compare-participants-requires-clause-others_rising : goal.compare-participants-requires-clause-others_rising
compare-participants-requires-clause-others_rising c = rw c.participants-2.ensures.value (in_order_rises c.args.other.now.participants)
