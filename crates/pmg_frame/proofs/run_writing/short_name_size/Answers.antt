use Rattle.pmg_value.proofs.SetOrder.{in_order_rises}
use Rattle.pmg_frame.proofs.run_writing.short_name_size.Goals as goal

pub runs_size-size-requires-clause-rising : goal.runs_size-size-requires-clause-rising
runs_size-size-requires-clause-rising c = rw c.participants.ensures.value (in_order_rises c.signature.result.now.participants)
