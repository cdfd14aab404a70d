use Rattle.pmg_frame.proofs.FenceOrderLemmas.{signatures_exact, names_exact}
use Rattle.pmg_frame.proofs.laws.fence_order.Goals as goal

pub returns : goal.returns
returns c = record { signatures = signatures_exact; names = names_exact }
