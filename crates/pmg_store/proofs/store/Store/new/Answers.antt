use Rattle.pmg_store.proofs.LaneData.{nothing_in}
use Rattle.pmg_store.proofs.store.Store.new.Goals as goal

pub returns : goal.returns
returns c = nothing_in c.new.result.table c.new.ensures
