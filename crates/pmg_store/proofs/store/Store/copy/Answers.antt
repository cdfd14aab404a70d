use Rattle.std.proofs.Common.{◌∙◌}
use Rattle.pmg_store.proofs.LaneData.{same_data}
use Rattle.pmg_store.proofs.store.Store.copy.Goals as goal

pub returns : goal.returns
returns c = same_data c.self.inside.lanes.table c.in_ok-copy.field-0.table (λ q i. c.in_ok-copy.ensures i q) ∙ c.self.view_is
