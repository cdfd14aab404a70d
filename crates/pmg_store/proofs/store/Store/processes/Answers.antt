use Rattle.std.proofs.Common.{ap, ◌∙◌}
use Rattle.std.specs.FinMap as finite
use Rattle.pmg_store.specs.Lanes.{data_in}
use Rattle.pmg_store.proofs.DumpLemmas.{keys_in}
use Rattle.pmg_store.proofs.store.Store.processes.Goals as goal

pub returns : goal.returns
returns c =
    c.in_ok-processes_in.ensures.all
    ∙ keys_in c.places.result.now c.processes_in.ensures.ordered
    ∙ ap (λ places. finite.keys (data_in places)) c.places.ensures
    ∙ ap finite.keys c.self.view_is
