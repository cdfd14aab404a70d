use Rattle.pmg_publish.proofs.Steps.{reads}
use Rattle.pmg_publish.proofs.viewer.enter.Goals as goal

pub enter_as-requires : goal.enter_as-requires
enter_as-requires c = reads _ _
