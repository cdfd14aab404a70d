use Rattle.std.proofs.Common.{refl}
use Rattle.pmg_daemon.specs.Arguments.{nudge_said}
use Rattle.pmg_daemon.proofs.daemon.Daemon.nudge.Goals as goal

pub returns-clause-makes : goal.returns-clause-makes
returns-clause-makes c = c.call.ensures.makes nudge_said refl
