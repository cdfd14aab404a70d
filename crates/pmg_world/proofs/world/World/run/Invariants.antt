use Rattle.std.proofs.Common.{◌≡◌, take}
use Rattle.pmg_world.specs.Accounts.{Adds, GoesOn, IsAccountLawful, IsRun}
use Rattle.pmg_world.specs.KeptFences.{KeepFences}
use Rattle.pmg_world.proofs.world.World.run.Given as goal

abbrev pub invariant-loop-done : goal.invariant-loop-done
invariant-loop-done l = Adds l.fn.self.told (take l.done l.events) l.self.told × (l.self.jobs ≡ l.fn.self.jobs) × IsRun l.self × IsAccountLawful l.self × KeepFences l.self × GoesOn l.fn.self l.self
