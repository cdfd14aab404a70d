use Rattle.std.proofs.Common.{take}
use Rattle.pmg_audit.specs.Replaying.{AllMayPut}
use Rattle.pmg_audit.proofs.replaying.AllReplayed.may_put_last.Given as goal

abbrev pub invariant-loop-saying : goal.invariant-loop-saying
invariant-loop-saying l = AllMayPut l.registry l.self.nodes.items (take l.saying-index l.sayings)
