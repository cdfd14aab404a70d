use Rattle.std.proofs.Common.{◌≡◌, [], take}
use Rattle.pmg_value.specs.Lists.{Each}
use Rattle.pmg_audit.specs.declared.moves.Saying.{Saying}
use Rattle.pmg_audit.proofs.sayings.Sayings.are_told.Given as goal

abbrev pub invariant-loop-saying : goal.invariant-loop-saying
invariant-loop-saying l = Each (λ (s : Saying). s.dues.items ≡ []) (take l.saying-index l.saying-items)
