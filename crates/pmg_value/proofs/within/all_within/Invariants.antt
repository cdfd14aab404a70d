use Rattle.std.proofs.Common.{◌≡◌, length}
use Rattle.std.specs.List.{list_all}
use Rattle.pmg_value.specs.Within.{lies_within}
use Rattle.pmg_value.proofs.within.all_within.Given as goal

-- all pass where those that are left do
abbrev pub invariant-loop-rest : goal.invariant-loop-rest
invariant-loop-rest l = list_all (lies_within l.least l.most) l.fn.bytes ≡ list_all (lies_within l.least l.most) l.rest

abbrev pub decreases-loop-rest : goal.decreases-loop-rest
decreases-loop-rest l = length l.rest
