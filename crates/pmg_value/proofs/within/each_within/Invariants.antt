use Rattle.std.proofs.Common.{◌≡◌, true, take}
use Rattle.std.specs.List.{list_all}
use Rattle.pmg_value.specs.Within.{lies_within}
use Rattle.pmg_value.proofs.within.each_within.Given as goal

-- the bytes so far passed
abbrev pub invariant-loop-byte : goal.invariant-loop-byte
invariant-loop-byte l = list_all (lies_within l.least l.most) (take l.byte-index l.bytes) ≡ true
