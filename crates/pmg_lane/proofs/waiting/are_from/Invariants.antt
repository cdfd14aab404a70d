use Rattle.std.proofs.Common.{◌≡◌, drop, nat_le}
use Rattle.std.specs.List.{list_all}
use Rattle.pmg_lane.proofs.waiting.are_from.Given as goal

-- all are where those that are left are
abbrev pub invariant-loop-entry : goal.invariant-loop-entry
invariant-loop-entry l = list_all (λ e. nat_le l.number e.number) l.entries ≡ list_all (λ e. nat_le l.number e.number) (drop l.entry-index l.entries)
