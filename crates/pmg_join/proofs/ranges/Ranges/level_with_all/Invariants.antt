use Rattle.std.specs.Prelude.{ℕ, suc, ◌⊎◌, ◌<◌, ◌≤◌}
use Rattle.std.specs.Ordering.{nat_cmp}
use Rattle.std.specs.Map.{keys_of}
use Rattle.std.specs.List.Sorted.{IsStrictlySortedBy}
use Rattle.pmg_value.specs.Lists.{In}
use Rattle.pmg_join.specs.Ranges.{Covers}
use Rattle.pmg_join.proofs.ranges.Ranges.level_with_all.Given as goal

-- all up to the level is there, and nothing of these ranges after it; the others that were seen end there or before, and those
-- that are left are in order
abbrev pub invariant-loop-from : goal.invariant-loop-from
invariant-loop-from l = record {
  reached : (n : ℕ) → 0 < n → n ≤ l.level → Covers l.self.ends n ⊎ Covers l.other.ends n;
  no_more : Covers l.self.ends (suc l.level) → ⊥;
  seen : (from to : ℕ) → In (from, to) l.other.ends.entries → In (from, to) l.from-iterator ⊎ (to ≤ l.level);
  there : (from to : ℕ) → In (from, to) l.from-iterator → In (from, to) l.other.ends.entries;
  ordered : IsStrictlySortedBy nat_cmp (keys_of l.from-iterator);
}
