use Rattle.std.specs.Prelude.{ℕ, ◌⊎◌, ◌<◌}
use Rattle.pmg_value.specs.Lists.{In}
use Rattle.pmg_join.specs.Ranges.{Covers, Spans, LieIn, AreApart}
use Rattle.pmg_join.proofs.ranges.Ranges.fill_rooms.Given as goal

-- what was seen so far lies in the ranges, and there is room for the others
abbrev pub invariant-loop-from : goal.invariant-loop-from
invariant-loop-from l =
    AreApart l.self.ends
    × LieIn l.fn.self.ends l.self.ends
    × ((n : ℕ) → Covers l.self.ends n → Covers l.fn.self.ends n ⊎ Covers l.fn.other.ends n)
    × ((from to : ℕ) → In (from, to) l.from-iterator → In (from, to) l.fn.other.ends.entries)
    × ((from to : ℕ) → In (from, to) l.fn.other.ends.entries → from < to → In (from, to) l.from-iterator ⊎ Spans l.self.ends from to)
