use Rattle.std.specs.Prelude.{ℕ, ◌⊎◌}
use Rattle.pmg_value.specs.Lists.{In}
use Rattle.pmg_join.specs.Ranges.{Covers, Spans, LieIn, AreApart}
use Rattle.pmg_join.proofs.ranges.Ranges.make_rooms.Given as goal

-- there is room for what was seen so far, and the numbers are the same
abbrev pub invariant-loop-from : goal.invariant-loop-from
invariant-loop-from l =
    AreApart l.self.ends
    × LieIn l.fn.self.ends l.self.ends
    × ((n : ℕ) → Covers l.self.ends n → Covers l.fn.self.ends n)
    × ((from to : ℕ) → In (from, to) l.fn.other.ends.entries → In (from, to) l.from-iterator ⊎ Spans l.self.ends from from)
