use Rattle.std.specs.Prelude.{ℕ, ◌≤◌, ◌<◌, ◌⊎◌}
use Rattle.std.specs.BTreeMap.{btree_map_len}
use Rattle.pmg_join.specs.Ranges.{Between, HasRange, Covers}
use Rattle.pmg_join.proofs.ranges.merge_above.Given as goal

-- what is left was there, what is gone lies within what was reached, and all that was reached was there
abbrev pub invariant-loop-next : goal.invariant-loop-next
invariant-loop-next l =
    (l.to ≤ l.top)
    × ((start end : ℕ) → HasRange l.ends start end → HasRange l.fn.ends start end)
    × ((start end : ℕ) → HasRange l.fn.ends start end → HasRange l.ends start end ⊎ ((l.from < start) × (end ≤ l.top)))
    × ((n : ℕ) → Between l.to l.top n → Covers l.fn.ends n)

abbrev pub decreases-loop-next : goal.decreases-loop-next
decreases-loop-next l = btree_map_len l.ends
