use Rattle.std.proofs.Common.{◌≡◌, ◌+◌, false, length, reverse}
use Rattle.pmg_jobinfo.specs.Jobs.{Jobs}
use Rattle.pmg_threads.specs.Running.{AreDesks, FitFrom, IsDeskOf, IsNodeJournal}
use Rattle.pmg_threads.proofs.desks.end_desks.Given as goal

-- the desks that are left are those of the first nodes, and the journals so far those of the others, the last one first
abbrev pub invariant-loop-desk : goal.invariant-loop-desk
invariant-loop-desk g l =
    (jobs : Jobs) → AreDesks jobs l.fn.desks.items → l.is_short ≡ false
    → FitFrom (IsDeskOf jobs) 0 l.desks.items × FitFrom (IsNodeJournal jobs) (length l.desks.items) (reverse l.records.items)
    × (length l.desks.items + length l.records.items ≡ length jobs.nodes)

abbrev pub decreases-loop-desk : goal.decreases-loop-desk
decreases-loop-desk g l = goal.left-loop-desk g l
