use Rattle.std.proofs.Common.{◌≡◌, map, drop}
use Rattle.std.specs.Cmp.Lexicographic.{pointwise}
use Rattle.pmg_commit.specs.Pieces.{entry_of}
use Rattle.pmg_commit.specs.Entries.{is_same_entry}
use Rattle.pmg_commit.proofs.same.are_same_entries.Given as goal

-- all of them are the same where those that are left are
abbrev pub invariant-loop-i : goal.invariant-loop-i
invariant-loop-i l =
    pointwise is_same_entry (map entry_of (drop l.i l.entries)) (map entry_of (drop l.i l.others)) ≡ pointwise is_same_entry (map entry_of l.entries) (map entry_of l.others)
