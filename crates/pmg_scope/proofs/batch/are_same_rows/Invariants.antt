use Rattle.std.proofs.Common.{◌≡◌, drop}
use Rattle.std.specs.Cmp.Lexicographic.{pointwise}
use Rattle.pmg_scope.specs.Rows.{canonical_rows, is_same_row}
use Rattle.pmg_scope.proofs.batch.are_same_rows.Given as goal

-- all of them are the same where those that are left are
abbrev pub invariant-loop-i : goal.invariant-loop-i
invariant-loop-i l =
    pointwise is_same_row (canonical_rows (drop l.i l.rows)) (canonical_rows (drop l.i l.others)) ≡ pointwise is_same_row (canonical_rows l.rows) (canonical_rows l.others)
