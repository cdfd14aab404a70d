use Rattle.std.proofs.Common.{◌≡◌}
use Rattle.pmg_value.proofs.RowLemmas.{at_key, with_rest}
use Rattle.pmg_value.proofs.copied.copy_rows.Given as goal

-- with the rows that are left, the copies have what the rows have
abbrev pub invariant-loop-key : goal.invariant-loop-key
invariant-loop-key g l = (q : g.row.K.Denot) → with_rest g.K.Ord.cmp l.copies.entries l.key-iterator q ≡ at_key g.K.Ord.cmp q l.rows.entries
