use Rattle.std.proofs.Common.{◌≡◌, ◌++◌}
use Rattle.pmg_scope.specs.Rows.{IsRising, table_of}
use Rattle.pmg_scope.proofs.table.Table.rows.Given as goal

abbrev pub invariant-loop-key : goal.invariant-loop-key
invariant-loop-key l = (table_of (l.rows.items ++ l.key-iterator) ≡ l.self) × IsRising (l.rows.items ++ l.key-iterator)
