use Rattle.std.proofs.Common.{drop}
use Rattle.std.specs.List.{flat_map}
use Rattle.pmg_store.specs.Dump.{key_line}
use Rattle.pmg_store.specs.Tables.{rows_told}
use Rattle.pmg_value.proofs.WrittenParts.{WrittenSoFar}
use Rattle.pmg_store.proofs.dump.put_entry_lines.Given as goal

-- the lines so far were written, and those that are left make them all
abbrev pub invariant-loop-entry : goal.invariant-loop-entry
invariant-loop-entry g l =
    WrittenSoFar (g.W.Write.contents l.fn.writer.writer) (g.W.Write.contents l.writer.writer) (flat_map key_line (rows_told (drop l.entry-index l.entries))) (flat_map key_line (rows_told l.entries))
