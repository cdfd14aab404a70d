use Rattle.std.specs.List.{flat_map}
use Rattle.pmg_store.specs.Dump.{key_line}
use Rattle.pmg_store.specs.Tables.{lines_of}
use Rattle.pmg_value.proofs.WrittenParts.{WrittenSoFar}
use Rattle.pmg_store.proofs.dump.put_key_lines.Given as goal

-- the lines so far were written, and those that are left make them all
abbrev pub invariant-loop-key : goal.invariant-loop-key
invariant-loop-key g l =
    WrittenSoFar (g.W.Write.contents l.fn.writer.writer) (g.W.Write.contents l.writer.writer) (flat_map key_line (lines_of l.key-iterator)) (flat_map key_line (lines_of l.reads.entries))
